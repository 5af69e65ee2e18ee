-- The stops of a plan's states.
use Rattle.std.proofs.Common.{◌≡◌, ℕ, ◌+◌, ◌<◌, ◌≤◌, zero, suc, ⊎_elim, subst, ℤ, pos, List, [], ◌∷◌, ◌++◌}
use Rattle.std.proofs.Common.{length, map, refl, sym, ap, ◌∙◌, arith, leb, false, Ok}
use Rattle.std.proofs.lemmas.Bool.{lt-leb, cases_lt}
use Rattle.std.specs.List.{AllByRecursion, flat_map, range_with_len}
use Rattle.std.proofs.lemmas.List.{append-nil, length-map, map-append, get_or_past}
use Rattle.std.proofs.lemmas.List.FromFn.{fill_by_all, length-map-range_with_len, get_or-map-range_with_len}
use Rattle.std.proofs.lemmas.List.FromFn.{map-range_with_len_more}
use Rattle.std.proofs.lemmas.Grind.{flat_map-append}
use Rattle.carton_base.specs.declared.limits.TheConstants.{MOST_JOINTS, MOST_STATES}
use Rattle.carton_base.specs.declared.motion.State.{State}
use Rattle.carton_base.specs.declared.ids.EdgeId.{EdgeId}
use Rattle.carton_text.specs.declared.grid.Grid.{Grid}
use Rattle.carton_model.specs.Moves.{IsStop, IsState, stop_of}
use Rattle.carton_text.specs.Grids.{stops_of}
use Rattle.carton_lines.specs.StrictLines.{spaced}
use Rattle.carton_text.specs.Tasks.{stop_at, all_stops}
use Rattle.carton_text.specs.PlainPlans.{PlainState, plain_state}
use Rattle.carton_text.specs.Plans.{joint_stops, stops_told, with_state}

-- the text of one stop more
pub one_more : (s : State) (k : ℕ) → flat_map spaced (joint_stops (k + 1) s)
    ≡ flat_map spaced (joint_stops k s) ++ spaced (stop_of s k)
one_more s k =
    ap (λ (zs : List ℤ). flat_map spaced zs) (map-range_with_len_more (stop_of s) 0 k k (omega arith))
    ∙ flat_map-append spaced (joint_stops k s) (stop_of s k ∷ [])
    ∙ ap (λ (bs : List ℕ). flat_map spaced (joint_stops k s) ++ bs) (append-nil (spaced (stop_of s k)))

-- stops in all places are all stops
pub all_twice : (zs : List ℤ) → all_stops (all_stops zs) ≡ all_stops zs
all_twice zs =
    sym (fill_by_all (stop_at (all_stops zs)) (all_stops zs) MOST_JOINTS (pos 0)
    (length-map-range_with_len (stop_at zs) 0 MOST_JOINTS) (λ k lt. refl))

pub more_states : (states : List State) (s : State) (grid : ℕ) (zs : List ℤ) → s.grid ≡ grid
    → s.stops ≡ all_stops zs
    → map plain_state (states ++ s ∷ []) ≡ map plain_state states
    ++ (record { grid = grid; stops = all_stops zs }) ∷ []
more_states states s grid zs g e =
    let one : PlainState = record { grid = grid; stops = all_stops zs } in
    let same : plain_state s ≡ one = λ i. record { grid = g i; stops = (ap all_stops e ∙ all_twice zs) i } in
    map-append plain_state states (s ∷ []) ∙ ap (λ (t : PlainState). map plain_state states ++ t ∷ []) same

-- the states with one more
pub told_more : (grid : Grid) (creases : List EdgeId) (states : List State) (line : List ℕ) (zs : List ℤ)
    (s : State) → stops_told grid (length creases) line ≡ Ok zs → length states < MOST_STATES
    → s.grid ≡ stops_of grid → s.stops ≡ all_stops zs
    → with_state (record { grid = grid; creases = creases; states = map plain_state states }) line
    ≡ Ok (record { grid = grid; creases = creases; states = map plain_state (states ++ s ∷ []) })
unfolding with_state
told_more grid creases states line zs s told few g e =
    let room : leb MOST_STATES (length (map plain_state states)) ≡ false =
    lt-leb _ _ (omega (arith, few, length-map states plain_state)) in
    rw (told, room, more_states states s (stops_of grid) zs g e) refl

same_places : (f g : ℕ → ℤ) (n : ℕ) → ((k : ℕ) → k < n → f k ≡ g k) → map f (range_with_len 0 n)
    ≡ map g (range_with_len 0 n)
same_places f g n same =
    fill_by_all g (map f (range_with_len 0 n)) n (pos 0) (length-map-range_with_len f 0 n)
    (λ k lt. get_or-map-range_with_len f 0 n k k (pos 0) lt (omega arith) ∙ same k lt)

-- the stop in a place of all stops
pub stop_of_all : (zs : List ℤ) (k : ℕ) → k < MOST_JOINTS → stop_at (all_stops zs) k ≡ stop_at zs k
stop_of_all zs k lt = get_or-map-range_with_len (stop_at zs) 0 MOST_JOINTS k k (pos 0) lt (omega arith)

-- the stops of the joints among these
pub first_stops : ℕ → List ℤ → List ℤ
first_stops joints zs = map (stop_at zs) (range_with_len 0 joints)

pub first_of_all : (joints : ℕ) (zs : List ℤ) → length zs ≡ joints → joints ≤ MOST_JOINTS
    → first_stops joints (all_stops zs) ≡ zs
unfolding first_stops
first_of_all joints zs count few =
    sym (fill_by_all (stop_at (all_stops zs)) zs joints (pos 0) count
    (λ k lt. sym (stop_of_all zs k (omega arith))))

pub joints_first : (joints : ℕ) (s : State) → joints ≤ MOST_JOINTS → joint_stops joints s
    ≡ first_stops joints (all_stops s.stops)
unfolding first_stops
joints_first joints s few =
    same_places (stop_of s) (stop_at (all_stops s.stops)) joints
    (λ k lt. sym (stop_of_all s.stops k (omega arith)))

-- all stops of a state are those of its joints, and 0 past them
pub all_of_joints : (joints : ℕ) (s : State) → IsState joints s → all_stops (joint_stops joints s)
    ≡ all_stops s.stops
all_of_joints joints s is = same_places (stop_at (joint_stops joints s)) (stop_at s.stops) MOST_JOINTS
    (λ k lt. ⊎_elim
    (λ joint. get_or-map-range_with_len (stop_of s) 0 joints k k (pos 0) joint (omega arith))
    (λ past. get_or_past (joint_stops joints s) k (pos 0) (omega
    (arith, length-map-range_with_len (stop_of s) 0 joints)) ∙ sym (is.others k past lt))
    (cases_lt k joints))

near_stop : (grid : ℕ) (zs : List ℤ) (k : ℕ) → AllByRecursion (IsStop grid) zs → IsStop grid (stop_at zs k)
near_stop grid [] k h = omega arith
near_stop grid (z ∷ zs) zero h = h.0
near_stop grid (z ∷ zs) (suc k) h = near_stop grid zs k h.1

-- a state of these stops
pub state_is : (joints : ℕ) (zs : List ℤ) (s : State) → length zs ≡ joints → joints ≤ MOST_JOINTS
    → AllByRecursion (IsStop s.grid) zs → all_stops s.stops ≡ all_stops zs → IsState joints s
state_is joints zs s count few near same =
    let place : (k : ℕ) → k < MOST_JOINTS → stop_of s k ≡ stop_at zs k =
    λ k lt. sym (stop_of_all s.stops k lt) ∙ ap (λ (xs : List ℤ). stop_at xs k) same
    ∙ stop_of_all zs k lt in
    record {
      stops = λ k lt. subst (IsStop s.grid) (sym (place k (omega arith))) (near_stop s.grid zs k near);
      others = λ k past lt. place k lt ∙ get_or_past zs k (pos 0) (omega arith);
    }

near_all : (grid : ℕ) (f : ℕ → ℤ) (a n : ℕ) → ((k : ℕ) → k < a + n → IsStop grid (f k))
    → AllByRecursion (IsStop grid) (map f (range_with_len a n))
near_all grid f a zero h = tt
near_all grid f a (suc n) h = (h a (omega arith), near_all grid f (a + 1) n (λ k lt. h k (omega arith)))

-- the stops of a state's joints
pub near_joints : (joints : ℕ) (s : State) → IsState joints s
    → AllByRecursion (IsStop s.grid) (joint_stops joints s)
near_joints joints s is = near_all s.grid (stop_of s) 0 joints (λ k lt. is.stops k (omega arith))

pub count_joints : (joints : ℕ) (s : State) → length (joint_stops joints s) ≡ joints
count_joints joints s = length-map-range_with_len (stop_of s) 0 joints
