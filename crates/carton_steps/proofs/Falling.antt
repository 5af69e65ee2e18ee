-- The estimate falls by at most one in each grid step, is 0 at the target and low everywhere.
use Rattle.std.proofs.Common.{◌≡◌, ◌≢◌, ℕ, zero, suc, ◌+◌, ◌*◌, ◌<◌, ◌≤◌, ◌-ℤ◌, List, [], ◌∷◌, refl, sym, ap}
use Rattle.std.proofs.Common.{subst, inl, inr, length, get_or, arith}
use Rattle.std.specs.Prelude.{unsigned_abs}
use Rattle.std.specs.Int.{div_ceil}
use Rattle.std.specs.List.{sum_by}
use Rattle.std.proofs.Math.Nat.{lt_of_mul-lt-mul_right}
use Rattle.std.proofs.lemmas.Grind.{div_ceil_times}
use Rattle.std.proofs.lemmas.Int.{ints}
use Rattle.std.proofs.lemmas.List.Sums.{sum_by-cons, sum_by-le}
use Rattle.carton_base.specs.declared.limits.TheConstants.{MOST_JOINTS}
use Rattle.carton_base.specs.declared.motion.State.{State}
use Rattle.carton_model.specs.Moves.{stop_of, IsState}
use Rattle.carton_text.specs.declared.task.Task.{Task}
use Rattle.carton_text.specs.declared.task.Team.{Team}
use Rattle.carton_text.specs.TaskRules.{all_places, IsTask}
use Rattle.carton_text.proofs.Apart.{Apart, apart_from_pairs}
use Rattle.carton_steps.specs.Steps.{moved, members_of, goal_of, next_of, IsGridStep}
use Rattle.carton_steps.specs.Estimates.{distance, farthest, steps_left, estimate_of}
use Rattle.carton_steps.proofs.Members.{IsIn, in_front, in_rest, of_all, apart_rest, apart_across, places_at}
use Rattle.carton_steps.proofs.Members.{in_team, is_joint, each_has_places}
use Rattle.carton_steps.proofs.Moves.{low_stops, is_moved}
use Rattle.carton_steps.proofs.Stops.{falls_toward, stop_of_moved, either_way, stop_stays}

-- a number that falls by at most so many divisors has a quotient that falls by at most so many
quotient_falls : (steps x y s : ℕ) → 0 < s → x ≤ y + steps * s → div_ceil x s ≤ div_ceil y s + steps
quotient_falls steps x y s some h =
    let below : div_ceil x s * s < (div_ceil y s + steps + 1) * s =
    omega (arith, (div_ceil_times x s some).1, (div_ceil_times y s some).0) in
    let less = lt_of_mul-lt-mul_right s below in
    omega (arith, less)

-- the largest distance falls by at most what each does
farthest_falls : (target a b : State) (most : ℕ) (members : List ℕ)
    → ((k : ℕ) → IsIn members k → distance target a k ≤ distance target b k + most)
    → farthest target a members ≤ farthest target b members + most
farthest_falls target a b most [] h = omega arith
farthest_falls target a b most (k ∷ members) h =
    omega (arith, h k (inl refl), farthest_falls target a b most members (λ p i. h p (inr i)))

module _ (t : Task) (some : 0 < t.stride) (members : List ℕ) (goal a : State) where
  abbrev after : State
  after = moved t.stride members goal a

  -- the distance of the joint at place k falls by at most so many strides
  abbrev Falls : ℕ → ℕ → Type 0
  Falls steps k = distance t.target a k ≤ distance t.target after k + steps * t.stride

  -- and what the teams have left by at most so many steps
  abbrev TeamsFall : ℕ → List Team → Type 0
  TeamsFall steps teams = sum_by (steps_left t a) teams ≤ sum_by (steps_left t after) teams + steps

  -- any distance falls by at most one
  by_one : (k : ℕ) → k < MOST_JOINTS → Falls 1 k
  by_one k lt =
      rw (stop_of_moved t.stride members goal a k lt)
      (either_way (λ z. unsigned_abs (stop_of t.target k -ℤ stop_of a k)
      ≤ unsigned_abs (stop_of t.target k -ℤ z) + 1 * t.stride) t.stride members goal a k
      (omega (arith, falls_toward t.stride (stop_of goal k) (stop_of a k) (stop_of t.target k)))
      (omega arith))

  -- that of a joint which is no member stays
  by_none : (k : ℕ) → k < MOST_JOINTS → ((p : ℕ) → IsIn members p → p ≢ k) → Falls 0 k
  by_none k lt other = let same = stop_stays t.stride members goal a k lt other in
      omega (arith, ap (λ z. unsigned_abs (stop_of t.target k -ℤ z)) same)

  teams_fall : (first rest : ℕ) (x : Team) (teams : List Team) → ((k : ℕ) → IsIn x.places k → Falls first k)
      → TeamsFall rest teams → TeamsFall (first + rest) (x ∷ teams)
  teams_fall first rest x teams here later =
      let one : steps_left t a x ≤ steps_left t after x + first =
      quotient_falls first (farthest t.target a x.places) (farthest t.target after x.places) t.stride some
      (farthest_falls t.target a after (first * t.stride) x.places here) in
      let before = sum_by-cons (steps_left t a) x teams in
      omega (arith, later, one, before, sum_by-cons (steps_left t after) x teams)

  -- teams none of whose joints is a member
  none_steps : (teams : List Team) → ((k : ℕ) → IsIn (all_places teams) k → Falls 0 k) → TeamsFall 0 teams
  none_steps [] h = omega arith
  none_steps (x ∷ teams) h =
      teams_fall 0 0 x teams (λ k i. h k (in_front x.places (all_places teams) k i))
      (none_steps teams (λ k i. h k (in_rest x.places (all_places teams) k i)))

  -- teams of which the one of that number steps, where no two have a place in common
  one_steps : (teams : List Team) (team : ℕ) → ((p : ℕ) → IsIn members p → IsIn (places_at teams team) p)
      → ((k : ℕ) → IsIn (all_places teams) k → k < MOST_JOINTS) → Apart (all_places teams)
      → TeamsFall 1 teams
  one_steps [] team mine near apart = omega arith
  one_steps (x ∷ teams) zero mine near apart = let rest = all_places teams in
      teams_fall 1 0 x teams (λ k i. by_one k (near k (in_front x.places rest k i)))
      (none_steps teams (λ k i. by_none k (near k (in_rest x.places rest k i))
      (λ p m. apart_across x.places rest p k apart (mine p m) i)))
  one_steps (x ∷ teams) (suc team) mine near apart = let rest = all_places teams in
      teams_fall 0 1 x teams (λ k i. by_none k (near k (in_front x.places rest k i))
      (λ p m e. apart_across x.places rest k p apart i (in_team teams team p (mine p m)) (sym e)))
      (one_steps teams team mine (λ k i. near k (in_rest x.places rest k i))
      (apart_rest x.places rest apart))

-- a grid step takes at most one off the estimate
pub step_falls : (t : Task) (a b : State) → IsTask t → IsGridStep t a b
    → estimate_of t a ≤ estimate_of t b + 1
unfolding next_of estimate_of
step_falls t a b rules step =
    let members = members_of t step.team in
    let goal = goal_of t step.forward in
    subst (λ s. sum_by (steps_left t a) t.teams ≤ sum_by (steps_left t s) t.teams + 1)
    (is_moved t.stride members goal a b step.leads)
    (one_steps t (omega (arith, rules.stride.from)) members goal a t.teams step.team (λ p m. m)
    (λ k i. omega (arith, rules.few, is_joint t rules k i))
    (apart_from_pairs (all_places t.teams) rules.teams.apart))

-- the largest distance is at most what each is
farthest_low : (target at : State) (most : ℕ) (members : List ℕ)
    → ((k : ℕ) → IsIn members k → distance target at k ≤ most) → farthest target at members ≤ most
farthest_low target at most [] h = omega arith
farthest_low target at most (k ∷ members) h =
    omega (arith, h k (inl refl), farthest_low target at most members (λ p i. h p (inr i)))

-- where no team has more steps left than so many
sum_low : (t : Task) (at : State) (most : ℕ) → IsTask t
    → ((k : ℕ) → k < MOST_JOINTS → distance t.target at k ≤ most) → estimate_of t at ≤ length t.teams * most
unfolding estimate_of
sum_low t at most rules low = sum_by-le (steps_left t at) most t.teams (λ i d lt.
    let x : Team = get_or t.teams i d in
    let far = farthest t.target at x.places in
    let near : far ≤ most = farthest_low t.target at most x.places
    (λ k m. low k (of_all (λ p. p < MOST_JOINTS) x.places (each_has_places t rules i d lt) k m)) in
    let few : steps_left t at x ≤ far =
    grind (arith, (div_ceil_times far t.stride (omega (arith, rules.stride.from))).1) in
    omega (arith, near, few))

-- the estimate of a state of the task's joints
pub low : (t : Task) (s : State) → IsTask t → IsState (length t.creases) s → estimate_of t s ≤ 768
low t s rules state =
    let ends = low_stops (length t.creases) t.target rules.target in
    let sum = sum_low t s 64 rules
    (λ k lt. omega (arith, ints, ends k lt, low_stops (length t.creases) s state k lt)) in
    omega (arith, sum, rules.teams.few)

-- nothing is left at the target
pub none_left : (t : Task) → IsTask t → estimate_of t t.target ≡ 0
none_left t rules = let sum = sum_low t t.target 0 rules (λ k lt. omega (arith, ints)) in
    omega (arith, sum)
