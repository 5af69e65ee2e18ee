-- One stop after a step towards a goal, and the stops of members written one after the other.
use Rattle.std.proofs.Common.{◌≡◌, ◌≢◌, ℕ, ◌+◌, ◌<◌, ◌≤◌, ℤ, pos, ◌-ℤ◌, ◌==◌, cond, true, false}
use Rattle.std.proofs.Common.{List, ◌∷◌, length, get_or, set, drop, drop-cons, refl, sym, ap, ◌∙◌, ◌⊎◌}
use Rattle.std.proofs.Common.{inl, inr, get_or-set_same, get_or-set_other, add-one, arith}
use Rattle.std.specs.Prelude.{unsigned_abs}
use Rattle.std.proofs.lemmas.Bool.{cond_both}
use Rattle.std.proofs.lemmas.Bool.Decides.{eqb_tells}
use Rattle.std.proofs.lemmas.Int.{ints, clamps}
use Rattle.std.proofs.lemmas.List.FromFn.{get_or-map-range_with_len}
use Rattle.carton_base.specs.declared.limits.TheConstants.{MOST_JOINTS}
use Rattle.carton_base.specs.declared.motion.State.{State}
use Rattle.carton_model.specs.Moves.{stop_of}
use Rattle.carton_steps.specs.Steps.{toward, is_member, stop_after, moved}
use Rattle.carton_steps.proofs.Members.{IsIn, no_member}

-- a stop changes by at most the stride
pub near_toward : (stride : ℕ) (goal stop : ℤ) → unsigned_abs (toward stride goal stop -ℤ stop) ≤ stride
near_toward stride goal stop = omega (arith, ints, clamps)

-- it stays as near 0 as the stop and the goal are
pub kept_toward : (stride most : ℕ) (goal stop : ℤ) → unsigned_abs goal ≤ most → unsigned_abs stop ≤ most
    → unsigned_abs (toward stride goal stop) ≤ most
kept_toward stride most goal stop g s = omega (arith, ints, clamps)

-- the distance to any stop falls by at most the stride
pub falls_toward : (stride : ℕ) (goal stop far : ℤ) → unsigned_abs (far -ℤ stop)
    ≤ unsigned_abs (far -ℤ toward stride goal stop) + stride
falls_toward stride goal stop far = omega (arith, ints, clamps)

-- the stops of the state after a step
pub stop_of_moved : (stride : ℕ) (members : List ℕ) (goal at : State) (k : ℕ) → k < MOST_JOINTS
    → stop_of (moved stride members goal at) k ≡ stop_after stride members goal at k
stop_of_moved stride members goal at k lt =
    get_or-map-range_with_len (stop_after stride members goal at) 0 MOST_JOINTS k k (pos 0) lt (omega arith)

-- what holds of the stop that a member gets, and of the stop before, holds of the stop after the step
pub either_way : (P : ℤ → Type 0) (stride : ℕ) (members : List ℕ) (goal at : State) (k : ℕ)
    → P (toward stride (stop_of goal k) (stop_of at k)) → P (stop_of at k)
    → P (stop_after stride members goal at k)
either_way P stride members goal at k moves stays =
    cond_both (is_member members k) (toward stride (stop_of goal k) (stop_of at k)) (stop_of at k) P
    (λ _. moves) (λ _. stays)

-- the stop of a joint that is no member stays
pub stop_stays : (stride : ℕ) (members : List ℕ) (goal at : State) (k : ℕ) → k < MOST_JOINTS
    → ((p : ℕ) → IsIn members p → p ≢ k) → stop_of (moved stride members goal at) k ≡ stop_of at k
stop_stays stride members goal at k lt other = stop_of_moved stride members goal at k lt
    ∙ ap (λ b. cond b (toward stride (stop_of goal k) (stop_of at k)) (stop_of at k))
    (no_member members k other)

module _ (stride : ℕ) (goal at : State) where
  abbrev goes : ℕ → ℤ
  goes k = toward stride (stop_of goal k) (stop_of at k)

  -- the stop at place k once these members are written, too
  abbrev pub written : List ℕ → List ℤ → ℕ → ℤ
  written members stops k = cond (is_member members k) (goes k) (get_or stops k (pos 0))

  -- it stays where the first of them is written
  stays : (rest : List ℕ) (stops : List ℤ) (p k : ℕ) → p < length stops
      → written rest (set stops p (goes p)) k ≡ written (p ∷ rest) stops k
  stays rest stops p k within = by_place (eqb_tells p k)
    where
      by_place : (((p == k) ≡ true) × (p ≡ k)) ⊎ (((p == k) ≡ false) × (p ≢ k))
          → written rest (set stops p (goes p)) k ≡ written (p ∷ rest) stops k
      by_place (inl (test, same)) =
          let value : get_or (set stops p (goes p)) k (pos 0) ≡ goes k =
          ap (λ q. get_or (set stops p (goes p)) q (pos 0)) (sym same)
          ∙ get_or-set_same stops p (goes p) (pos 0) within ∙ ap goes same in
          rw (test, value)
          (cond_both (is_member rest k) (goes k) (goes k) (λ z. z ≡ goes k) (λ _. refl) (λ _. refl))
      by_place (inr (test, other)) =
          rw (test, get_or-set_other stops p k (goes p) (pos 0) (λ e. other (sym e))) refl

  pub one_more : (members : List ℕ) (stops : List ℤ) (i p k : ℕ) (z : ℤ) → i < length members
      → p ≡ get_or members i 0 → p < length stops → z ≡ goes (get_or members i 0)
      → written (drop (i + 1) members) (set stops p z) k ≡ written (drop i members) stops k
  one_more members stops i p k z lt is within same =
      let next : drop i members ≡ get_or members i 0 ∷ drop (i + 1) members =
      rw add-one (drop-cons members i 0 lt) in
      ap (λ x. written (drop (i + 1) members) (set stops p x) k) (same ∙ ap goes (sym is))
      ∙ stays (drop (i + 1) members) stops p k within
      ∙ ap (λ x. written (x ∷ drop (i + 1) members) stops k) is
      ∙ ap (λ xs. written xs stops k) (sym next)
