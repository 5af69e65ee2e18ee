-- A state as a move that stands still.
use Rattle.std.proofs.Common.{◌≡◌, ℕ, ◌*◌, ℤ, pos, ◌+ℤ◌, ◌-ℤ◌, ◌*ℤ◌, sym, subst, inl, inr, arith}
use Rattle.std.proofs.lemmas.Int.{ints}
use Rattle.std.proofs.lemmas.Bool.{cases_lt}
use Rattle.carton_base.specs.declared.limits.TheConstants.{MOST_JOINTS}
use Rattle.carton_base.specs.declared.motion.Motion.{Motion}
use Rattle.carton_base.specs.declared.motion.State.{State}
use Rattle.carton_model.specs.HalfTurns.{joint_fold, stop_fold}
use Rattle.carton_model.specs.Moves.{IsStop, IsState, IsMotion, stop_of, fold_at}
use Rattle.carton_place.specs.States.{fold_in}

first_fold : (a b : ℤ) (grid : ℕ) → joint_fold a b grid 0 1 ≡ stop_fold a grid
first_fold a b grid =
    let num : a *ℤ pos 1 +ℤ (b -ℤ a) *ℤ pos 0 ≡ a = omega (arith, ints) in
    let den : grid * 1 ≡ grid = omega arith in
    λ i. record { num = num i; den = den i }

-- the folds at the first moment of a move are those of the state that it leaves
pub first_folds : (m : Motion) → fold_at m 0 1 ≡ fold_in m.from
first_folds m = λ i k. first_fold (stop_of m.from k) (stop_of m.to k) m.from.grid i

-- a state of some joints is one of all places: the others stand at 0
pub in_all_places : (joints : ℕ) (s : State) → IsState joints s → IsState MOST_JOINTS s
in_all_places joints s h = record {
  stops = λ k l. elim (cases_lt k joints) [
    | inl lt ↦ h.stops k lt
    | inr ge ↦ subst (IsStop s.grid) (sym (h.others k (omega (arith, ge)) l)) (omega arith)
  ];
  others = λ k u l. absurd (omega (arith, u, l));
}

-- a move of some joints is one of all places
pub move_in_all_places : (joints : ℕ) (m : Motion) → IsMotion joints m → IsMotion MOST_JOINTS m
move_in_all_places joints m h = record {
  from = in_all_places joints m.from h.from;
  to = in_all_places joints m.to h.to;
  steps = λ k l. elim (cases_lt k joints) [
    | inl lt ↦ h.steps k lt
    | inr ge ↦ let a = h.from.others k (omega (arith, ge)) l in let b = h.to.others k (omega (arith, ge)) l in
        omega (arith, ints, a, b)
  ];
}
