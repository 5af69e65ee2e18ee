-- A state as a move that stands still: its folds, and the swings of its joints.
use Rattle.std.proofs.Common.{◌≡◌, ℕ, ◌+◌, ◌*◌, ◌^◌, ◌<◌, ◌≤◌, List, Option, None, Some, ℤ, ◌-ℤ◌}
use Rattle.std.proofs.Common.{unsigned_abs, refl, ap, arith}
use Rattle.std.proofs.lemmas.Int.{ints}
use Rattle.std.proofs.Math.Nat.{le_of_mul-le-mul_right}
use Rattle.carton_base.specs.declared.motion.State.{State}
use Rattle.carton_base.specs.declared.motion.Turn.{Turn}
use Rattle.carton_model.specs.HalfTurns.{joint_fold}
use Rattle.carton_model.specs.Moves.{stop_of}
use Rattle.carton_model.specs.Turning.{angles_of}
use Rattle.carton_place.specs.Swings.{change_of}
use Rattle.carton_place.specs.States.{fold_in}
use Rattle.carton_place.proofs.Still.{first_folds}

-- the angles at the first moment of the move from a state to itself
pub still_angles : (s : State) (turns : List Turn)
    → angles_of (λ k. joint_fold (stop_of s k) (stop_of s k) s.grid 0 1) turns ≡ angles_of (fold_in s) turns
still_angles s turns =
    ap (λ folds. angles_of folds turns) (first_folds (record { from = s; to = s; one_grid = refl }))

-- no joint changes
pub no_change : (s : State) (place : Option ℕ)
    → change_of (record { from = s; to = s; one_grid = refl }) place ≡ 0
no_change s None = refl
no_change s (Some k) = no_step (stop_of s k)
  where
    no_step : (a : ℤ) → unsigned_abs (a -ℤ a) ≡ 0
    no_step a = omega (arith, ints)

-- the bound on how far apart a swing's bounds are, where the joint changes by 0
pub within_two : (u c den : ℕ) → 0 < den → c ≡ 0 → u * den ≤ 2 ^ 41 * c + 2 * den → u ≤ 2
within_two u c den p e h = le_of_mul-le-mul_right {k = den} (omega (arith, h, e)) p
