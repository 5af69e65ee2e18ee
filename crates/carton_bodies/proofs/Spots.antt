-- How well the spots of points are known.
use Rattle.std.proofs.Common.{◌≡◌, subst, inl, inr, ℕ, ◌+◌, ◌*◌, ◌<◌, ◌≤◌, ◌^◌, List, get_or, Option, None}
use Rattle.std.proofs.Common.{Some, arith}
use Rattle.std.specs.Prelude.{All, IfSome}
use Rattle.std.proofs.lemmas.Bool.{cases_lt}
use Rattle.std.proofs.lemmas.Nat.{mul-le}
use Rattle.carton_base.specs.declared.limits.TheConstants.{MOST_JOINTS}
use Rattle.carton_base.specs.declared.motion.Motion.{Motion}
use Rattle.carton_base.specs.declared.motion.Turn.{Turn}
use Rattle.carton_model.specs.Moves.{IsMotion}
use Rattle.carton_model.specs.Turning.{IsTurn}
use Rattle.carton_place.specs.Swings.{change_of, ChangesWithin}
use Rattle.carton_bodies.specs.Spots.{spot_units}

change_small : (motion : Motion) (place : Option ℕ) → IsMotion MOST_JOINTS motion
    → IfSome place (λ k. k < MOST_JOINTS) → change_of motion place ≤ 4
change_small motion None m h = omega arith
change_small motion (Some k) m h = m.steps k h

-- no move changes a joint by more than four stops
pub changes_few : (motion : Motion) (turns : List Turn) → IsMotion MOST_JOINTS motion → All IsTurn turns
    → ChangesWithin 4 motion turns
changes_few motion turns m are k t l = change_small motion (get_or turns k t).place m (are k t l).place

-- four stops of a grid of 8 are half a right angle
pub few_units : (spread grid depth : ℕ) → depth ≡ 36 → 8 ≤ grid → spread * (grid * 2 ^ depth)
    ≤ 2 ^ 27 * (2 * (grid * 2 ^ depth) + 2 ^ 41 * 4) → spread ≤ spot_units
few_units spread grid depth e g h =
    let deep : spread * (grid * 2 ^ 36) ≤ 2 ^ 27 * (2 * (grid * 2 ^ 36) + 2 ^ 41 * 4) =
    subst (λ k. spread * (grid * 2 ^ k) ≤ 2 ^ 27 * (2 * (grid * 2 ^ k) + 2 ^ 41 * 4)) e h in
    elim (cases_lt spot_units spread) [
      | inl more ↦
          absurd (let m = mul-le (18 * 2 ^ 27 + 1) grid spread grid (omega (arith, more)) (omega arith) in
          omega (arith, m, deep, g))
      | inr few ↦ few
    ]
