-- How well the swings of joints are known over pieces of a move.
use Rattle.std.proofs.Common.{◌≡◌, ℕ, ◌+◌, ◌*◌, ◌<◌, ◌≤◌, ◌^◌, List, length, get_or, take, Option, None, Some}
use Rattle.std.proofs.Common.{◌-◌, true, pos, arith, ap, sym, ◌∙◌, subst, refl, inl, inr}
use Rattle.std.specs.Prelude.{All, IfSome}
use Rattle.std.proofs.lemmas.Bool.{cases_lt}
use Rattle.std.proofs.lemmas.Nat.{mul-le, pow-add}
use Rattle.std.proofs.Math.Pow.{pow_mono}
use Rattle.std.proofs.lemmas.List.{get_or-take, length-take-le}
use Rattle.carton_base.specs.declared.limits.TheConstants.{MOST_JOINTS}
use Rattle.carton_base.specs.declared.motion.Motion.{Motion}
use Rattle.carton_base.specs.declared.motion.Turn.{Turn}
use Rattle.carton_halfturn.proofs.Sizes.{grid_bounds}
use Rattle.carton_model.specs.Moves.{IsMotion}
use Rattle.carton_model.specs.Turning.{IsTurn}
use Rattle.carton_place.specs.declared.swings.Swing.{Swing}
use Rattle.carton_place.specs.Held.{IsSwingWithin}
use Rattle.carton_place.specs.Swings.{change_of, IsSwingOver}
use Rattle.carton_reach.specs.Reaches.{swing_units}

-- no move changes a joint by more than four stops
change_small : (motion : Motion) (place : Option ℕ) → IsMotion MOST_JOINTS motion
    → IfSome place (λ k. k < MOST_JOINTS) → change_of motion place ≤ 4
change_small motion None m h = omega arith
change_small motion (Some k) m h = m.steps k h

-- four stops of a grid of 8 are half a right angle
few_units : (u change grid p q : ℕ) → p * q ≡ 2 ^ 40 → 0 < p → change ≤ 4 → 8 ≤ grid → u * (grid * p)
    ≤ 2 ^ 41 * change + 2 * (grid * p) → u ≤ q + 2
few_units u change grid p q e some c g h = elim (cases_lt (q + 2) u) [
  | inl more ↦ absurd (
      let m = mul-le (q + 3) (grid * p) u (grid * p) (omega (arith, more)) (omega arith) in
      let whole = ap (λ x. grid * x) e in
      let parts = mul-le 8 1 grid p g some in
      omega (arith, m, h, c, g, whole, parts))
  | inr few ↦ few
]

-- a piece is at least 2^-40 of the move
whole_parts : (depth : ℕ) → depth ≤ 36 → 2 ^ depth * 2 ^ (40 - depth) ≡ 2 ^ 40
whole_parts depth h = let e : depth + (40 - depth) ≡ 40 = omega (arith, h) in
    sym (pow-add 2 depth (40 - depth)) ∙ ap (λ x. 2 ^ x) e

pub narrow : (motion : Motion) (turns : List Turn) (swings : List Swing) (index depth : ℕ)
    → IsMotion MOST_JOINTS motion → All IsTurn turns → length turns ≤ length swings
    → ((k : ℕ) (s : Swing) (t : Turn) → k < length turns
    → IsSwingOver motion (get_or turns k t).place index depth (get_or swings k s))
    → depth ≤ 36 → All (IsSwingWithin (swing_units depth)) (take (length turns) swings)
narrow motion turns swings index depth m are enough over shallow k s l =
    let count = length turns in
    let below : k < count = omega (arith, l, length-take-le count swings enough) in
    let t : Turn = record { place = None; upright = true; at = pos 0; sign = pos 1; signed = refl } in
    let o = over k s t below in
    let c = change_small motion (get_or turns k t).place m (are k t below).place in
    let g = (grid_bounds motion.from.grid motion.from.on_grid).0 in
    let some : 2 ^ 0 ≤ 2 ^ depth = pow_mono {i = 0} {j = depth} (omega arith) in
    let few = λ (u : ℕ). few_units u (change_of motion (get_or turns k t).place) motion.from.grid (2 ^ depth)
    (2 ^ (40 - depth)) (whole_parts depth shallow) (omega (arith, some)) c g in
    subst (IsSwingWithin (swing_units depth)) (sym (get_or-take count swings k s below)) record {
      cos = few _ o.close.cos;
      sin = few _ o.close.sin;
    }
