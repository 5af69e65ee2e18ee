use Rattle.std.proofs.Common.{◌≡◌, sym, subst, ℕ, ◌*◌, ◌^◌, ◌<◌, ◌≤◌, ℤ, pos, ◌-ℤ◌, ◌+ℤ◌, ◌*ℤ◌, ◌≤ℤ◌}
use Rattle.std.proofs.Common.{unsigned_abs, Option, Some, IfSome, SFits, to_z-of_z, arith, get_or}
use Rattle.std.proofs.lemmas.Int.{ints, fits_signed_from_abs}
use Rattle.std.proofs.lemmas.Nat.{pow_pos}
use Rattle.std.specs.Int.{w8}
use Rattle.carton_base.specs.Rounding.{unit}
use Rattle.carton_base.specs.declared.limits.TheConstants.{MOST_JOINTS}
use Rattle.carton_base.specs.declared.motion.State.{State}
use Rattle.carton_halfturn.proofs.Sizes.{grid_bounds}
use Rattle.carton_model.specs.Moves.{IsState, stop_of}
use Rattle.carton_place.specs.Swings.{IsSwingOver}
use Rattle.carton_place.proofs.Ramps.{coarser, close_by}
use Rattle.carton_place.proofs.joints.swing_over.Goals as goal

some_place : (place : Option ℕ) (k : ℕ) → place ≡ Some k → IfSome place (λ j. j < MOST_JOINTS)
    → k < MOST_JOINTS
some_place place k e h = subst (λ p. IfSome p (λ j. j < MOST_JOINTS)) e h

stop_fits : (s : State) (k : ℕ) → IsState MOST_JOINTS s → k < MOST_JOINTS → SFits w8 (stop_of s k)
stop_fits s k h p = let b = grid_bounds s.grid s.on_grid in
    fits_signed_from_abs w8 (stop_of s k) (omega (arith, h.stops k p, b.1))

pub returns-in_default : goal.returns-in_default
returns-in_default c =
    subst (λ q. IsSwingOver c.args.motion.now q c.args.piece.index c.args.piece.depth c.still.result)
    (sym c.in_default.is) (c.still.ensures c.args.motion.now c.args.piece.index c.args.piece.depth)

pub returns : goal.returns
returns c =
    let k = some_place _ _ c.in-Some.is c.requires.turn.place in
    let from : SFits w8 (get_or c.args.motion.now.from.stops c.in-Some.place (pos 0)) =
    stop_fits c.args.motion.now.from c.in-Some.place c.requires.motion.from k in
    let to : SFits w8 (get_or c.args.motion.now.to.stops c.in-Some.place (pos 0)) =
    stop_fits c.args.motion.now.to c.in-Some.place c.requires.motion.to k in
    let follows = simp to_z-of_z at c.span.ensures.follows in
    let change = simp to_z-of_z at c.span.ensures.change in
    let step : unsigned_abs (c.span.result.to -ℤ c.span.result.from)
    ≤ unsigned_abs (stop_of c.args.motion.now.to c.in-Some.place
    -ℤ stop_of c.args.motion.now.from c.in-Some.place) = omega (arith, ints, change) in
    let narrow =
    λ (b : ℤ) (a : ℤ) (h : ((b -ℤ a) *ℤ c.span.result.den)
    ≤ℤ (pos (2 * unsigned_abs (c.span.result.to -ℤ c.span.result.from)) *ℤ unit
    +ℤ pos 2 *ℤ c.span.result.den)).
    subst (λ z. ((b -ℤ a) *ℤ z)
    ≤ℤ (pos (2 * unsigned_abs (c.span.result.to -ℤ c.span.result.from)) *ℤ unit +ℤ pos 2 *ℤ z))
    c.span.ensures.den h in
    subst (λ q. IsSwingOver c.args.motion.now q c.args.piece.index c.args.piece.depth c.swing_of.result)
    (sym c.in-Some.is)
    record {
      follows = λ m n d o p. coarser c.swing_of.result m d _ _ _ (2 ^ c.args.piece.depth)
          (pow_pos c.args.piece.depth) (follows m n d p) (c.swing_of.ensures.holds m d o);
      close = record {
        cos = close_by _ _ _ _ _ c.swing_of.result.cos.all.ordered step
            (narrow c.swing_of.result.cos.all.hi c.swing_of.result.cos.all.lo c.swing_of.ensures.cos_narrow);
        sin = close_by _ _ _ _ _ c.swing_of.result.sin.all.ordered step
            (narrow c.swing_of.result.sin.all.hi c.swing_of.result.sin.all.lo c.swing_of.ensures.sin_narrow);
      };
    }
