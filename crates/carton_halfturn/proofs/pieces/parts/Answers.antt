use Rattle.std.proofs.Common.{refl, ◌^◌, ◌*ℤ◌, SFits, arith}
use Rattle.std.specs.Int.{w64}
use Rattle.std.proofs.lemmas.Int.{to_z-of_z, fits_signed_mul}
use Rattle.carton_base.proofs.Sized.{product_size}
use Rattle.carton_halfturn.proofs.pieces.parts.Goals as goal

pub overflow_mul-result : goal.overflow_mul-result
overflow_mul-result c =
    let a : SFits w64 c.args.stops = c.ranges.stops in
    let b : SFits w64 c.args.of = c.ranges.of in
    simp to_z-of_z (fits_signed_mul w64 c.args.stops c.args.of (2 ^ 5) (2 ^ 36) c.requires.stops c.requires.of
    (omega arith))

pub returns : goal.returns
returns c =
    let a : SFits w64 c.args.stops = c.ranges.stops in
    let b : SFits w64 c.args.of = c.ranges.of in
    let p : SFits w64 (c.args.stops *ℤ c.args.of) = fits_signed_mul w64 c.args.stops c.args.of (2 ^ 5)
    (2 ^ 36) c.requires.stops c.requires.of (omega arith) in
    simp to_z-of_z
    (record {
      value = refl;
      size = product_size c.args.stops c.args.of 5 36 c.requires.stops c.requires.of;
    })
