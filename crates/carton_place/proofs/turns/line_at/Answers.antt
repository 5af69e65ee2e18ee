use Rattle.std.proofs.Common.{SFits, to_z-of_z, arith}
use Rattle.std.proofs.lemmas.Int.{fits_signed_from_abs}
use Rattle.std.specs.Int.{w32, w64}
use Rattle.carton_place.proofs.turns.line_at.Goals as goal

pub returns-clause-holds : goal.returns-clause-holds
returns-clause-holds g c =
    let near : SFits w32 c.args.at = c.ranges.at in
    let wide : SFits w64 c.args.at = fits_signed_from_abs w64 c.args.at (omega (arith, c.requires.near)) in
    simp to_z-of_z at c.whole.ensures.holds

pub returns-clause-size : goal.returns-clause-size
returns-clause-size g c =
    let near : SFits w32 c.args.at = c.ranges.at in
    let wide : SFits w64 c.args.at = fits_signed_from_abs w64 c.args.at (omega (arith, c.requires.near)) in
    let size = simp to_z-of_z at c.whole.ensures.size in
    omega (arith, size, c.requires.near)
