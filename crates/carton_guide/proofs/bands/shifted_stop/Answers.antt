use Rattle.std.proofs.Common.{◌≡◌, ◌^◌, ◌<◌, pos, ◌+ℤ◌, ◌-ℤ◌, SFits, to_z, arith, rules}
use Rattle.std.specs.Int.{w8, w32}
use Rattle.std.proofs.lemmas.Int.{ints, to_z-of_z, to_z_pos}
use Rattle.carton_halfturn.proofs.Sizes.{grid_bounds}
use Rattle.carton_model.specs.Moves.{IsStop}
use Rattle.carton_guide.specs.Bands.{band_stops}
use Rattle.carton_guide.proofs.bands.shifted_stop.Goals as goal

pub returns-in-Under : goal.returns-in-Under
returns-in-Under c =
    let stop : SFits w8 c.args.stop = c.ranges.stop in
    let wide : SFits w32 c.from-in-Under.result = search rules in
    let e = simp to_z-of_z at c.from-in-Under.ensures in
    let g = (grid_bounds c.args.grid c.requires.grid).1 in
    let h : IsStop c.args.grid (c.args.stop -ℤ pos (band_stops c.args.grid c.args.band)) =
    rw c.in-Under.is at c.requires.within in
    let few : band_stops c.args.grid c.args.band < 2 ^ 31 = omega (arith, ints, h, g, stop) in
    let by : to_z w32 (band_stops c.args.grid c.args.band) ≡ pos (band_stops c.args.grid c.args.band) =
    to_z_pos w32 _ few in
    let there : SFits w32 (c.args.stop -ℤ pos (band_stops c.args.grid c.args.band)) =
    omega (arith, ints, h, g) in
    let fits : SFits w8 (c.args.stop -ℤ pos (band_stops c.args.grid c.args.band)) =
    omega (arith, ints, h, g) in
    rw (c.in-Under.is, c.from.ensures, c.from-2.ensures, by) (simp to_z-of_z (rw e (simp to_z-of_z)))

pub returns-in-Over : goal.returns-in-Over
returns-in-Over c =
    let stop : SFits w8 c.args.stop = c.ranges.stop in
    let wide : SFits w32 c.from-in-Over.result = search rules in
    let e = simp to_z-of_z at c.from-in-Over.ensures in
    let g = (grid_bounds c.args.grid c.requires.grid).1 in
    let h : IsStop c.args.grid (c.args.stop +ℤ pos (band_stops c.args.grid c.args.band)) =
    rw c.in-Over.is at c.requires.within in
    let few : band_stops c.args.grid c.args.band < 2 ^ 31 = omega (arith, ints, h, g, stop) in
    let by : to_z w32 (band_stops c.args.grid c.args.band) ≡ pos (band_stops c.args.grid c.args.band) =
    to_z_pos w32 _ few in
    let there : SFits w32 (c.args.stop +ℤ pos (band_stops c.args.grid c.args.band)) =
    omega (arith, ints, h, g) in
    let fits : SFits w8 (c.args.stop +ℤ pos (band_stops c.args.grid c.args.band)) =
    omega (arith, ints, h, g) in
    rw (c.in-Over.is, c.from.ensures, c.from-2.ensures, by) (simp to_z-of_z (rw e (simp to_z-of_z)))
