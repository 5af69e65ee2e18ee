use Rattle.std.proofs.Common.{◌<◌, SFits, unsigned_abs, arith, rules}
use Rattle.std.specs.Int.{w32, w64}
use Rattle.std.proofs.lemmas.Int.{ints, to_z-of_z}
use Rattle.carton_halfturn.proofs.Sizes.{grid_bounds}
use Rattle.carton_bodies.specs.Spots.{flat_point}
use Rattle.carton_reach.proofs.Reached.{own_moment}
use Rattle.carton_bodies.proofs.Spots.{changes_few, few_units}
use Rattle.carton_bodies.proofs.spot.flat_point_at.Goals as goal

pub returns-clause-at : goal.returns-clause-at
returns-clause-at g c = λ n d m ip.
    let fx : SFits w64 c.from.result = search rules in
    let fy : SFits w64 c.from-2.result = search rules in
    let px : SFits w32 c.args.point.now.x = search rules in
    let py : SFits w32 c.args.point.now.y = search rules in
    let ex = simp to_z-of_z at c.from.ensures in
    let ey = simp to_z-of_z at c.from-2.ensures in
    let h = rw (ex, ey) at (simp to_z-of_z at (c.place-at.ensures.within n d m ip)) in
    let q = flat_point c.args.motion.now c.args.turns.now n d c.args.point.now in
    let own = own_moment c.args.piece.index c.args.piece.depth n d m ip in
    let some : 0 < unsigned_abs q.w = omega (arith, ints, h.positive) in
    let law = g.met.E.Enclose.enclosed in
    record {
      positive = h.positive;
      x = rw (c.bounds_of.ensures.low, c.bounds_of.ensures.high)
          (law c.place-at.result.x _ d q.x (unsigned_abs q.w) own some h.point.0);
      y = rw (c.bounds_of-2.ensures.low, c.bounds_of-2.ensures.high)
          (law c.place-at.result.y _ d q.y (unsigned_abs q.w) own some h.point.1);
      z = rw (c.bounds_of-3.ensures.low, c.bounds_of-3.ensures.high)
          (law c.place-at.result.z _ d q.z (unsigned_abs q.w) own some h.point.2);
    }

pub returns-clause-small : goal.returns-clause-small
returns-clause-small g c =
    let law = g.met.E.Enclose.sized in
    let sx = law c.place-at.result.x in
    let sy = law c.place-at.result.y in
    let sz = law c.place-at.result.z in
    let most = c.place-at.ensures.size in
    record {
      x = rw (c.bounds_of.ensures.low, c.bounds_of.ensures.high) (omega (arith, sx, most));
      y = rw (c.bounds_of-2.ensures.low, c.bounds_of-2.ensures.high) (omega (arith, sy, most));
      z = rw (c.bounds_of-3.ensures.low, c.bounds_of-3.ensures.high) (omega (arith, sz, most));
    }

pub returns-clause-narrow : goal.returns-clause-narrow
returns-clause-narrow g c = λ e.
    let law = g.met.E.Enclose.apart in
    let sx = law c.place-at.result.x in
    let sy = law c.place-at.result.y in
    let sz = law c.place-at.result.z in
    let grid = c.args.motion.now.from.grid in
    let least = (grid_bounds grid c.args.motion.now.from.on_grid).0 in
    let few = few_units _ grid c.args.piece.depth e least
    (c.place-at.ensures.spread 4 (changes_few c.args.motion.now c.args.turns.now c.requires.motion
    c.requires.turns)) in
    record {
      x = rw (c.bounds_of.ensures.low, c.bounds_of.ensures.high) (omega (arith, ints, sx, few));
      y = rw (c.bounds_of-2.ensures.low, c.bounds_of-2.ensures.high) (omega (arith, ints, sy, few));
      z = rw (c.bounds_of-3.ensures.low, c.bounds_of-3.ensures.high) (omega (arith, ints, sz, few));
    }
