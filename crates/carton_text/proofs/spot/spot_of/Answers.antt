use Rattle.std.proofs.Common.{refl, arith}
use Rattle.std.proofs.lemmas.Int.{ints}
use Rattle.carton_model.specs.Turning.{laid, turned_through}
use Rattle.carton_place.proofs.Starts.{rounded_size, rounded_spread, rounded_between}
use Rattle.carton_text.proofs.spot.spot_of.Goals as goal

pub place_from-requires-clause-x : goal.place_from-requires-clause-x
place_from-requires-clause-x c = rounded_size _ _ _ _ (omega (arith, ints, c.args.point.positive))
    c.requires.near.x c.start_of-start.ensures.x

pub place_from-requires-clause-y : goal.place_from-requires-clause-y
place_from-requires-clause-y c = rounded_size _ _ _ _ (omega (arith, ints, c.args.point.positive))
    c.requires.near.y c.start_of-start.ensures.y

pub spot_in-requires-clause-close : goal.spot_in-requires-clause-close
spot_in-requires-clause-close c =
    let s = c.start_of-start in
    c.place_from.ensures.spread 2 (omega arith) (rounded_spread _ _ _ _ s.result.x.ordered s.ensures.x)
    (rounded_spread _ _ _ _ s.result.y.ordered s.ensures.y) c.requires.still

pub returns : goal.returns
returns c = λ angles held.
    let s = c.start_of-start in
    c.spot_in.ensures 0 1 (turned_through c.args.turns.now angles (laid c.args.point))
    (c.place_from.ensures.holds 0 1 angles (laid c.args.point) record {
      within = omega arith;
      some = omega arith;
    } held record {
      positive = c.args.point.positive;
      level = refl;
      along_x = rounded_between _ _ _ _ s.ensures.x;
      along_y = rounded_between _ _ _ _ s.ensures.y;
    })
