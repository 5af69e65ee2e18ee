use Rattle.std.proofs.Common.{rules, arith, ◌^◌, ◌≤◌, ◌+◌, pos, SFits}
use Rattle.std.specs.Int.{w128}
use Rattle.std.proofs.lemmas.Int.{to_z-of_z}
use Rattle.std.proofs.Math.Pow.{pow_mono}
use Rattle.carton_base.specs.Rounding.{unit}
use Rattle.carton_bodies.proofs.Timed.{begins}
use Rattle.carton_bodies.proofs.span.span_of.Goals as goal

pub time_of-requires-clause-index : goal.time_of-requires-clause-index
time_of-requires-clause-index c =
    let p : 2 ^ c.args.piece.depth ≤ 2 ^ 36 = pow_mono c.args.piece.shallow in
    omega (arith, p, c.args.piece.within)

pub time_of-requires-2-clause-index : goal.time_of-requires-2-clause-index
time_of-requires-2-clause-index c =
    let p : 2 ^ c.args.piece.depth ≤ 2 ^ 36 = pow_mono c.args.piece.shallow in
    omega (arith, p, c.args.piece.within)

pub returns : goal.returns
returns c =
    let i = c.args.piece.index in
    let p = pos (2 ^ c.args.piece.depth) in
    let fl : SFits w128 c.length_of-length.result = search rules in
    let ff : SFits w128 c.time_of.result = search rules in
    let fu : SFits w128 c.time_of-2.result = search rules in
    let from = simp to_z-of_z at c.time_of.ensures.value in
    let upto = simp to_z-of_z at c.time_of-2.ensures.value in
    simp to_z-of_z (record {
      from = begins (pos c.args.step) (pos i) p unit c.length_of-length.result c.time_of.result
          c.length_of-length.ensures.value from;
      upto = begins (pos c.args.step) (pos (i + 1)) p unit c.length_of-length.result c.time_of-2.result
          c.length_of-length.ensures.value upto;
      early = c.time_of.ensures.size;
      late = c.time_of-2.ensures.size;
    })
