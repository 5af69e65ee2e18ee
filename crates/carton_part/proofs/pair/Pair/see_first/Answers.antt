use Rattle.std.proofs.Common.{below_more, refl}
use Rattle.carton_part.proofs.Ways.{unparted_all}
use Rattle.carton_part.proofs.pair.Pair.see_first.Goals as goal

pub loop-f-preserved : goal.loop-f-preserved
loop-f-preserved g c = below_more _ c.loop-f.f c.loop-f.invariant (c.in-Bad.ensures.bad refl)

pub returns-clause-bad : goal.returns-clause-bad
returns-clause-bad g c = λ e.
    let p = c.args.self.now in
    let panels = c.panels-f-end.ensures in
    unparted_all p.carton.now p.motion.now p.a.0 p.b.0 p.gap p.slack c.args.piece.index c.args.piece.depth
    c.loop-f.f _ panels.carton p.first p.second panels.count c.loop-f-test.false c.loop-f.invariant
