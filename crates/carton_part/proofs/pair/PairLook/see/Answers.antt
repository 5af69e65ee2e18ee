use Rattle.std.proofs.Common.{◌∙◌, below_more, refl, sym}
use Rattle.carton_part.proofs.Ways.{unparted_all}
use Rattle.carton_part.proofs.pair.PairLook.see.Goals.{in-Bad, in-Open}
use Rattle.carton_part.proofs.pair.PairLook.see.Goals as goal

pub loop-f-preserved : goal.loop-f-preserved
loop-f-preserved g c =
    let before = c.loop-f.invariant in
    elim c.match-look_in.branch [
      | in-Bad w ↦
          let is = sym w.seen-is in
          record {
            not_good = λ e. before.not_good (is ∙ e);
            deep = λ e. before.deep (is ∙ e);
            bad = λ e. below_more _ c.loop-f.f (before.bad (is ∙ e)) (w.in-Bad.ensures.bad refl);
          }
      | in-Open w ↦
          let deep = w.in-Open.ensures.open refl in
          let is = w.seen-is in
          record { not_good = λ e. absurd (cc); deep = λ _. deep; bad = λ e. absurd (cc) }
    ]

pub returns-clause-bad : goal.returns-clause-bad
returns-clause-bad g c = λ e.
    let p = c.args.self.now in
    let panels = c.panels-f-end.ensures in
    unparted_all p.carton.now p.motion.now p.a.0 p.b.0 p.gap p.slack c.args.piece.index c.args.piece.depth
    c.loop-f.f _ panels.carton p.first p.second panels.count c.loop-f-test.false (c.loop-f.invariant.bad e)
