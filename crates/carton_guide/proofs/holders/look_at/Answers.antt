use Rattle.std.proofs.Common.{◌∙◌, refl, sym, pos}
use Rattle.carton_guide.proofs.Looks.{shallow_more, unchosen_more, shallow_all}
use Rattle.carton_guide.proofs.holders.look_at.Goals.{then-holders-k+in-Bad, then-holders-k+in-Open}
use Rattle.carton_guide.proofs.holders.look_at.Goals.{else-holders-k}
use Rattle.carton_guide.proofs.holders.look_at.Goals as goal

pub loop-k-preserved : goal.loop-k-preserved
loop-k-preserved c =
    let h = c.args.holders.now in
    let p = c.args.piece in
    let before = c.loop-k.invariant in
    elim c.if-holders-k.branch [
      | then-holders-k+in-Bad w ↦ record {
        not_good = λ e. before.not_good (sym w.seen-is ∙ e);
        deep = λ e. before.deep (sym w.seen-is ∙ e);
        bad = λ e. shallow_more c.loop-k.k (pos h.slack) h.stroke h.bodies.now h.chosen.now c.args.step
            c.args.spot.now p.index p.depth _ (before.bad (sym w.seen-is ∙ e)) (w.in-Bad.ensures.bad refl);
      }
      | then-holders-k+in-Open w ↦ let deep = w.in-Open.ensures.open refl in let is = w.seen-is in
          record { not_good = λ e. absurd (cc); deep = λ _. deep; bad = λ e. absurd (cc) }
      | else-holders-k w ↦ record {
        not_good = λ e. before.not_good (sym w.seen-is ∙ e);
        deep = λ e. before.deep (sym w.seen-is ∙ e);
        bad = λ e. unchosen_more c.loop-k.k (pos h.slack) h.stroke h.bodies.now h.chosen.now c.args.step
            c.args.spot.now p.index p.depth _ (before.bad (sym w.seen-is ∙ e)) w.if-holders-k.false;
      }
    ]

pub returns-clause-bad : goal.returns-clause-bad
returns-clause-bad c = λ e.
    let h = c.args.holders.now in
    let p = c.args.piece in
    shallow_all c.loop-k.k (pos h.slack) h.stroke h.bodies.now h.chosen.now c.args.step c.args.spot.now
    p.index p.depth c.loop-k-test.false (c.loop-k.invariant.bad e)
