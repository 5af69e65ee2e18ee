use Rattle.std.proofs.Common.{sym, subst}
use Rattle.carton_part.specs.Closing.{AreKnown, IsTable, TellAsMuch}
use Rattle.carton_part.proofs.closing.close_all.Goals.{then-f-root, else-f-root}
use Rattle.carton_part.proofs.closing.close_all.Goals as goal

pub loop-f-preserved : goal.loop-f-preserved
loop-f-preserved g c =
    let Known = AreKnown c.args.carton.now c.args.low.now c.args.high.now in
    let Tells = TellAsMuch c.args.carton.now c.args.low.now c.args.high.now c.args.rows.now in
    elim c.if-f-root.branch [
      | then-f-root w ↦
          let now = w.close_in-then-f-root.ensures in (
            subst Known (sym w.known-is) now.known,
            subst IsTable (sym w.rows-is) now.table,
            subst Tells (sym w.rows-is)
                (λ motion m was. now.rows motion m (c.loop-f.invariant.2 motion m was)),
          )
      | else-f-root w ↦ (
        subst Known (sym w.known-is) c.loop-f.invariant.0,
        subst IsTable (sym w.rows-is) c.loop-f.invariant.1,
        subst Tells (sym w.rows-is) c.loop-f.invariant.2,
      )
    ]
