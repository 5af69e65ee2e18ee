use Rattle.std.proofs.Common.{arith, ◌≡◌, ◌<◌, ◌∙◌, sym, subst, length, List, Bool, false}
use Rattle.std.proofs.lemmas.List.{length-set}
use Rattle.carton_part.specs.Closing.{AreKnown, TellsAsMuch}
use Rattle.carton_part.proofs.Closed.{close_between}
use Rattle.carton_part.proofs.closing.closed_row.Goals.{then-left-b+then-are_parted, else-left-b}
use Rattle.carton_part.proofs.closing.closed_row.Goals.{else-left-b-via-then-left-b+else-are_parted}
use Rattle.carton_part.proofs.closing.closed_row.Goals.{else-left-b-via-else-left-b}
use Rattle.carton_part.proofs.closing.closed_row.Goals as goal

pub loop-b-preserved : goal.loop-b-preserved
loop-b-preserved g c =
    let t = c.args.carton.now in
    let low = c.args.low.now in
    let high = c.args.high.now in
    let a = c.args.a.0 in
    let Known = AreKnown t low high in
    let Tells = TellsAsMuch t low high a c.args.row in
    let Long = λ (r : List Bool). length r ≡ 24 in
    let told = c.loop-b.invariant.1 in
    let long = c.loop-b.invariant.2 in
    let lt : c.loop-b.b < length c.loop-b.left =
    omega (
      arith,
      long,
      c.loop-b-test.true,
      c.panels-b-end.ensures.count,
      c.panels-b-end.ensures.carton.few,
    ) in
    elim c.if-left-b.branch [
      | then-left-b+then-are_parted w ↦ (
        subst Known (sym w.known-is) w.are_parted.ensures.known,
        subst Tells (sym w.left-is) (close_between t low high a c.loop-b.b c.args.row c.loop-b.left told lt
            (w.are_parted.ensures.parted w.if-are_parted.true)),
        subst Long (sym w.left-is) (length-set c.loop-b.left c.loop-b.b false ∙ long),
      )
      | else-left-b w ↦ elim w.else-left-b.branch [
        | else-left-b-via-then-left-b+else-are_parted v ↦ (
          subst Known (sym (w.known-is ∙ v.known-is)) v.are_parted.ensures.known,
          subst Tells (sym w.left-is) told,
          subst Long (sym w.left-is) long,
        )
        | else-left-b-via-else-left-b v ↦ (
          subst Known (sym (w.known-is ∙ v.known-is)) c.loop-b.invariant.0,
          subst Tells (sym w.left-is) told,
          subst Long (sym w.left-is) long,
        )
      ]
    ]
