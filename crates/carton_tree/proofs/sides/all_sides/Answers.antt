use Rattle.std.proofs.Common.{◌≤◌, List, length, sym, subst, arith}
use Rattle.std.proofs.lemmas.List.{length_push}
use Rattle.carton_base.specs.declared.ids.EdgeId.{EdgeId}
use Rattle.std.proofs.lemmas.Result.{err_from_is_err_and}
use Rattle.carton_base.specs.declared.ids.PanelId.{PanelId}
use Rattle.carton_tree.specs.Steps.{AreSides}
use Rattle.carton_tree.proofs.FirstEdges.{one_panel_more, none_sooner}
use Rattle.carton_tree.proofs.sides.all_sides.Goals as goal

pub loop-face-preserved : goal.loop-face-preserved
loop-face-preserved c =
    let d = c.args.raw.now in
    let made = c.loop-face.all.items in
    let es : List EdgeId = c.from_vec.result in
    let here = subst (λ (x : List EdgeId). AreSides d c.loop-face.face x) (sym c.from_vec.ensures)
    c.in_ok-sides.ensures.sides in
    let at = subst (λ n. AreSides d n es) (sym c.loop-face.invariant.count) here in
    let more = one_panel_more d made es c.loop-face.invariant.made
    (omega (arith, c.loop-face.invariant.count, c.loop-face-test.true)) at in
    rw c.in_ok-push.ensures.items
    (record { made = more; count = omega (arith, c.loop-face.invariant.count, length_push made es) })

pub returns-in_err-sides-clause-bare : goal.returns-in_err-sides-clause-bare
returns-in_err-sides-clause-bare c =
    let p = err_from_is_err_and c.from_residual.result c.from_residual.ensures.1 in
    rw (p.1, p.2) (λ known.
    let e = c.in_err-sides.ensures.bare known in
    let face : PanelId = record { 0 = c.loop-face.face } in
    let le : c.loop-face.face ≤ length c.loop-face.all.items = omega (arith, c.loop-face.invariant.count) in (
      face,
      e.0,
      e.1,
      e.2,
      λ g j s. none_sooner c.args.raw.now c.loop-face.face e.0 g j c.loop-face.all.items
          c.loop-face.invariant.made le e.3 s,
    ))
