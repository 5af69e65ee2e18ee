use Rattle.std.proofs.Common.{◌∷◌, [], length-append, arith, subst, sym}
use Rattle.std.proofs.lemmas.Result.{err_from_is_err_and}
use Rattle.carton_panels.specs.DielinePanels.{ArePanels, IsShapeOf}
use Rattle.carton_panels.proofs.DielinePanels.{are_panels, one_more, shape_of_panel}
use Rattle.carton_panels.proofs.dieline.panels.Goals as goal

pub returns-in_err-panel-clause-refused : goal.returns-in_err-panel-clause-refused
returns-in_err-panel-clause-refused c =
    let p = err_from_is_err_and c.from_residual.result c.from_residual.ensures.1 in
    let before = subst (λ n. ArePanels c.args.margin c.args.raw.now n) c.loop-face.invariant.count
    (are_panels c.args.margin c.args.raw.now c.loop-face.shapes.items c.loop-face.invariant.made) in
    rw (p.1, p.2) (λ known. (record { 0 = c.loop-face.face }, omega arith, before, c.in_err-panel.ensures))

pub loop-face-preserved : goal.loop-face-preserved
loop-face-preserved c =
    let m = c.args.margin in
    let d = c.args.raw.now in
    let made = c.loop-face.shapes.items in
    let s = c.in_ok-panel.field-0 in
    let is = shape_of_panel m d (record { 0 = c.loop-face.face }) s c.in_ok-panel.ensures in
    let here = subst (λ k. IsShapeOf m d k s) (sym c.loop-face.invariant.count) is in
    let more = one_more m d made s c.loop-face.invariant.made (omega (arith, c.loop-face.invariant.count))
    here in
    rw c.in_ok-push.ensures.items
    (record {
      made = more;
      count = omega (arith, c.loop-face.invariant.count, length-append made (s ∷ []));
    })
