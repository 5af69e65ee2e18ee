use Rattle.std.proofs.Common.{◌∙◌, subst, List, IsTrue, ◌↔◌}
use Rattle.carton_base.specs.declared.dieline.Point.{Point}
use Rattle.carton_panels.specs.Insets.{KeepsAll}
use Rattle.carton_base.proofs.Loops.{same_test}
use Rattle.carton_panels.proofs.Keeping.{panel_from_keeps, keeps_from_panel}
use Rattle.carton_panels.proofs.shape.PanelShape.contains.Goals as goal

pub returns : goal.returns
returns c =
    let t = c.args.t in
    let p = c.args.self.now in
    let bare = c.bare.ensures in
    let places = bare.places ∙ c.inset.ensures.places in
    let k = subst (λ (ps : List Point). IsTrue c.keeps_all.result ↔ KeepsAll 0 ps t.x t.y t.w) places
    (subst (λ m. IsTrue c.keeps_all.result ↔ KeepsAll m c.bare.result.places.now t.x t.y t.w) bare.margin
    c.keeps_all.ensures) in
    same_test k (panel_from_keeps p.places t.x t.y t.w) (keeps_from_panel p.places t.x t.y t.w)
