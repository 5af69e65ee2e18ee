use Rattle.std.proofs.Common.{subst, List, IsTrue, ◌↔◌}
use Rattle.carton_base.specs.declared.dieline.Point.{Point}
use Rattle.carton_panels.specs.Insets.{KeepsAll}
use Rattle.carton_base.proofs.Loops.{same_test}
use Rattle.carton_panels.proofs.Insets.{shrunk_from_keeps, keeps_from_shrunk}
use Rattle.carton_panels.proofs.shape.PanelShape.in_shrunk.Goals as goal

pub returns : goal.returns
returns c =
    let t = c.args.t in
    let p = c.args.self.now in
    let k = subst (λ (ps : List Point). IsTrue c.keeps_all.result ↔ KeepsAll p.margin ps t.x t.y t.w)
    c.inset.ensures.places
    (subst (λ m. IsTrue c.keeps_all.result ↔ KeepsAll m c.inset.result.places.now t.x t.y t.w)
    c.inset.ensures.margin c.keeps_all.ensures) in
    same_test k (shrunk_from_keeps p.margin p.places t.x t.y t.w t.positive)
    (keeps_from_shrunk p.margin p.places t.x t.y t.w t.positive)
