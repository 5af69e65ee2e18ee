use Rattle.std.proofs.Common.{sym, subst}
use Rattle.std.specs.Prelude.{◌≡◌, All, pos}
use Rattle.carton_base.specs.declared.numbers.Triple.{Triple}
use Rattle.carton_model.specs.Points.{IsNearPoint}
use Rattle.carton_panels.specs.Shapes.{Shape}
use Rattle.carton_panels.proofs.NearCorners.{near_corners}
use Rattle.carton_panels.proofs.shape.PanelShape.corners.Goals as goal

pub returns-clause-whole : goal.returns-clause-whole
returns-clause-whole c = subst (All (λ (t : Triple). t.w ≡ pos 1)) (sym c.as_slice.ensures.value)
    c.self.invariant.whole

pub returns-clause-near : goal.returns-clause-near
returns-clause-near c =
    let i = c.self.inside in
    let s : Shape = record {
      places = i.places.items;
      margin = i.margin;
      corners = i.corners.items;
      shrunk = i.shrunk.items;
    } in
    subst (All IsNearPoint) (sym c.as_slice.ensures.value) (near_corners s c.self.invariant)
