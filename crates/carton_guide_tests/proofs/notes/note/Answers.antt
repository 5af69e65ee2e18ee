use Rattle.std.proofs.Common.{◌<◌, length, sym, subst, arith}
use Rattle.std.specs.Prelude.{All}
use Rattle.std.proofs.lemmas.List.Elements.{All-weaker}
use Rattle.carton_base.specs.declared.bodies.Cuboid.{Cuboid}
use Rattle.carton_base.proofs.Loops.{at_item}
use Rattle.carton_bodies.specs.Boxes.{IsBox}
use Rattle.carton_text.proofs.PlanMoves.{plan_of_task}
use Rattle.carton_cases.specs.Cases.{IsSetup}
use Rattle.carton_catalogue.specs.CatalogueRules.{IsBody}
use Rattle.carton_catalogue.specs.Fits.{FitsGuide}
use Rattle.carton_guide_tests.proofs.notes.note.Goals as goal

pub held-requires-clause-plan : goal.held-requires-clause-plan
held-requires-clause-plan c =
    let s = c.in_ok-setup.setup in
    let kept : IsSetup s = c.in_ok-setup.ensures in
    plan_of_task s.carton s.task s.plan kept.task_is kept.plan_is kept.creases c.in-Holds.ensures.checked.0

pub held-requires-clause-guide : goal.held-requires-clause-guide
held-requires-clause-guide c =
    let s = c.in_ok-setup.setup in
    let kept : IsSetup s = c.in_ok-setup.ensures in
    let Fit = FitsGuide s.carton s.plan.states in
    let some : 0 < length c.as_slice-guides.result.now = omega (arith, c.if-guides-ne1.false) in
    at_item Fit c.as_slice-guides.result.now 0 c.index-guides-0.result some c.index-guides-0.is
    (subst (All Fit) (sym c.as_slice-guides.ensures) kept.fits.guides)

is_box : (b : Cuboid) → IsBody b → IsBox b
is_box b h = record {
  x0 = h.x.from;
  x1 = h.x.upto;
  y0 = h.y.from;
  y1 = h.y.upto;
  z0 = h.z.from;
  z1 = h.z.upto;
  x = h.x.ordered;
  y = h.y.ordered;
  z = h.z.ordered;
}

pub held-requires-clause-bodies : goal.held-requires-clause-bodies
held-requires-clause-bodies c =
    let kept : IsSetup c.in_ok-setup.setup = c.in_ok-setup.ensures in
    subst (All IsBox) (sym c.as_slice-bodies.ensures)
    (All-weaker IsBody IsBox is_box c.in_ok-setup.setup.catalogue.bodies kept.catalogue.bodies.each)
