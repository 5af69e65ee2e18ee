use Rattle.std.proofs.Common.{◌≡◌, ◌∙◌, ap, sym, subst, refl, pos, slice_get, Some, List}
use Rattle.std.specs.Prelude.{All}
use Rattle.std.proofs.lemmas.Option.{slice_get_read}
use Rattle.carton_base.specs.declared.bodies.Cuboid.{Cuboid}
use Rattle.carton_base.specs.declared.bodies.Guide.{Guide}
use Rattle.carton_base.proofs.Loops.{all_more, all_end, at_item}
use Rattle.carton_catalogue.specs.Fits.{FitsGuide}
use Rattle.carton_guide.specs.Notes.{IsHeld, IsLooseAt}
use Rattle.carton_fixture.specs.Fixtures.{HoldAll}
use Rattle.carton_fixture.proofs.asking.first_unheld.Goals as goal

pub held-note-requires-clause-guide : goal.held-note-requires-clause-guide
held-note-requires-clause-guide c =
    let Fit = FitsGuide c.args.carton.now c.args.plan.now.states in
    at_item Fit c.as_slice-guides.result.now c.loop-k.k c.index-guides-k.result c.loop-k-test.true
    c.index-guides-k.is (subst (All Fit) (sym c.as_slice-guides.ensures) c.requires.ready.fits)

pub returns-in-Unheld : goal.returns-in-Unheld
returns-in-Unheld c =
    let x = c.index-guides-k.result in
    let k = c.loop-k.k in
    let at : slice_get c.args.catalogue.now.guides k ≡ Some x =
    ap (λ (gs : List Guide). slice_get gs k) (sym c.as_slice-guides.ensures)
    ∙ slice_get_read c.as_slice-guides.result.now _ k x refl c.loop-k-test.true c.index-guides-k.is in (
      x,
      at,
      subst (λ (bs : List Cuboid). IsLooseAt c.args.carton.now c.args.plan.now.states x
          c.args.catalogue.now.stroke bs c.args.chosen.now (pos c.args.slack) c.in-Unheld.end c.in-Unheld.step
          c.in-Unheld.moment) c.as_slice-bodies.ensures c.in-Unheld.ensures.note,
    )

pub loop-k-preserved : goal.loop-k-preserved
loop-k-preserved c =
    all_more (λ g. IsHeld c.args.carton.now c.args.plan.now.states g c.args.catalogue.now.stroke
    c.as_slice-bodies.result.now c.args.chosen.now) c.as_slice-guides.result.now c.loop-k.k
    c.index-guides-k.result c.loop-k-test.true c.index-guides-k.is c.in-Held.ensures.note c.loop-k.invariant

pub returns : goal.returns
returns c =
    let all = all_end (λ g. IsHeld c.args.carton.now c.args.plan.now.states g c.args.catalogue.now.stroke
    c.as_slice-bodies.result.now c.args.chosen.now) c.as_slice-guides.result.now c.loop-k.k
    c.loop-k-test.false c.loop-k.invariant in
    subst (λ (gs : List Guide). HoldAll c.args.carton.now c.args.plan.now gs c.args.catalogue.now.stroke
    c.args.catalogue.now.bodies c.args.chosen.now) c.as_slice-guides.ensures
    (subst (λ (bs : List Cuboid). HoldAll c.args.carton.now c.args.plan.now c.as_slice-guides.result.now
    c.args.catalogue.now.stroke bs c.args.chosen.now) c.as_slice-bodies.ensures all)
