use Rattle.std.proofs.Common.{◌∙◌, ℕ, List, get_or, map, ap, subst, sym, length, ◌≤◌}
use Rattle.std.proofs.lemmas.List.{take_all}
use Rattle.carton_base.specs.declared.dieline.Point.{Point}
use Rattle.carton_panels.specs.Panels.{origin}
use Rattle.std.specs.Prelude.{All}
use Rattle.carton_model.specs.Dielines.{IsNear}
use Rattle.carton_base.specs.declared.limits.TheConstants.{LEAST_CORNERS, MOST_CORNERS}
use Rattle.carton_panels.proofs.Bends.{places_more}
use Rattle.carton_panels.proofs.Making.{places_near, places_some, places_few}
use Rattle.carton_panels.proofs.corners.places_of.Goals as goal

pub loop-vertex-preserved : goal.loop-vertex-preserved
loop-vertex-preserved c = c.in_ok-push.ensures.items
    ∙ places_more c.as_slice-places.result.now c.vertices_of-vertices.result.now c.loop-vertex.vertex-index
    c.loop-vertex.found.items c.loop-vertex-test.true c.loop-vertex.invariant

pub returns-clause-places : goal.returns-clause-places
returns-clause-places c =
    let named : List Point → List ℕ → List Point = λ vs cs. map (λ c. get_or vs c origin) cs in
    c.loop-vertex.invariant
    ∙ ap (named c.as_slice-places.result.now) (take_all c.loop-vertex.vertex-index
    c.vertices_of-vertices.result.now c.loop-vertex-test.false)
    ∙ ap (λ vs. named vs c.vertices_of-vertices.result.now) c.as_slice-places.ensures
    ∙ ap (named c.args.raw.now.vertices) c.vertices_of-vertices.ensures

pub returns-clause-near : goal.returns-clause-near
returns-clause-near c =
    subst (All IsNear) (sym (returns-clause-places c))
    (places_near c.args.raw.now c.args.face.0 c.requires.dieline c.requires.face)

pub returns-clause-some : goal.returns-clause-some
returns-clause-some c = subst (λ (ps : List Point). LEAST_CORNERS ≤ length ps) (sym (returns-clause-places c))
    (places_some c.args.raw.now c.args.face.0 c.requires.dieline c.requires.face)

pub returns-clause-few : goal.returns-clause-few
returns-clause-few c = subst (λ (ps : List Point). length ps ≤ MOST_CORNERS) (sym (returns-clause-places c))
    (places_few c.args.raw.now c.args.face.0 c.requires.dieline c.requires.face)
