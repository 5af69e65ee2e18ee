use Rattle.std.proofs.Common.{◌≡◌, ◌+◌, ◌<◌, List, length, refl, sym, subst, ◌∙◌, arith}
use Rattle.carton_base.specs.declared.ids.EdgeId.{EdgeId}
use Rattle.carton_base.proofs.Loops.{at_yes, at_no}
use Rattle.carton_tree.specs.Joints.{IsSide}
use Rattle.carton_tree.specs.Steps.{AreSides, IsBeside}
use Rattle.carton_tree.proofs.FirstEdges.{side_from_edge, edge_from_side}
use Rattle.carton_tree.proofs.Gathering.{beside_more, beside_same}
use Rattle.carton_tree.proofs.besides.found_beside.Goals as goal
use Rattle.carton_tree.proofs.besides.found_beside.Goals.{then-has_edge, else-has_edge}

pub loop-f-preserved : goal.loop-f-preserved
loop-f-preserved c =
    let d = c.args.raw.now in
    let f = c.loop-f.f in
    let P = IsSide d c.args.edge.0 in
    let es : List EdgeId = c.as_slice.result.now in
    let lt : f < length d.faces = omega (arith, c.requires.whole, c.loop-f-test.true) in
    let here : AreSides d f c.index-sides-f.result = subst (λ (x : List EdgeId). AreSides d f x)
    (sym c.index-sides-f.is) (c.requires.sides.each f c.index-sides-f.result c.loop-f-test.true) in
    let are : AreSides d f es = subst (λ (x : List EdgeId). AreSides d f x) (sym c.as_slice.ensures) here in
    elim c.if-has_edge.branch [
      | then-has_edge w ↦ subst (λ b. IsBeside P (f + 1) b) (sym (w.found-is ∙ w.with_next-found.ensures))
          (beside_more P f c.loop-f.found (record { 0 = f }) refl
          (side_from_edge d f es c.args.edge lt are (at_yes w.if-has_edge.true c.has_edge.ensures))
          c.loop-f.invariant)
      | else-has_edge w ↦
          subst (λ b. IsBeside P (f + 1) b) (sym w.found-is)
          (beside_same P f c.loop-f.found
          (λ s. at_no w.if-has_edge.false c.has_edge.ensures (edge_from_side d f es c.args.edge are s))
          c.loop-f.invariant)
    ]

pub returns : goal.returns
returns c =
    let all : c.loop-f.f ≡ length c.args.raw.now.faces =
    omega (arith, c.requires.whole, c.loop-f-test.false, c.loop-f.auto.f-end) in
    subst (λ n. IsBeside (IsSide c.args.raw.now c.args.edge.0) n c.loop-f.found) all c.loop-f.invariant
