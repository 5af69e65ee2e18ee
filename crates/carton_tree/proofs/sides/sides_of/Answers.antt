use Rattle.std.proofs.Common.{◌≡◌, ℕ, ◌<◌, List, length, get_or, refl, sym, ap, subst, arith}
use Rattle.std.specs.Prelude.{Any}
use Rattle.std.proofs.lemmas.List.{length_push}
use Rattle.carton_base.specs.declared.dieline.Ends.{Ends}
use Rattle.carton_panels.specs.Around.{Step, around}
use Rattle.carton_panels.specs.Creases.{HasEnds, IsFirstEdge}
use Rattle.carton_panels.proofs.Steps.{length-around}
use Rattle.carton_tree.specs.Joints.{vertices_of}
use Rattle.carton_tree.proofs.FirstEdges.{one_side_more, not_bare, bare_here}
use Rattle.carton_tree.proofs.sides.sides_of.Goals as goal

pub loop-i-preserved : goal.loop-i-preserved
loop-i-preserved c =
    let d = c.args.raw.now in
    let f = c.args.face.0 in
    let made = c.loop-i.sides.items in
    let s : Step ℕ = record { from = c.side_at-p.result.0; to = c.side_at-p.result.1 } in
    let lt : length made < length (around (vertices_of d f)) =
    omega (
      arith,
      c.loop-i.invariant.count,
      length-around (vertices_of d f),
      ap length
          c.vertices_of-vertices.ensures,
      c.loop-i-test.true,
    ) in
    let at : s ≡ get_or (around (vertices_of d f)) c.loop-i.i s =
    subst (λ (vs : List ℕ). s ≡ get_or (around vs) c.loop-i.i s) c.vertices_of-vertices.ensures
    (sym (c.side_at-p.ensures s)) in
    let side : s ≡ get_or (around (vertices_of d f)) (length made) s =
    subst (λ i. s ≡ get_or (around (vertices_of d f)) i s) (sym c.loop-i.invariant.count) at in
    let first = subst (λ (es : List Ends). IsFirstEdge es c.in-Some.edge.0 s.from s.to) c.as_slice.ensures
    c.in-Some.ensures in
    let more = one_side_more d f made c.in-Some.edge s c.loop-i.invariant.made lt side first in
    rw c.in_ok-push-in-Some.ensures.items
    (record {
      made = more;
      count = omega (arith, c.loop-i.invariant.count, length_push made c.in-Some.edge);
    })

pub returns-in-None-clause-bare : goal.returns-in-None-clause-bare
returns-in-None-clause-bare c = λ known.
    let d = c.args.raw.now in
    let f = c.args.face.0 in
    let s : Step ℕ = record { from = c.side_at-p.result.0; to = c.side_at-p.result.1 } in
    let lt : c.loop-i.i < length (around (vertices_of d f)) =
    omega (
      arith,
      length-around (vertices_of d f),
      ap length c.vertices_of-vertices.ensures,
      c.loop-i-test.true,
    ) in
    let at : s ≡ get_or (around (vertices_of d f)) c.loop-i.i s =
    subst (λ (vs : List ℕ). s ≡ get_or (around vs) c.loop-i.i s) c.vertices_of-vertices.ensures
    (sym (c.side_at-p.ensures s)) in
    let none : ¬ (Any (λ e. HasEnds e s.from s.to) d.edges) =
    subst (λ (es : List Ends). ¬ (Any (λ e. HasEnds e s.from s.to) es)) c.as_slice.ensures
    c.in-None.ensures in (
      c.loop-i.i,
      refl,
      bare_here d f c.loop-i.i s c.requires.face lt at none,
      λ j less. not_bare d f j c.loop-i.sides.items c.loop-i.invariant.made
          (omega (arith, less, c.loop-i.invariant.count)),
    )

pub returns-clause-sides : goal.returns-clause-sides
returns-clause-sides c =
    let vs = vertices_of c.args.raw.now c.args.face.0 in
    record {
      sides = c.loop-i.invariant.made;
      whole =
          omega (
            arith,
            c.loop-i.invariant.made.few,
            c.loop-i.invariant.count,
            length-around vs,
            ap length
                c.vertices_of-vertices.ensures,
            c.loop-i-test.false,
          );
    }
