use Rattle.std.proofs.Common.{ℕ, ◌<◌, List, length, arith, below_more, subst, Some, None, Option}
use Rattle.carton_base.specs.declared.ids.EdgeId.{EdgeId}
use Rattle.carton_panels.specs.Creases.{IsCommonCrease, IsCommonCreaseAnswer}
use Rattle.carton_panels.specs.Panels.{face_at}
use Rattle.carton_base.proofs.Loops.{at_yes, at_no}
use Rattle.carton_panels.proofs.creases.common_crease.Goals as goal

pub loop-k-preserved : goal.loop-k-preserved
loop-k-preserved c =
    below_more
    (λ j. ¬ (IsCommonCrease c.args.raw.now c.vertices_of-first.result.now c.vertices_of-second.result.now j))
    c.loop-k.k c.loop-k.invariant (at_no c.if-is_common.false c.is_common.ensures)

pub returns-then-is_common : goal.returns-then-is_common
returns-then-is_common c =
    let answer : Option EdgeId = Some (record { 0 = c.loop-k.k }) in
    subst (λ (vs : List ℕ). IsCommonCreaseAnswer c.args.raw.now vs (face_at c.args.raw.now c.args.b.0).corners
    answer) c.vertices_of-first.ensures
    (subst (λ (vs : List ℕ). IsCommonCreaseAnswer c.args.raw.now c.vertices_of-first.result.now vs answer)
    c.vertices_of-second.ensures
    (at_yes c.if-is_common.true c.is_common.ensures, c.loop-k.invariant))

pub returns : goal.returns
returns c =
    subst (λ (vs : List ℕ). IsCommonCreaseAnswer c.args.raw.now vs (face_at c.args.raw.now c.args.b.0).corners
    None) c.vertices_of-first.ensures
    (subst (λ (vs : List ℕ). IsCommonCreaseAnswer c.args.raw.now c.vertices_of-first.result.now vs None)
    c.vertices_of-second.ensures
    (λ k h.
    let w : k < length c.args.raw.now.edges = h.side_of_first.3.within in
    c.loop-k.invariant k (omega (arith, w)) h))
