use Rattle.std.proofs.Common.{List, subst, sym}
use Rattle.std.specs.Prelude.{Any}
use Rattle.carton_base.specs.declared.numbers.Triple.{Triple}
use Rattle.carton_panels.specs.Shrinking.{IsSamePoint}
use Rattle.carton_panels.specs.Crossings.{IsCovered, IsGathered}
use Rattle.carton_base.proofs.Loops.{at_yes, at_no}
use Rattle.carton_panels.proofs.Crossed.{gathered_more, covered_by_push, covered_by_found}
use Rattle.carton_panels.proofs.crossings.add.Goals as goal
use Rattle.carton_panels.proofs.crossings.add.Goals.{else-keeps_all-via-then-keeps_all+else-not-is_found}
use Rattle.carton_panels.proofs.crossings.add.Goals.{else-keeps_all-via-else-keeps_all}

pub returns-in_ok-push-clause-gathered : goal.returns-in_ok-push-clause-gathered
returns-in_ok-push-clause-gathered c =
    let t = c.args.t in
    let new = subst (λ (ts : List Triple). ¬ (Any (λ k. IsSamePoint k t) ts)) c.deref.ensures.value
    (at_no c.if-not-is_found.true c.is_found.ensures) in
    subst (IsGathered c.args.face.margin c.args.face.places.now) (sym c.in_ok-push.ensures.items)
    (gathered_more c.args.face.margin c.args.face.places.now c.args.found.now.items t c.requires.gathered
    (at_yes c.if-keeps_all.true c.keeps_all.ensures) c.requires.t c.requires.corner new)

pub returns-in_ok-push-clause-covers : goal.returns-in_ok-push-clause-covers
returns-in_ok-push-clause-covers c = λ h.
    let t = c.args.t in
    subst (λ (ts : List Triple). IsCovered ts t.x t.y t.w) (sym c.in_ok-push.ensures.items)
    (covered_by_push c.args.found.now.items t)

pub returns-else-keeps_all-clause-covers : goal.returns-else-keeps_all-clause-covers
returns-else-keeps_all-clause-covers c = λ h.
    let t = c.args.t in
    elim c.else-keeps_all.branch [
      | else-keeps_all-via-then-keeps_all+else-not-is_found w ↦
          covered_by_found c.args.found.now.items t
          (subst (λ (ts : List Triple). Any (λ k. IsSamePoint k t) ts) w.deref.ensures.value
          (at_yes w.if-not-is_found.false w.is_found.ensures))
      | else-keeps_all-via-else-keeps_all w ↦ absurd (at_no w.if-keeps_all.false c.keeps_all.ensures h)
    ]
