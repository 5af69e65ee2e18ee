use Rattle.std.proofs.Common.{◌≡◌, ℕ, ◌<◌, List, length, subst, arith, below_more}
use Rattle.std.proofs.lemmas.List.{get_or_default}
use Rattle.carton_base.specs.declared.limits.TheConstants.{MOST_PANELS}
use Rattle.carton_tree.specs.declared.hinges.Hinge.{Hinge}
use Rattle.carton_tree.specs.Steps.{ClosesLoop}
use Rattle.carton_tree.proofs.Merging.{group_of, moved, groups_more, not_closed}
use Rattle.carton_tree.proofs.Tying.{blank, hinge_at}
use Rattle.carton_tree.proofs.groups.grouped.Goals as goal

pub loop-hinge-preserved : goal.loop-hinge-preserved
loop-hinge-preserved c =
    let hs : List Hinge = c.args.hinges.now in
    let k = c.loop-hinge.hinge-index in
    let lt : k < length hs = c.loop-hinge-test.true in
    let h : Hinge = hinge_at hs k in
    let old : List ℕ = c.loop-hinge.groups in
    let new : List ℕ = c.merged-groups.result in
    let is = get_or_default hs k blank h lt in
    let in' = c.requires k blank lt in
    let apart : ¬ (group_of old h.first.0 ≡ group_of old h.second.0) =
    subst (λ (x : Hinge). ¬ (group_of old x.first.0 ≡ group_of old x.second.0))
    (get_or_default hs k _ blank lt) c.if-first-second.false in
    let moves : (f : ℕ) → f < MOST_PANELS
    → group_of new f ≡ moved (group_of old h.first.0) (group_of old h.second.0) (group_of old f) = λ f fl.
    subst (λ (x : Hinge). group_of new f
    ≡ moved (group_of old x.first.0) (group_of old x.second.0) (group_of old f))
    (get_or_default hs k _ blank lt) (c.merged-groups.ensures.each f fl) in
    record {
      len = c.merged-groups.ensures.len;
      are = groups_more hs MOST_PANELS k h old new c.loop-hinge.invariant.are lt is in'.0 in'.1 apart moves;
      still_open = below_more (λ j. ¬ (ClosesLoop hs j)) k c.loop-hinge.invariant.still_open
          (not_closed hs MOST_PANELS k h old c.loop-hinge.invariant.are is in'.0 in'.1 apart);
    }

pub returns-clause-open : goal.returns-clause-open
returns-clause-open c =
    λ k lt loop. c.loop-hinge.invariant.still_open k (omega (arith, lt, c.loop-hinge-test.false)) loop
