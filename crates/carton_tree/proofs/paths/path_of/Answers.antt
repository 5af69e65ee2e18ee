use Rattle.std.proofs.Common.{◌≡◌, List, Option, None}
use Rattle.carton_base.specs.declared.limits.TheConstants.{LONGEST_PATH}
use Rattle.carton_tree.specs.declared.joint.Joint.{Joint}
use Rattle.carton_tree.specs.Trees.{joint_of, path, path_by}
use Rattle.carton_tree.proofs.Walking.{step_up, path_on, path_ends, path_full}
use Rattle.carton_tree.proofs.paths.path_of.Goals as goal

pub returns-in-None-clause-path : goal.returns-in-None-clause-path
unfolding path
returns-in-None-clause-path c =
    let js : List (Option Joint) = c.args.joints.now in
    let none : joint_of js c.loop-step.at.0 ≡ None = cc in
    rw c.in_ok-push.ensures.ok (path_ends c.loop-step.found.items (path_by LONGEST_PATH js c.args.p.0) js
    c.loop-step.at c.loop-step._step c.loop-step-test.true none c.loop-step.invariant.rest)

pub loop-step-preserved : goal.loop-step-preserved
loop-step-preserved c =
    let js : List (Option Joint) = c.args.joints.now in
    let up = step_up js c.loop-step.at.0 _ c.in-Some.joint c.requires.joints c.loop-step.invariant.within
    c.in-Some.is in
    rw c.in_ok-push.ensures.ok
    (record {
      within = up.1;
      rest = path_on c.loop-step.found.items (path_by LONGEST_PATH js c.args.p.0)
          js c.loop-step.at c.in-Some.joint c.loop-step._step c.loop-step-test.true up.0
          c.loop-step.invariant.rest;
    })

pub returns-clause-path : goal.returns-clause-path
unfolding path
returns-clause-path c =
    let js : List (Option Joint) = c.args.joints.now in
    rw c.in_ok-push-2.ensures.ok (path_full c.loop-step.found.items (path_by LONGEST_PATH js c.args.p.0) js
    c.loop-step.at c.loop-step._step c.loop-step-test.false c.loop-step.invariant.rest)
