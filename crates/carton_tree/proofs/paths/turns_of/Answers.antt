use Rattle.std.proofs.Common.{◌≡◌, List, Option, None}
use Rattle.carton_base.specs.declared.limits.TheConstants.{LONGEST_PATH}
use Rattle.carton_tree.specs.declared.joint.Joint.{Joint}
use Rattle.carton_tree.specs.Trees.{joint_of, turns_by}
use Rattle.carton_tree.proofs.Walking.{step_up, turns_on, turns_end, turns_full}
use Rattle.carton_tree.proofs.paths.turns_of.Goals as goal

pub returns-in-None-clause-turns : goal.returns-in-None-clause-turns
returns-in-None-clause-turns c =
    let js : List (Option Joint) = c.args.joints.now in
    let none : joint_of js c.loop-step.at.0 ≡ None = cc in
    turns_end c.loop-step.found.items (turns_by LONGEST_PATH js c.args.p.0) js c.loop-step.at.0
    c.loop-step._step c.loop-step-test.true none c.loop-step.invariant.rest

pub loop-step-preserved : goal.loop-step-preserved
loop-step-preserved c =
    let js : List (Option Joint) = c.args.joints.now in
    let up = step_up js c.loop-step.at.0 _ c.in-Some.joint c.requires.joints c.loop-step.invariant.within
    c.in-Some.is in
    rw c.in_ok-push-in-Some.ensures.items
    (record {
      within = up.1;
      rest = turns_on c.loop-step.found.items (turns_by LONGEST_PATH js c.args.p.0)
          js c.loop-step.at.0 c.in-Some.joint c.loop-step._step c.loop-step-test.true up.0
          c.loop-step.invariant.rest;
    })

pub returns-clause-turns : goal.returns-clause-turns
returns-clause-turns c =
    turns_full c.loop-step.found.items (turns_by LONGEST_PATH c.args.joints.now c.args.p.0) c.args.joints.now
    c.loop-step.at.0 c.loop-step._step c.loop-step-test.false c.loop-step.invariant.rest
