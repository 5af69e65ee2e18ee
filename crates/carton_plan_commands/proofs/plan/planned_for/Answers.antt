use Rattle.std.proofs.Common.{subst}
use Rattle.carton_search.specs.Ends.{IsEnd}
use Rattle.carton_plan_commands.proofs.PlanSound.{best}
use Rattle.carton_plan_commands.proofs.plan.planned_for.Goals as goal

pub returns-in-Found-clause-planned : goal.returns-in-Found-clause-planned
returns-in-Found-clause-planned c =
    let s = c.args.setup.now in
    best s c.in-Found.plan c.requires (subst (IsEnd s.task s.carton) c.in-Found.is c.searched.ensures)

pub returns-in-Found-clause-writable : goal.returns-in-Found-clause-writable
returns-in-Found-clause-writable c =
    let s = c.args.setup.now in
    (best s c.in-Found.plan c.requires (subst (IsEnd s.task s.carton) c.in-Found.is c.searched.ensures)).rules
