use Rattle.std.proofs.Common.{◌≡◌, ◌<◌, List, length, get_or, All, sym, subst}
use Rattle.carton_base.specs.declared.limits.TheConstants.{MOST_JOINTS}
use Rattle.carton_text.specs.declared.task.Team.{Team}
use Rattle.carton_steps.proofs.Members.{each_has_places}
use Rattle.carton_steps.proofs.estimates.estimate.Goals as goal

pub steps_left-requires-clause-members : goal.steps_left-requires-clause-members
steps_left-requires-clause-members c =
    let t = c.args.task.now in
    let is : c.team-item.result ≡ get_or t.teams c.loop-team.team-index c.team-item.result = cc in
    let lt = subst (λ (teams : List Team). c.loop-team.team-index < length teams)
    c.as_slice-team-items.ensures c.loop-team-test.true in
    subst (λ (x : Team). All (λ k. k < MOST_JOINTS) x.places) (sym is)
    (each_has_places t c.requires c.loop-team.team-index c.team-item.result lt)
