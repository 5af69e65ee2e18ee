use Rattle.std.proofs.Common.{◌≡◌, None, Some, not, sym, ap, ◌∙◌}
use Rattle.std.specs.List.{find}
use Rattle.carton_base.specs.declared.ids.EdgeId.{EdgeId}
use Rattle.carton_text.specs.JobRules.{members}
use Rattle.carton_text.specs.Tasks.{is_among}
use Rattle.carton_lines.proofs.Items.{next_item}
use Rattle.carton_text.proofs.Finding.{in_team, past_team}
use Rattle.carton_text.proofs.strangers.first_member.Goals as goal

pub returns-in-Some : goal.returns-in-Some
returns-in-Some c =
    let p = λ (e : EdgeId). not (is_among e c.args.creases.now) in
    let next = next_item c.args.teams.now c.loop-team.team-index c.team-item.result c.loop-team-test.true
    c.team-item.is in
    let found : find p c.team-item.result.edges ≡ Some c.in-Some.edge = ap (find p) (sym c.as_slice.ensures)
    ∙ sym c.in-Some.ensures in
    in_team p _ c.team-item.result _ c.in-Some.edge (find p (members c.args.teams.now)) next found
    c.loop-team.invariant

pub loop-team-preserved : goal.loop-team-preserved
loop-team-preserved c =
    let p = λ (e : EdgeId). not (is_among e c.args.creases.now) in
    let next = next_item c.args.teams.now c.loop-team.team-index c.team-item.result c.loop-team-test.true
    c.team-item.is in
    let none : find p c.team-item.result.edges ≡ None = ap (find p) (sym c.as_slice.ensures)
    ∙ sym c.in_default.ensures in
    past_team p _ c.team-item.result _ (find p (members c.args.teams.now)) next none c.loop-team.invariant
