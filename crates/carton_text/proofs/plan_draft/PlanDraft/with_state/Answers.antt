use Rattle.std.proofs.Common.{◌≡◌, ◌∙◌, ◌<◌, ap, sym, Ok, rules, length}
use Rattle.carton_base.specs.declared.limits.TheConstants.{MOST_STATES}
use Rattle.carton_text.specs.Tasks.{all_stops}
use Rattle.carton_text.specs.Plans.{stops_told}
use Rattle.carton_text.proofs.PlanStops.{told_more}
use Rattle.carton_text.proofs.plan_draft.PlanDraft.with_state.Goals as goal

pub returns : goal.returns
returns c =
    let d = c.self.inside in
    let told : stops_told d.grid (length d.creases) c.args.line.now ≡ Ok c.in_ok-stops.stops.items =
    rw c.len.ensures at c.in_ok-stops.ensures in
    let all : c.all_stops.result ≡ all_stops c.in_ok-stops.stops.items = c.all_stops.ensures
    ∙ ap all_stops c.deref.ensures.value in
    let room : length d.states < MOST_STATES = search rules in
    rw (sym c.self.view_is, c.in_ok-push.ensures.ok)
    (told_more d.grid d.creases d.states c.args.line.now c.in_ok-stops.stops.items _ told room
    c.stops.ensures.value all)
