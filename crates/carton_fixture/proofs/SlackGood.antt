-- Where all that is asked holds by more than the slack, no answer but the good one has its cause.
use Rattle.std.proofs.Common.{◌≡◌, ◌≢◌, ℕ, ◌<◌, Bool, true, List, length, get_or, slice_get, option_map, Some}
use Rattle.std.proofs.Common.{refl, ap, subst, ◌∙◌, ℤ, pos, arith}
use Rattle.std.proofs.lemmas.Option.{slice_get_within, slice_get-get_or, slice_get-map, get_or_from_slice_get}
use Rattle.carton_base.specs.declared.bodies.Cuboid.{Cuboid}
use Rattle.carton_base.specs.declared.ids.PanelId.{PanelId}
use Rattle.carton_base.specs.declared.moments.Moment.{Moment}
use Rattle.carton_bodies.specs.Boxes.{faces}
use Rattle.carton_catalogue.specs.declared.catalogue.Catalogue.{Catalogue}
use Rattle.carton_check.specs.declared.checked.Checked.{Checked}
use Rattle.carton_check.proofs.Implied.{clear_holds}
use Rattle.carton_fixture_text.specs.declared.fixture.Fixture.{Fixture}
use Rattle.carton_fixture_text.specs.declared.fixture.FixtureBody.{FixtureBody}
use Rattle.carton_guide.specs.Notes.{IsWellHeld}
use Rattle.carton_guide.proofs.WellHeld.{loose_not_well}
use Rattle.carton_stroke.specs.declared.note.BodyNote.{BodyNote}
use Rattle.carton_stroke.specs.declared.note.BodyNote.TheVariants.{Clears, Touches as TouchesPanel}
use Rattle.carton_stroke.specs.Clear.{IsSlackClearOf}
use Rattle.carton_stroke.specs.Notes.{IsTouching, IsNoteOf, AreNotesOf}
use Rattle.carton_stroke.proofs.Noted.{slack_clear_told}
use Rattle.carton_text.specs.declared.plan.Plan.{Plan}
use Rattle.carton_text.specs.declared.task.Task.{Task}
use Rattle.carton_text.proofs.PlanMoves.{at_place}
use Rattle.carton_tree.specs.Trees.{Tree}
use Rattle.carton_fixture.specs.declared.answers.Compiled.{Compiled}
use Rattle.carton_fixture.specs.declared.answers.Compiled.TheVariants.{PlanFails, Made, Refused, Memory}
use Rattle.carton_fixture.specs.declared.answers.Verified.{Verified}
use Rattle.carton_fixture.specs.declared.answers.Verified.TheVariants.{PlanFails as PlanFailsOf, OtherStroke}
use Rattle.carton_fixture.specs.declared.answers.Verified.TheVariants.{NotCandidate, Touches, Unheld, Holds}
use Rattle.carton_fixture.specs.Answers.{IsFailure, clears, clear_ones, IsCompiled, IsVerified}
use Rattle.carton_fixture.specs.Choices.{IsCandidate, boxes, each_of}
use Rattle.carton_fixture.specs.SlackGood.{IsSlackPlan, AreWellClear, IsSlackGood, IsSlackGoodFixture}
use Rattle.carton_fixture.specs.SlackGood.{IsMadeAnswer}
use Rattle.carton_fixture.proofs.Among.{AreAmong, loose_in_fewer}

-- a plan that keeps apart by more than the slack doesn't fail
not_failing : (t : Tree) (task : Task) (plan : Plan) (answer : Checked) → IsSlackPlan t task plan
    → ¬ (IsFailure t task plan answer)
not_failing t task plan answer good h =
    let holds = clear_holds t task plan answer h.told good.moves good.apart in h.fails holds.0 holds.1

-- a body that the plan clears by more than the slack is noted to clear it
noted_clear : (t : Tree) (plan : Plan) (stroke : List ℤ) (box : Cuboid) (slack : ℕ) (note : BodyNote)
    → IsNoteOf t plan stroke box slack note → IsSlackClearOf t plan stroke (faces box) slack
    → clears note ≡ true
noted_clear t plan stroke box slack note h clear =
    ap clears (slack_clear_told t plan stroke box slack note h clear)

-- and no panel touches it
not_touching : (t : Tree) (plan : Plan) (stroke : List ℤ) (box : Cuboid) (slack : ℕ) (panel : PanelId)
    (step : ℕ) (m : Moment) → IsSlackClearOf t plan stroke (faces box) slack
    → ¬ (IsTouching t plan stroke box slack panel.0 step m)
not_touching t plan stroke box slack panel step m clear h =
    let e = slack_clear_told t plan stroke box slack (TouchesPanel panel step m) h clear in cc

-- the note on a candidate
note_at : (t : Tree) (plan : Plan) (stroke : List ℤ) (candidates : List Cuboid) (slack : ℕ)
    (notes : List BodyNote) (k : ℕ) (b : Cuboid) → AreNotesOf t plan stroke candidates slack notes
    → k < length candidates → get_or candidates k b ≡ b
    → IsNoteOf t plan stroke b slack (get_or notes k Clears)
note_at t plan stroke candidates slack notes k b are lt is =
    subst (λ x. IsNoteOf t plan stroke x slack (get_or notes k Clears)) is (are.each k b Clears lt)

-- candidates that the plan clears by more than the slack are noted to be clear
noted : (t : Tree) (task : Task) (plan : Plan) (c : Catalogue) (notes : List BodyNote) (chosen : List Bool)
    → AreNotesOf t plan c.stroke c.bodies task.slack notes → AreWellClear t task plan c chosen
    → AreAmong c.bodies chosen c.bodies (clear_ones notes)
noted t task plan c notes chosen are clear = λ k b is.
    let lt = slice_get_within c.bodies k b is.at in
    let note = note_at t plan c.stroke c.bodies task.slack notes k b are lt
    (get_or_from_slice_get c.bodies k b b is.at) in
    let yes = noted_clear t plan c.stroke b task.slack (get_or notes k Clears) note (clear k b is) in
    let count = are.count in
    let there : slice_get notes k ≡ Some (get_or notes k Clears) =
    slice_get-get_or notes k Clears (omega (arith, lt, count)) in (
      k,
      record {
        at = is.at;
        marked = slice_get-map clears notes k ∙ ap (option_map clears) there
            ∙ ap (λ (x : Bool). Some x) yes;
      },
    )

pub made_where_good : (t : Tree) (task : Task) (plan : Plan) (c : Catalogue) (answer : Compiled)
    → IsCompiled t task plan c answer → answer ≢ Memory → IsSlackGood t task plan c → IsMadeAnswer answer
made_where_good t task plan c (PlanFails a) h other good = absurd (not_failing t task plan a good.plan_is h)
made_where_good t task plan c (Made f) h other good = tt
made_where_good t task plan c (Refused notes u) h other good =
    let g = h.unheld.0 in
    let well = at_place (λ x. IsWellHeld t plan.states x c.stroke c.bodies good.chosen (pos task.slack))
    c.guides u.guide g good.held h.unheld.1 in
    let loose = loose_in_fewer t plan.states g c.stroke c.bodies good.chosen c.bodies (clear_ones notes)
    (pos task.slack) u.end u.step u.moment (noted t task plan c notes good.chosen h.notes_are good.clear)
    h.unheld.2 in
    absurd (loose_not_well t plan.states g c.stroke c.bodies good.chosen (pos task.slack) u.end u.step
    u.moment loose well)
made_where_good t task plan c Memory h other good = absurd (other refl)

pub holds_where_good : (t : Tree) (task : Task) (plan : Plan) (c : Catalogue) (f : Fixture)
    (answer : Verified) → IsVerified t task plan c f answer → IsSlackGoodFixture t task plan c f → (count : ℕ)
    × (answer ≡ Holds count)
holds_where_good t task plan c f (PlanFailsOf a) h good = absurd (not_failing t task plan a good.plan_is h)
holds_where_good t task plan c f OtherStroke h good = absurd (h.1 good.candidates.stroke)
holds_where_good t task plan c f (NotCandidate k) h good =
    let x = h.2 in
    absurd (x.other (at_place (IsCandidate c.bodies) f.bodies k x.stranger good.candidates.candidates
    x.there))
holds_where_good t task plan c f (Touches id panel step m) h good =
    let x = h.1 in
    let clear = subst (λ (b : FixtureBody). IsSlackClearOf t plan f.stroke (faces b.shape) task.slack) x.3
    (good.clear x.0 x.1 x.2) in
    absurd (not_touching t plan f.stroke x.1.shape task.slack panel step m clear x.4.1)
holds_where_good t task plan c f (Unheld u) h good =
    let g = h.1.0 in
    let well = at_place (λ x. IsWellHeld t plan.states x f.stroke (boxes f.bodies) (each_of f.bodies)
    (pos task.slack)) c.guides u.guide g good.held h.1.1 in
    absurd (loose_not_well t plan.states g f.stroke (boxes f.bodies) (each_of f.bodies) (pos task.slack) u.end
    u.step u.moment h.1.2 well)
holds_where_good t task plan c f (Holds count) h good = (count, refl)
