use Rattle.std.proofs.Common.{◌+◌, ◌≤◌, refl, sym, subst, pos, arith}
use Rattle.carton_base.specs.declared.motion.State.{State}
use Rattle.carton_text.specs.PlanMoves.{IsMove, AreMoves}
use Rattle.carton_text.proofs.PlanMoves.{moves_of_plan}
use Rattle.carton_guide.specs.declared.note.End.{End}
use Rattle.carton_guide.specs.Notes.{IsHeldThrough, IsLooseDuring, IsLooseAt}
use Rattle.carton_guide.proofs.WellHeld.{loose_not_well}
use Rattle.carton_guide.proofs.holding.held.Goals.{After-from}
use Rattle.carton_guide.proofs.Fitting.{HeldFrom, held_more}
use Rattle.carton_guide.proofs.holding.held.Goals as goal

pub loose_end-requires-clause-states : goal.loose_end-requires-clause-states
loose_end-requires-clause-states c =
    subst AreMoves (sym c.as_slice-states.ensures)
    (moves_of_plan c.args.carton.now c.args.plan.now c.requires.plan)

loose : (c : After-from)
    → IsLooseAt c.args.carton.now c.args.plan.now.states c.args.guide.now c.args.stroke c.args.bodies.now
    c.args.chosen.now (pos c.args.slack) c.in-Some.end c.from.result c.in-Some.moment
loose c =
    let t = c.args.carton.now in
    let g = c.args.guide.now in
    let f = c.flap_of-flap.result in
    let told = subst (λ states. IsLooseDuring t states g c.args.stroke c.args.bodies.now c.args.chosen.now
    (pos c.args.slack) f.panel.0 f.place c.in-Some.end c.loop-step.step c.in-Some.moment)
    c.as_slice-states.ensures c.in-Some.ensures.loose in (
      f.panel.0,
      f.place,
      c.flap_of-flap.ensures,
      record {
        from = let a = c.loop-step.auto.step in omega (arith, a, c.from.ensures);
        upto = let b = c.loop-step-test.true in omega (arith, b, c.from.ensures);
      },
      subst (λ i. IsLooseDuring t c.args.plan.now.states g c.args.stroke c.args.bodies.now c.args.chosen.now
          (pos c.args.slack) f.panel.0 f.place c.in-Some.end i c.in-Some.moment) (sym c.from.ensures) told,
    )

pub returns-in-Some-clause-note : goal.returns-in-Some-clause-note
returns-in-Some-clause-note c = loose c

pub returns-in-Some-clause-well_held : goal.returns-in-Some-clause-well_held
returns-in-Some-clause-well_held c =
    λ w. absurd (loose_not_well c.args.carton.now c.args.plan.now.states c.args.guide.now c.args.stroke
    c.args.bodies.now c.args.chosen.now (pos c.args.slack) c.in-Some.end c.from.result c.in-Some.moment
    (loose c) w)

pub loop-step-init : goal.loop-step-init
loop-step-init c = λ i from lt. absurd (omega (arith, from, lt))

pub loop-step-preserved : goal.loop-step-preserved
loop-step-preserved c =
    let t = c.args.carton.now in
    let g = c.args.guide.now in
    let f = c.flap_of-flap.result in
    held_more t c.args.plan.now.states g c.args.stroke c.args.bodies.now c.args.chosen.now f.panel.0 f.place
    c.loop-step.step c.loop-step.invariant
    (subst (λ states. (s r : State) (end : End) → IsMove states c.loop-step.step s r
    → IsHeldThrough t g c.args.stroke c.args.bodies.now c.args.chosen.now f.panel.0 f.place end
    c.loop-step.step s r) c.as_slice-states.ensures (c.in_default.ensures.held refl))

pub returns-in_default-clause-note : goal.returns-in_default-clause-note
returns-in_default-clause-note c =
    let t = c.args.carton.now in
    let g = c.args.guide.now in
    let f = c.flap_of-flap.result in
    let all : HeldFrom t c.args.plan.now.states g c.args.stroke c.args.bodies.now c.args.chosen.now f.panel.0
    f.place (c.loop-step.step + 1) =
    held_more t c.args.plan.now.states g c.args.stroke c.args.bodies.now c.args.chosen.now f.panel.0 f.place
    c.loop-step.step c.loop-step.invariant
    (subst (λ states. (s r : State) (end : End) → IsMove states c.loop-step.step s r
    → IsHeldThrough t g c.args.stroke c.args.bodies.now c.args.chosen.now f.panel.0 f.place end
    c.loop-step.step s r) c.as_slice-states.ensures (c.in_default.ensures.held refl)) in
    let end : g.last ≤ c.loop-step.step = omega arith in (
      f.panel.0,
      f.place,
      c.flap_of-flap.ensures,
      λ i s r e w. all i w.from (let u = w.upto in
          omega (arith, u, end)) s r e,
    )
