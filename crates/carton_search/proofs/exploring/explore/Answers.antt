use Rattle.std.proofs.Common.{◌≡◌, ◌+◌, ◌<◌, None, true, List, length, slice_get, refl, ap, sym, ◌∙◌, subst}
use Rattle.std.proofs.Math.ListN.{set}
use Rattle.carton_tree.specs.Trees.{Tree}
use Rattle.carton_queue.specs.Waits.{with_entry}
use Rattle.carton_steps.specs.Estimates.{estimate_of}
use Rattle.carton_search.specs.declared.known.Entry.{Entry}
use Rattle.carton_search.specs.Knowledge.{Knowledge}
use Rattle.carton_search.specs.Turns.{steps_of, Trying}
use Rattle.carton_search.proofs.Turning.{there_is, begun, gone_on}
use Rattle.carton_search.proofs.Outcomes.{no_way, too_far, stopped, arrived}
use Rattle.carton_search.proofs.exploring.explore.Goals as goal

pub returns-then-dropped-clause-outcome : goal.returns-then-dropped-clause-outcome
returns-then-dropped-clause-outcome g c =
    let k = c.turn.known in
    let going = c.turn.invariant.going in
    too_far c.args.task.now (g.J.Judge.carton c.args.judge.now) c.requires.suits.rules k c.turn.turns going.0
    going.1 (ap (λ (m : Knowledge). m.dropped) (sym c.in_default.ensures.rest) ∙ sym c.dropped.ensures
    ∙ c.if-dropped.true) c.in_default.ensures.least

pub returns-in_default-clause-outcome : goal.returns-in_default-clause-outcome
returns-in_default-clause-outcome g c =
    let k = c.turn.known in
    let going = c.turn.invariant.going in
    no_way c.args.task.now (g.J.Judge.carton c.args.judge.now) c.requires.suits.rules k c.turn.turns going.0
    going.1 (ap (λ (m : Knowledge). m.dropped) (sym c.in_default.ensures.rest) ∙ sym c.dropped.ensures
    ∙ c.if-dropped.false) c.in_default.ensures.least

pub entry-found-requires : goal.entry-found-requires
entry-found-requires g c =
    let k = c.turn.known in
    let going = c.turn.invariant.going in
    let number = c.in-Some.number in
    let l : number < length k.entries =
    there_is c.args.task.now (g.J.Judge.carton c.args.judge.now) c.requires.suits.rules k c.turn.turns
    going.0 going.1 number c.in-Some.priority c.in-Some.ensures.least in
    subst (λ (m : Knowledge). number < length m.entries) (sym c.in-Some.ensures.rest) l

pub returns-then-is_same-clause-outcome : goal.returns-then-is_same-clause-outcome
returns-then-is_same-clause-outcome g c =
    let k = c.turn.known in
    let going = c.turn.invariant.going in
    let number = c.in-Some.number in
    let same = ap (λ (m : Knowledge). m.entries) c.in-Some.ensures.rest in
    arrived c.args.task.now (g.J.Judge.carton c.args.judge.now) c.requires.suits.rules k c.turn.turns going.0
    going.1 number c.in-Some.priority c.in-Some.ensures.least c.entry-found.result
    (ap (λ (es : List Entry). slice_get es number) (sym same) ∙ c.entry-found.ensures) c.if-is_same.ensures
    c.take.new.self same

pub returns-then-turns-task-clause-outcome : goal.returns-then-turns-task-clause-outcome
returns-then-turns-task-clause-outcome g c =
    let k = c.turn.known in
    let going = c.turn.invariant.going in
    let number = c.in-Some.number in
    let same = ap (λ (m : Knowledge). m.entries) c.in-Some.ensures.rest in
    stopped c.args.task.now (g.J.Judge.carton c.args.judge.now) c.requires.suits.rules k c.turn.turns going.0
    going.1 number c.in-Some.priority c.in-Some.ensures.least c.entry-found.result
    (ap (λ (es : List Entry). slice_get es number) (sym same) ∙ c.entry-found.ensures) c.if-turns-task.true
    c.if-is_same.ensures c.take.new.self

pub try_steps-requires-clause-trying : goal.try_steps-requires-clause-trying
try_steps-requires-clause-trying g c =
    let task = c.args.task.now in
    let carton = g.J.Judge.carton c.args.judge.now in
    let k = c.turn.known in
    let going = c.turn.invariant.going in
    let number = c.in-Some.number in
    let e = c.entry-found.result in
    let y : Entry = record { state = e.state; parent = e.parent; moves = e.moves; tried = true } in
    let same = ap (λ (m : Knowledge). m.entries) c.in-Some.ensures.rest in
    let there = ap (λ (es : List Entry). slice_get es number) (sym same) ∙ c.entry-found.ensures in
    let o = begun task carton c.requires.suits.rules k c.turn.turns going.0 going.1 number c.in-Some.priority
    c.in-Some.ensures.least e y there refl refl refl refl c.if-turns-task.false c.if-is_same.ensures in
    let written : c.write.new.self ≡ record {
      entries = set k.entries number y;
      waiting = with_entry k.waiting number None;
      dropped = k.dropped;
    } =
    c.write.ensures
    ∙ ap (λ (m : Knowledge). record m { entries = set m.entries number y }) c.in-Some.ensures.rest in
    subst (λ (t : Tree). Trying task t c.write.new.self number y (c.turn.turns + 1) 0)
    (sym c.turn.invariant.carton)
    (subst (λ (m : Knowledge). Trying task carton m number y (c.turn.turns + 1) 0) (sym written) o)

pub turn-preserved : goal.turn-preserved
turn-preserved g c =
    let task = c.args.task.now in
    let carton = g.J.Judge.carton c.args.judge.now in
    let number = c.in-Some.number in
    let e = c.entry-found.result in
    let y : Entry = record { state = e.state; parent = e.parent; moves = e.moves; tried = true } in
    let o : Trying task carton c.try_steps.new.known number y (c.turn.turns + 1) (steps_of task) =
    subst (λ (t : Tree). Trying task t c.try_steps.new.known number y (c.turn.turns + 1) (steps_of task))
    c.turn.invariant.carton c.in_ok-try_steps.ensures.trying in record {
      going = (
        y.moves + estimate_of task y.state,
        gone_on task carton c.requires.suits.rules
            c.try_steps.new.known number y (c.turn.turns + 1) o,
      );
      carton = c.try_steps.ensures.carton ∙ c.turn.invariant.carton;
      slack = c.try_steps.ensures.slack ∙ c.turn.invariant.slack;
    }
