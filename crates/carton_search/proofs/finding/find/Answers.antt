use Rattle.std.proofs.Common.{◌≡◌, List, sym, ◌∙◌, subst}
use Rattle.carton_base.specs.declared.motion.State.{State}
use Rattle.carton_text.specs.declared.task.Task.{Task}
use Rattle.carton_tree.specs.Trees.{Tree}
use Rattle.carton_search.specs.declared.exploring.Outcome.{Outcome}
use Rattle.carton_search.specs.Knowledge.{Knowledge}
use Rattle.carton_search.specs.Turns.{IsOutcome}
use Rattle.carton_search.proofs.Lists.{get_within}
use Rattle.carton_search.proofs.Plans.{Born, arrival_tree, found_end, none_end, turns_end}
use Rattle.carton_search.proofs.Verdicts.{clear_state}
use Rattle.carton_search.proofs.finding.find.Goals as goal

-- the outcome that was told, of the judge's carton
outcome_is : (task : Task) (t u : Tree) (k : Knowledge) (o p : Outcome) → t ≡ u → o ≡ p → IsOutcome task t k o
    → IsOutcome task u k p
outcome_is task t u k o p e f h =
    subst (IsOutcome task u k) f (subst (λ (x : Tree). IsOutcome task x k o) e h)

pub path_to-requires-clause-tree : goal.path_to-requires-clause-tree
path_to-requires-clause-tree g c =
    let carton = g.J.Judge.carton c.args.judge.now in
    let a = outcome_is c.args.task.now _ carton c.explore.new.known _ _ c.state.ensures.carton c.in-Arrived.is
    c.in_ok-number.ensures.outcome in (
      c.args.task.now.start,
      arrival_tree c.args.task.now carton c.requires.rules c.explore.new.known
          c.in-Arrived.number a,
    )

pub path_to-requires-clause-within : goal.path_to-requires-clause-within
path_to-requires-clause-within g c =
    let k = c.explore.new.known in
    let a = outcome_is c.args.task.now _ (g.J.Judge.carton c.args.judge.now) k _ _ c.state.ensures.carton
    c.in-Arrived.is c.in_ok-number.ensures.outcome in
    get_within k.entries c.in-Arrived.number a.entry a.there

pub returns-in-Arrived-clause-end : goal.returns-in-Arrived-clause-end
returns-in-Arrived-clause-end g c =
    let task = c.args.task.now in
    let carton = g.J.Judge.carton c.args.judge.now in
    let k = c.explore.new.known in
    let number = c.in-Arrived.number in
    let a = outcome_is task _ carton k _ _ c.state.ensures.carton c.in-Arrived.is
    c.in_ok-number.ensures.outcome in
    let born : Born k number c.from_vec.result = subst (λ (l : List State). Born k number l)
    (sym c.from_vec.ensures) c.in_ok-path_to-in-Arrived.ensures in
    found_end task carton c.requires.rules k number a c.creases.inside.items.items (c.creases.view_is
    ∙ c.in_ok-known.ensures.creases) c.from_vec.result born
    (clear_state carton task.start c.in_default.ensures.verdict)

pub returns-in-NoWay-clause-end : goal.returns-in-NoWay-clause-end
returns-in-NoWay-clause-end g c =
    let task = c.args.task.now in
    let carton = g.J.Judge.carton c.args.judge.now in
    let k = c.explore.new.known in
    let o = outcome_is task _ carton k _ _ c.state.ensures.carton c.in-NoWay.is
    c.in_ok-number.ensures.outcome in
    none_end task carton c.requires.rules k o (clear_state carton task.start c.in_default.ensures.verdict)

pub returns-clause-end : goal.returns-clause-end
returns-clause-end g c =
    let carton = g.J.Judge.carton c.args.judge.now in
    let o = outcome_is c.args.task.now _ carton c.explore.new.known _ _ c.state.ensures.carton c.in-Stopped.is
    c.in_ok-number.ensures.outcome in
    turns_end c.args.task.now carton c.requires.rules c.explore.new.known c.in-Stopped.moves o
