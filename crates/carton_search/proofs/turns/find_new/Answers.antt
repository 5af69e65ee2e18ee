use Rattle.std.proofs.Common.{◌≡◌, ◌+◌, [], ◌∷◌, ◌++◌, ap, sym, ◌∙◌, subst, false}
use Rattle.carton_queue.specs.Waits.{priority_of}
use Rattle.carton_steps.specs.Estimates.{estimate_of}
use Rattle.carton_search.specs.declared.known.Entry.{Entry}
use Rattle.carton_search.specs.Known.{Has}
use Rattle.carton_search.specs.Knowledge.{Knowledge, with_priority}
use Rattle.carton_search.specs.Turns.{Trying}
use Rattle.carton_search.proofs.Trying.{past, put_new}
use Rattle.carton_search.proofs.turns.find_new.Goals as goal

pub add-requires-clause-new : goal.add-requires-clause-new
add-requires-clause-new g c =
    subst (λ (e : Entry). Has c.args.known.now.entries e.state → ⊥) (sym c.next_entry-entry.ensures)
    c.requires.new

pub put-requires-clause-absent : goal.put-requires-clause-absent
put-requires-clause-absent g c =
    let turn = c.args.turn.now in
    let number = c.in_ok-number.number in
    ap (λ (k : Knowledge). priority_of k.waiting number) c.in_ok-number.ensures.added
    ∙ past c.args.task.now (g.J.Judge.carton c.args.judge.now) c.requires.suits.rules c.args.known.now
    turn.number turn.entry turn.count turn.step c.requires.trying c.requires.less number
    c.in_ok-number.ensures.number

pub returns-clause-trying : goal.returns-clause-trying
returns-clause-trying g c =
    let turn = c.args.turn.now in
    let k = c.args.known.now in
    let number = c.in_ok-number.number in
    let next : Entry = record {
      state = c.args.to.now;
      parent = turn.number;
      moves = turn.entry.moves + 1;
      tried = false;
    } in
    let p = c.next_entry-entry.result.moves + c.estimate.result in
    let is : p ≡ turn.entry.moves + 1 + estimate_of c.args.task.now c.args.to.now =
    (λ j. (ap (λ (e : Entry). e.moves) c.next_entry-entry.ensures) j + c.estimate.ensures.value j) in
    let added : c.add.new.self ≡ record k { entries = k.entries ++ next ∷ [] } = c.in_ok-number.ensures.added
    ∙ ap (λ (e : Entry). record k { entries = k.entries ++ e ∷ [] }) c.next_entry-entry.ensures in
    subst (λ (m : Knowledge). Trying c.args.task.now (g.J.Judge.carton c.args.judge.now) m turn.number
    turn.entry turn.count (turn.step + 1))
    (sym (c.put.ensures ∙ ap (λ (m : Knowledge). with_priority m number p) added))
    (put_new c.args.task.now (g.J.Judge.carton c.args.judge.now) c.requires.suits.rules k turn.number
    turn.entry turn.count turn.step c.requires.trying c.requires.less c.args.to.now c.requires.to
    c.requires.new c.if-not-is_clear.ensures.clear number p c.in_ok-number.ensures.number is)
