use Rattle.std.proofs.Common.{◌≡◌, ◌+◌, ◌<◌, ◌≤◌, ℕ, false, length, inl, inr, refl, ap, sym, ◌∙◌, subst}
use Rattle.std.proofs.Common.{arith}
use Rattle.std.proofs.Math.ListN.{set}
use Rattle.carton_queue.specs.Waits.{nodes_of, priority_of}
use Rattle.carton_steps.specs.Estimates.{estimate_of}
use Rattle.carton_search.specs.declared.known.Entry.{Entry}
use Rattle.carton_search.specs.Knowledge.{Knowledge, queued_at, with_priority}
use Rattle.carton_search.specs.Turns.{Trying}
use Rattle.carton_search.proofs.Lists.{get_within, same_get}
use Rattle.carton_search.proofs.Trying.{pass_known, room_left, short, waits, put_again}
use Rattle.carton_search.proofs.turns.find_again.Goals as goal

pub returns-then-old-clause-trying : goal.returns-then-old-clause-trying
returns-then-old-clause-trying g c =
    let turn = c.args.turn.now in
    let es = c.args.known.now.entries in
    let p = c.requires.there in
    let is = same_get es c.args.number c.args.number p.0 c.entry-old.result refl p.1 c.entry-old.ensures in
    pass_known c.args.task.now (g.J.Judge.carton c.args.judge.now) c.requires.suits.rules c.args.known.now
    turn.number turn.entry turn.count turn.step c.requires.trying c.requires.less c.args.to.now
    c.requires.to c.args.number c.entry-old.result c.entry-old.ensures
    (sym (ap (λ (z : Entry). z.state) is) ∙ p.2) (inl c.if-old.true)

pub returns-then-old-turn-clause-trying : goal.returns-then-old-turn-clause-trying
returns-then-old-turn-clause-trying g c =
    let turn = c.args.turn.now in
    let es = c.args.known.now.entries in
    let p = c.requires.there in
    let is = same_get es c.args.number c.args.number p.0 c.entry-old.result refl p.1 c.entry-old.ensures in
    pass_known c.args.task.now (g.J.Judge.carton c.args.judge.now) c.requires.suits.rules c.args.known.now
    turn.number turn.entry turn.count turn.step c.requires.trying c.requires.less c.args.to.now
    c.requires.to c.args.number c.entry-old.result c.entry-old.ensures
    (sym (ap (λ (z : Entry). z.state) is) ∙ p.2) (inr c.if-old-turn.true)

pub write-requires : goal.write-requires
write-requires g c =
    let p = c.requires.there in
    (p.0, p.1, p.2 ∙ sym (ap (λ (z : Entry). z.state) c.next_entry-entry.ensures))

pub overflow_add-old : goal.overflow_add-old
overflow_add-old g c =
    let turn = c.args.turn.now in
    let l : c.entry-old.result.moves ≤ 4096 =
    short c.args.task.now (g.J.Judge.carton c.args.judge.now) c.requires.suits.rules c.args.known.now
    turn.number turn.entry turn.count turn.step c.requires.trying c.requires.less c.args.number
    c.entry-old.result c.entry-old.ensures in
    omega (arith, l, c.estimate-left.ensures.capped)

pub lower-requires-clause-room : goal.lower-requires-clause-room
lower-requires-clause-room g c =
    let turn = c.args.turn.now in
    let k = c.args.known.now in
    let w : nodes_of c.write.new.self.waiting ≡ nodes_of k.waiting =
    ap (λ (m : Knowledge). nodes_of m.waiting) c.write.ensures in
    let l : c.args.number < length k.entries =
    get_within k.entries c.args.number c.entry-old.result c.entry-old.ensures in
    let r = room_left c.args.task.now (g.J.Judge.carton c.args.judge.now) c.requires.suits.rules k turn.number
    turn.entry turn.count turn.step c.requires.trying c.requires.less in
    omega (arith, w, l, r)

pub lower-requires-clause-waits : goal.lower-requires-clause-waits
lower-requires-clause-waits g c =
    let turn = c.args.turn.now in
    let es = c.args.known.now.entries in
    let p = c.requires.there in
    let is = same_get es c.args.number c.args.number p.0 c.entry-old.result refl p.1 c.entry-old.ensures in
    ap (λ (m : Knowledge). priority_of m.waiting c.args.number) c.write.ensures
    ∙ waits c.args.task.now (g.J.Judge.carton c.args.judge.now) c.requires.suits.rules c.args.known.now
    turn.number turn.entry turn.count turn.step c.requires.trying c.requires.less c.args.to.now
    c.requires.to c.args.number c.entry-old.result c.entry-old.ensures
    (sym (ap (λ (z : Entry). z.state) is) ∙ p.2) c.if-old.false
    ∙ ap (λ (n : ℕ). queued_at (c.entry-old.result.moves + n)) (sym c.estimate-left.ensures.value)

pub returns-clause-trying : goal.returns-clause-trying
returns-clause-trying g c =
    let task = c.args.task.now in
    let carton = g.J.Judge.carton c.args.judge.now in
    let turn = c.args.turn.now in
    let k = c.args.known.now in
    let number = c.args.number in
    let there = c.requires.there in
    let same = same_get k.entries number number there.0 c.entry-old.result refl there.1 c.entry-old.ensures in
    let next : Entry = record {
      state = c.args.to.now;
      parent = turn.number;
      moves = turn.entry.moves + 1;
      tried = false;
    } in
    let p = c.next_entry-entry.result.moves + c.estimate-left.result in
    let is : p ≡ turn.entry.moves + 1 + estimate_of task c.args.to.now =
    (λ j. (ap (λ (e : Entry). e.moves) c.next_entry-entry.ensures) j + c.estimate-left.ensures.value j) in
    let written : c.write.new.self ≡ record k { entries = set k.entries number next } = c.write.ensures
    ∙ ap (λ (e : Entry). record k { entries = set k.entries number e }) c.next_entry-entry.ensures in
    subst (λ (m : Knowledge). Trying task carton m turn.number turn.entry turn.count (turn.step + 1))
    (sym (c.lower.ensures ∙ ap (λ (m : Knowledge). with_priority m number p) written))
    (put_again task carton c.requires.suits.rules k turn.number turn.entry turn.count turn.step
    c.requires.trying c.requires.less c.args.to.now c.requires.to number c.entry-old.result
    c.entry-old.ensures
    (sym (ap (λ (z : Entry). z.state) same) ∙ there.2) c.if-old.false (omega (arith, c.if-old-turn.false))
    c.if-not-is_clear.ensures.clear p is)
