use Rattle.std.proofs.Common.{refl, ap, arith}
use Rattle.carton_search.specs.Knowledge.{Knowledge}
use Rattle.carton_search.proofs.Entries.{long_known, entry_added}
use Rattle.carton_search.proofs.known.Known.add.Goals as goal

pub overflow_cast-number : goal.overflow_cast-number
overflow_cast-number c =
    let i = c.self.inside in
    omega (
      arith,
      long_known i.states.keys i.nodes.items _ c.args.self.now refl c.self.view_is
          c.self.invariant,
      c.len-number.ensures,
      i.nodes.ok.0,
      c.requires.room,
    )

pub invariant_of-self-2 : goal.invariant_of-self-2
invariant_of-self-2 c =
    let i = c.self.inside in
    (entry_added i.states.keys _ i.nodes.items _ _ _ c.args.self.now c.args.entry.state _ refl c.self.view_is
    c.self.invariant c.requires.new c.in_ok-insert.ensures.keys c.in_ok-reserve.ensures.items
    c.push_reserved.ensures.items).0

pub returns-clause-number : goal.returns-clause-number
returns-clause-number c =
    let i = c.self.inside in
    omega (
      arith,
      long_known i.states.keys i.nodes.items _ c.args.self.now refl c.self.view_is
          c.self.invariant,
      c.len-number.ensures,
      i.nodes.ok.0,
    )

pub returns-clause-added : goal.returns-clause-added
returns-clause-added c =
    let i = c.self.inside in
    let both = (entry_added i.states.keys _ i.nodes.items _ _ _ c.args.self.now c.args.entry.state _ refl
    c.self.view_is c.self.invariant c.requires.new c.in_ok-insert.ensures.keys
    c.in_ok-reserve.ensures.items c.push_reserved.ensures.items).1 in
    λ j. record {
      entries = both j;
      waiting = (ap (λ (k : Knowledge). k.waiting) c.self.view_is) j;
      dropped = (ap (λ (k : Knowledge). k.dropped) c.self.view_is) j;
    }
