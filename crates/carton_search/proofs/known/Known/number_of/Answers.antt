use Rattle.std.proofs.Common.{Some, None, refl, sym, subst, arith}
use Rattle.carton_search.specs.Known.{IsNumberOf}
use Rattle.carton_search.specs.Knowledge.{Knowledge}
use Rattle.carton_search.proofs.Entries.{long_known, number_there, no_number}
use Rattle.carton_search.proofs.known.Known.number_of.Goals as goal

pub overflow_cast-result : goal.overflow_cast-result
overflow_cast-result c =
    let i = c.self.inside in
    omega (
      arith,
      c.in-Some.ensures.within,
      c.self.invariant,
      long_known i.states.keys i.nodes.items _
          c.args.self.now refl c.self.view_is c.self.invariant,
      c.requires,
    )

pub returns-in-Some : goal.returns-in-Some
returns-in-Some c =
    let i = c.self.inside in
    subst (λ (k : Knowledge). IsNumberOf k.entries c.args.state.now (Some c.in-Some.number)) c.self.view_is
    (number_there c.args.state.now i.states.keys i.nodes.items c.in-Some.number c.self.invariant
    (sym c.in-Some.ensures.index))

pub returns-in-None : goal.returns-in-None
returns-in-None c =
    let i = c.self.inside in
    subst (λ (k : Knowledge). IsNumberOf k.entries c.args.state.now None) c.self.view_is
    (no_number c.args.state.now i.states.keys i.nodes.items (sym c.in-None.ensures.index))
