use Rattle.std.proofs.Common.{◌≡◌, List, Some, slice_get, length, refl, ap, sym, ◌∙◌, arith}
use Rattle.std.proofs.lemmas.Option.{slice_get_read}
use Rattle.carton_search.specs.declared.known.Entry.{Entry}
use Rattle.carton_search.specs.Knowledge.{Knowledge, entries_of}
use Rattle.carton_search.proofs.Entries.{long_known, entry_there}
use Rattle.carton_search.proofs.known.Known.entry.Goals as goal

pub index-requires : goal.index-requires
index-requires c =
    let i = c.self.inside in
    omega (
      arith,
      c.self.invariant,
      long_known i.states.keys i.nodes.items _ c.args.self.now refl
          c.self.view_is c.self.invariant,
      c.requires,
    )

pub index-requires-2 : goal.index-requires-2
index-requires-2 c =
    let i = c.self.inside in
    omega (
      arith,
      long_known i.states.keys i.nodes.items _ c.args.self.now refl c.self.view_is
          c.self.invariant,
      c.requires,
      i.nodes.ok.0,
    )

pub returns : goal.returns
returns c =
    let ss = c.self.inside.states.keys in
    let ns = c.self.inside.nodes.items in
    let v : entries_of ss ns ≡ c.args.self.now.entries = ap (λ (k : Knowledge). k.entries) c.self.view_is in
    let long = long_known ss ns _ c.args.self.now refl c.self.view_is c.self.invariant in
    let there = slice_get_read ns (length ns) c.args.number c.index-2.result.now (omega arith)
    (omega (arith, long, c.requires)) c.index-2.ensures in
    ap (λ (es : List Entry). slice_get es c.args.number) (sym v)
    ∙ entry_there ss ns c.args.number c.index.result.now c.index-2.result.now c.index.ensures there
    ∙ ap Some (sym c.entry_at.ensures)
