use Rattle.std.proofs.Common.{◌≡◌, ◌<◌, List, Some, slice_get, length, ap, ◌∙◌, arith}
use Rattle.std.proofs.Math.ListN.{set}
use Rattle.carton_search.specs.declared.known.Entry.{Entry}
use Rattle.carton_search.specs.declared.known.Node.{Node}
use Rattle.carton_search.specs.Knowledge.{Knowledge, entries_of}
use Rattle.carton_search.proofs.Entries.{long_entries, state_there, set_entries}
use Rattle.carton_search.proofs.Lists.{get_within}
use Rattle.carton_search.proofs.known.Known.write.Goals as goal

pub index_mut-requires : goal.index_mut-requires
index_mut-requires c =
    let ss = c.self.inside.states.keys in
    let ns = c.self.inside.nodes.items in
    let v : length (entries_of ss ns) ≡ length c.args.self.now.entries =
    ap (λ (k : Knowledge). length k.entries) c.self.view_is in
    let l : c.args.number < length c.args.self.now.entries =
    get_within c.args.self.now.entries c.args.number c.requires.0 c.requires.1 in
    omega (arith, l, v, long_entries ss ns c.self.invariant, c.self.inside.nodes.ok.0)

pub returns : goal.returns
returns c =
    let ss = c.self.inside.states.keys in
    let ns = c.self.inside.nodes.items in
    let y = c.args.entry.now in
    let n : Node = record { parent = y.parent; moves = y.moves; tried = y.tried } in
    let v : entries_of ss ns ≡ c.args.self.now.entries = ap (λ (k : Knowledge). k.entries) c.self.view_is in
    let there =
    state_there ss ns c.args.number c.requires.0 (ap (λ (es : List Entry). slice_get es c.args.number) v
    ∙ c.requires.1) ∙ ap Some c.requires.2 in
    let both = set_entries ss ns c.args.number y.state n there
    ∙ ap (λ (es : List Entry). set es c.args.number y) v in
    λ j. record {
      entries = both j;
      waiting = (ap (λ (k : Knowledge). k.waiting) c.self.view_is) j;
      dropped = (ap (λ (k : Knowledge). k.dropped) c.self.view_is) j;
    }
