use Rattle.std.proofs.Common.{◌∙◌, ◌++◌, ◌<◌, ◌≤◌, List, length, ap, sym, arith}
use Rattle.std.proofs.Math.ListN.{set}
use Rattle.std.proofs.lemmas.List.{set-append_left, set-append_right}
use Rattle.carton_queue.specs.declared.links.Link.{Link}
use Rattle.carton_queue.proofs.links.Links.set.Goals as goal

pub returns-then-slot-nodes : goal.returns-then-slot-nodes
returns-then-slot-nodes c =
    let s = c.self.inside in
    let l : c.args.slot < length s.nodes = omega (arith, c.len-nodes.ensures, c.if-slot-nodes.true) in
    ap (λ (xs : List Link). xs ++ s.heads.items) c.set.ensures
    ∙ sym (set-append_left s.nodes s.heads.items c.args.slot c.args.link l)
    ∙ ap (λ (xs : List Link). set xs c.args.slot c.args.link) c.self.view_is

pub returns-else-slot-nodes : goal.returns-else-slot-nodes
returns-else-slot-nodes c =
    let s = c.self.inside in
    let l : c.len-nodes.result ≤ c.args.slot = omega (arith, c.if-slot-nodes.false) in
    sym (set-append_right s.nodes s.heads.items c.len-nodes.result c.args.slot c.args.link
    (sym c.len-nodes.ensures) l) ∙ ap (λ (xs : List Link). set xs c.args.slot c.args.link) c.self.view_is
