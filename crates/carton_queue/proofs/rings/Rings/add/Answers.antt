use Rattle.std.proofs.Common.{◌≡◌, ◌+◌, ℕ, List, Option, length, sym, subst, arith}
use Rattle.carton_queue.specs.Linked.{IsLinked}
use Rattle.carton_queue.proofs.Steps.{in_links, head_in, head_apart, added}
use Rattle.carton_queue.proofs.rings.Rings.add.Goals as goal

pub insert_after-requires-clause-head : goal.insert_after-requires-clause-head
insert_after-requires-clause-head c =
    let s = c.args.self.now in
    let a = c.len.result + c.args.priority in
    let e : a ≡ length s.priorities + c.args.priority = omega (arith, c.len.ensures) in
    in_links s.priorities s.links s.buckets c.args.priority _ c.requires.priority c.requires.linked
    (head_in s.priorities s.links s.buckets c.args.priority a e c.requires.priority c.requires.linked)

pub insert_after-requires-clause-apart_head : goal.insert_after-requires-clause-apart_head
insert_after-requires-clause-apart_head c =
    let s = c.args.self.now in
    let a = c.len.result + c.args.priority in
    let e : a ≡ length s.priorities + c.args.priority = omega (arith, c.len.ensures) in
    head_apart s.priorities s.links s.buckets c.args.priority a c.args.node e c.requires.priority
    c.requires.node c.requires.absent c.requires.linked

pub returns-clause-linked : goal.returns-clause-linked
returns-clause-linked c =
    let s = c.args.self.now in
    let a = c.len.result + c.args.priority in
    let e : a ≡ length s.priorities + c.args.priority = omega (arith, c.len.ensures) in
    subst (λ (xs : List (Option ℕ)). IsLinked xs c.insert_after.new.links s.buckets) (sym c.set.ensures)
    (added s.priorities s.links c.insert_after.new.links s.buckets c.args.priority a c.args.node e
    c.requires.priority c.requires.node c.requires.absent c.requires.linked c.insert_after.ensures.len
    c.insert_after.ensures.next c.insert_after.ensures.previous)
