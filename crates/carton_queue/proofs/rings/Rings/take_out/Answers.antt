use Rattle.std.proofs.Common.{ℕ, List, Option, sym, subst}
use Rattle.carton_queue.specs.Linked.{IsLinked}
use Rattle.carton_queue.proofs.Steps.{neighbours, removed}
use Rattle.carton_queue.proofs.rings.Rings.take_out.Goals as goal

pub unlink-requires-clause-next : goal.unlink-requires-clause-next
unlink-requires-clause-next c =
    (neighbours _ _ _ _ c.args.node c.requires.linked c.requires.present.1).0

pub unlink-requires-clause-previous : goal.unlink-requires-clause-previous
unlink-requires-clause-previous c =
    (neighbours _ _ _ _ c.args.node c.requires.linked c.requires.present.1).1

pub returns-clause-linked : goal.returns-clause-linked
returns-clause-linked c =
    let s = c.args.self.now in
    subst (λ (xs : List (Option ℕ)). IsLinked xs c.unlink.new.links s.buckets) (sym c.set.ensures)
    (removed s.priorities s.links c.unlink.new.links s.buckets c.requires.present.0 c.args.node
    c.requires.present.1 c.requires.linked c.unlink.ensures.len c.unlink.ensures.next
    c.unlink.ensures.previous)
