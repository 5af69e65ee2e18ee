use Rattle.std.proofs.Common.{◌∙◌, List, ap, sym, subst}
use Rattle.carton_queue.specs.declared.links.Link.{Link}
use Rattle.carton_queue.specs.Linked.{next_of, previous_of, IsSet}
use Rattle.carton_queue.proofs.Places.{part_here, part_rest, part_kept, part_get}
use Rattle.carton_queue.proofs.links.set_previous.Goals as goal

pub returns-clause-next : goal.returns-clause-next
returns-clause-next c i =
    let xs = c.args.links.now in
    let x : Link = record { next = c.at-link.result.next; previous = c.args.to } in
    ap (λ (ys : List Link). next_of ys i) c.set.ensures
    ∙ part_kept (λ x. x.next) xs c.args.at x c.requires
    (ap (λ (y : Link). y.next) (c.at-link.ensures c.at-link.result)
    ∙ part_get (λ x. x.next) xs c.args.at c.at-link.result c.requires) i

pub returns-clause-previous : goal.returns-clause-previous
returns-clause-previous c =
    let xs = c.args.links.now in
    let x : Link = record { next = c.at-link.result.next; previous = c.args.to } in
    subst (λ (ys : List Link). IsSet (previous_of xs) (previous_of ys) c.args.at c.args.to)
    (sym c.set.ensures)
    (record {
      here = part_here (λ x. x.previous) xs c.args.at x c.requires;
      rest = λ i o. part_rest (λ x. x.previous) xs c.args.at x i o;
    })
