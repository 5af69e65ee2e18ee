use Rattle.std.proofs.Common.{◌∙◌, ap}
use Rattle.carton_queue.specs.declared.links.Link.{Link}
use Rattle.carton_queue.proofs.Places.{part_get}
use Rattle.carton_queue.proofs.links.previous_at.Goals as goal

pub returns : goal.returns
returns c = ap (λ (x : Link). x.previous) (c.at.ensures c.at.result)
    ∙ part_get (λ x. x.previous) c.args.links.now c.args.at c.at.result c.requires
