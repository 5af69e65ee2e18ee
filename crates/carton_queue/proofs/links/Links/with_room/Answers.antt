use Rattle.std.proofs.Common.{◌∙◌, length, ap}
use Rattle.std.proofs.lemmas.List.{length-replicate}
use Rattle.carton_queue.proofs.Places.{part_after}
use Rattle.carton_queue.proofs.links.Links.with_room.Goals as goal

pub returns-clause-next : goal.returns-clause-next
returns-clause-next c b l =
    let long = ap length c.in_ok-links.ensures ∙ length-replicate c.args.nodes _ in
    part_after (λ x. x.next) c.in_ok-links.links c.in_ok-heads.heads.items c.args.nodes b long
    ∙ c.in_ok-heads.ensures.next b l

pub returns-clause-previous : goal.returns-clause-previous
returns-clause-previous c b l =
    let long = ap length c.in_ok-links.ensures ∙ length-replicate c.args.nodes _ in
    part_after (λ x. x.previous) c.in_ok-links.links c.in_ok-heads.heads.items c.args.nodes b long
    ∙ c.in_ok-heads.ensures.previous b l
