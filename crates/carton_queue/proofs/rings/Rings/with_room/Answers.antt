use Rattle.std.proofs.Common.{◌≡◌, ◌+◌, ◌∙◌, ℕ, None, List, Option, length, ap, sym, subst, arith}
use Rattle.std.proofs.lemmas.List.{length-replicate}
use Rattle.carton_queue.specs.Waits.{priority_at}
use Rattle.carton_queue.specs.Linked.{next_of, previous_of}
use Rattle.carton_queue.proofs.Places.{at_blank}
use Rattle.carton_queue.proofs.Steps.{empty_linked}
use Rattle.carton_queue.proofs.rings.Rings.with_room.Goals as goal

pub returns-clause-empty : goal.returns-clause-empty
returns-clause-empty c n = ap (λ (xs : List (Option ℕ)). priority_at xs n) c.in_ok-priorities.ensures
    ∙ at_blank c.args.nodes n

pub returns-clause-linked : goal.returns-clause-linked
returns-clause-linked c =
    let xs = c.in_ok-priorities.priorities in
    let links = c.in_ok-links.links in
    let e : length xs ≡ c.args.nodes = ap length c.in_ok-priorities.ensures
    ∙ length-replicate c.args.nodes None in
    empty_linked xs links c.args.buckets (omega (arith, e, c.in_ok-links.ensures.len))
    (returns-clause-empty c)
    (λ b l. subst (λ (n : ℕ). next_of links (n + b) ≡ n + b) (sym e) (c.in_ok-links.ensures.next b l))
    (λ b l. subst (λ (n : ℕ). previous_of links (n + b) ≡ n + b) (sym e) (c.in_ok-links.ensures.previous b l))
