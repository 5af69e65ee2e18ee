use Rattle.carton_base.proofs.Loops.{at_yes, same_test}
use Rattle.carton_panels.proofs.creases.is_common.Goals as goal

pub returns-then-joins_at : goal.returns-then-joins_at
returns-then-joins_at c =
    let letters = rw c.as_slice.ensures at c.joins_at.ensures in
    let sides = rw c.as_slice-then-joins_at.ensures at c.is_shared.ensures in
    same_test sides
    (λ s. record { joins = at_yes c.if-joins_at.true letters; side_of_first = s.0; side_of_second = s.1 })
    (λ h. (h.side_of_first, h.side_of_second))
