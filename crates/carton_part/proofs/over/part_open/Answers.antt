use Rattle.std.proofs.Common.{◌≡◌, ◌+◌, ap, arith, refl, ◌^◌}
use Rattle.carton_part.proofs.Walks.{at_each, at_first, before_whole}
use Rattle.carton_part.proofs.over.part_open.Goals as goal

pub returns-in-Good : goal.returns-in-Good
returns-in-Good g c =
    let whole = c.whole-whole.ensures in
    let one : c.whole-whole.result.index + 1 ≡ 2 ^ c.whole-whole.result.depth =
    omega (arith, whole.index, ap (λ k. 2 ^ k) whole.depth) in
    at_each _ _ _ one (before_whole _ _ _ whole.index) (c.in-Good.ensures.good refl)

pub returns-in-Bad : goal.returns-in-Bad
returns-in-Bad g c =
    let first = c.first.ensures in
    at_first c.whole-whole.result _ _ first.num first.den (c.in-Bad.ensures.bad refl)
