use Rattle.std.proofs.Common.{◌∙◌, arith, refl}
use Rattle.std.specs.Ordering.{nat_cmp, is_lt}
use Rattle.std.proofs.lemmas.Bool.Decides.{nat_tests}
use Rattle.std.proofs.lemmas.Cmp.{same_from_slice_cmp_tested}
use Rattle.carton_lines.proofs.Lower.{lower, by_length, by_digits, natural_digits}
use Rattle.carton_lines.proofs.decimals.is_lower.Goals as goal

pub returns-then-first-second : goal.returns-then-first-second
returns-then-first-second c = by_length c.args.first.now c.args.second.now c.requires.first c.requires.second
    (λ e. let t = c.if-first-second.true in grind arith)

pub returns : goal.returns
returns c =
    let first = c.args.first.now in
    let second = c.args.second.now in
    let tested = same_from_slice_cmp_tested nat_cmp is_lt lower refl (λ _ _. refl) (λ _ _. refl)
    (λ x y xs ys o h. grind (arith, nat_tests)) first second c.lt.result c.lt.ensures in
    tested ∙ by_digits 0 first second (natural_digits first c.requires.first) (natural_digits second
    c.requires.second) (let t = c.if-first-second.false in omega arith)
