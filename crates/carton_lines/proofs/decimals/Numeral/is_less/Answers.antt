use Rattle.std.proofs.Common.{◌≡◌, ◌∙◌, sym, ap, subst, true, cond, pos, neg_ℤ}
use Rattle.std.specs.Str.Parse.{digits_value}
use Rattle.carton_lines.specs.Numbers.{is_written}
use Rattle.carton_lines.proofs.Lower.{negative_first, value_positive}
use Rattle.carton_lines.proofs.decimals.Numeral.is_less.Goals as goal

pub returns-in-true-false : goal.returns-in-true-false
returns-in-true-false c =
    let m = c.self.inside.digits.now in
    let n = c.other.inside.digits.now in
    let first = ap (λ b. cond b (neg_ℤ (pos (digits_value 10 m))) (pos (digits_value 10 m))) (sym
    c.in-true-false.is-0) ∙ c.self.view_is in
    let second = ap (λ b. cond b (neg_ℤ (pos (digits_value 10 n))) (pos (digits_value 10 n))) (sym
    c.in-true-false.is-1) ∙ c.other.view_is in
    negative_first (digits_value 10 m) (digits_value 10 n) c.args.self.now c.args.other.now
    (value_positive m (subst (λ b. is_written b m ≡ true) c.in-true-false.is-0 c.self.invariant)) first
    second
