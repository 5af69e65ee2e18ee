use Rattle.std.proofs.Common.{rules, sym, ◌∙◌, ◌≡◌, ap, pos, ◌+ℤ◌, ◌-ℤ◌, ◌*ℤ◌, unsigned_abs, SFits, arith}
use Rattle.std.specs.Int.{w128}
use Rattle.std.proofs.lemmas.Int.{ints, to_z-of_z}
use Rattle.carton_model.specs.HalfTurns.{cosine, sine, square_sum}
use Rattle.carton_halfturn.proofs.HalfPairs.{cosine_is, sine_is, square_sum_is}
use Rattle.carton_halfturn.proofs.Sizes.{proper_at}
use Rattle.carton_halfturn.proofs.values.ratios_of.Goals as goal

pub returns : goal.returns
returns c =
    let n = c.args.f.num in
    let d = unsigned_abs c.args.f.den in
    let h = c.half_pair-c.ensures in
    let f1 : SFits w128 c.half_pair-c.result.c = search rules in
    let f2 : SFits w128 c.half_pair-c.result.s = search rules in
    let f3 : SFits w128 c.square-cc.result = search rules in
    let f4 : SFits w128 c.square-ss.result = search rules in
    let f5 : SFits w128 c.product.result = search rules in
    let f6 : SFits w128 c.difference.result = search rules in
    let f7 : SFits w128 c.double.result = search rules in
    let f8 : SFits w128 c.sum.result = search rules in
    let cc = (simp to_z-of_z at c.square-cc.ensures.value) ∙ ap (λ z. z *ℤ z) h.c in
    let ss = (simp to_z-of_z at c.square-ss.ensures.value) ∙ ap (λ z. z *ℤ z) h.s in
    let cs = (simp to_z-of_z at c.product.ensures.value) ∙ (λ i. h.c i *ℤ h.s i) in
    let cos : c.difference.result ≡ cosine n d =
    (simp to_z-of_z at c.difference.ensures.value) ∙ (λ i. cc i -ℤ ss i) ∙ sym (cosine_is n d) in
    let twice : c.product.result +ℤ c.product.result ≡ pos 2 *ℤ c.product.result = omega (arith, ints) in
    let sin : c.double.result ≡ sine n d =
    (simp to_z-of_z at c.double.ensures.value) ∙ twice ∙ ap (λ z. pos 2 *ℤ z) cs ∙ sym (sine_is n d) in
    let over : c.sum.result ≡ pos (square_sum n d) =
    (simp to_z-of_z at c.sum.ensures.value) ∙ (λ i. cc i +ℤ ss i) ∙ sym (square_sum_is n d) in
    simp to_z-of_z
    (record { cos = cos; sin = sin; over = over; proper = rw (cos, sin, over) (proper_at c.args.f) })
