use Rattle.std.proofs.Common.{rules, ◌≡◌, sym, subst, SFits, pos, ◌*ℤ◌, ◌<ℤ◌}
use Rattle.std.specs.Int.{w128}
use Rattle.std.proofs.lemmas.Int.{to_z-of_z}
use Rattle.carton_model.specs.Parting.{along}
use Rattle.carton_model.specs.Turning.{laid}
use Rattle.carton_base.proofs.Tests.{less_from_test, test_from_less}
use Rattle.carton_panels.proofs.Parted.{no_gap, with_gap}
use Rattle.carton_panels.proofs.parting.is_farther.Goals as goal

pub returns : goal.returns
returns c =
    let p = c.args.p in
    let q = c.args.q in
    let h = c.args.h in
    let P = along h.u h.v (pos 0) (laid p) in
    let Q = along h.u h.v (pos 0) (laid q) in
    let a : c.product.result ≡ P *ℤ q.w =
    grind (rules, to_z-of_z, c.product.ensures.value, c.along.ensures.value, c.from.ensures) in
    let b : c.product-2.result ≡ Q *ℤ p.w =
    grind (rules, to_z-of_z, c.product-2.ensures.value, c.along-2.ensures.value, c.from-2.ensures) in
    let f : SFits w128 c.product.result = search rules in
    let g : SFits w128 c.product-2.result = search rules in
    simp to_z-of_z (
      λ t. with_gap (P *ℤ q.w) (Q *ℤ p.w) (p.w *ℤ q.w)
          (subst (λ n. n <ℤ (Q *ℤ p.w)) a
          (subst (λ n. c.product.result <ℤ n) b (less_from_test c.product.result c.product-2.result t))),
      λ l. test_from_less c.product.result c.product-2.result
          (subst (λ n. c.product.result <ℤ n) (sym b)
          (subst (λ n. n <ℤ (Q *ℤ p.w)) (sym a) (no_gap (P *ℤ q.w) (Q *ℤ p.w) (p.w *ℤ q.w) l))),
    )
