use Rattle.std.proofs.Common.{rules, ◌≡◌, ◌∙◌, sym, SFits, ◌*ℤ◌}
use Rattle.std.specs.Int.{w128}
use Rattle.std.proofs.lemmas.Int.{to_z-of_z}
use Rattle.carton_base.proofs.Tests.{Decides-same_bits}
use Rattle.carton_base.proofs.Loops.{same_test}
use Rattle.carton_panels.proofs.crossings.has_same_product.Goals as goal

pub returns : goal.returns
returns c =
    let p : SFits w128 c.product.result = search rules in
    let q : SFits w128 c.product-2.result = search rules in
    let u : c.product.result ≡ c.args.a *ℤ c.args.b =
    grind (rules, to_z-of_z, c.product.ensures.value, c.from.ensures, c.from-2.ensures) in
    let v : c.product-2.result ≡ c.args.c *ℤ c.args.d =
    grind (rules, to_z-of_z, c.product-2.ensures.value, c.from-3.ensures, c.from-4.ensures) in
    same_test (Decides-same_bits c.product.result c.product-2.result p q) (λ h. sym u ∙ h ∙ v)
    (λ h. u ∙ h ∙ sym v)
