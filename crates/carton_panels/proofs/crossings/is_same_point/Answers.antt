use Rattle.std.proofs.Common.{rules, ◌≡◌, IsTrue, ◌↔◌, ◌*ℤ◌}
use Rattle.std.proofs.lemmas.Int.{to_z-of_z}
use Rattle.carton_base.proofs.Loops.{at_yes, same_test}
use Rattle.carton_panels.proofs.crossings.is_same_point.Goals as goal

pub returns-then-has_same_product : goal.returns-then-has_same_product
returns-then-has_same_product c =
    let a = c.args.a in
    let b = c.args.b in
    let first : IsTrue c.has_same_product.result ↔ a.x *ℤ b.w ≡ b.x *ℤ a.w =
    grind (rules, to_z-of_z, c.has_same_product.ensures) in
    let second : IsTrue c.has_same_product-then-has_same_product.result ↔ a.y *ℤ b.w ≡ b.y *ℤ a.w =
    grind (rules, to_z-of_z, c.has_same_product-then-has_same_product.ensures) in
    same_test second (λ e. (at_yes c.if-has_same_product.true first, e)) (λ e. e.1)
