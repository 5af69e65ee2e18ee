use Rattle.std.proofs.Common.{rules, ◌≡◌, refl, pos, ◌+ℤ◌, ◌*ℤ◌}
use Rattle.std.proofs.lemmas.Int.{to_z-of_z}
use Rattle.carton_model.specs.Turning.{laid}
use Rattle.carton_panels.proofs.Parted.{along_level}
use Rattle.carton_panels.proofs.parting.along.Goals as goal

pub returns-clause-value : goal.returns-clause-value
returns-clause-value c =
    let h = c.args.h in
    let t = c.args.t in
    let first : c.product.result ≡ h.u *ℤ t.x =
    grind (rules, to_z-of_z, c.product.ensures.value, c.from.ensures, c.from-2.ensures) in
    let second : c.product-2.result ≡ h.v *ℤ t.y =
    grind (rules, to_z-of_z, c.product-2.ensures.value, c.from-3.ensures, c.from-4.ensures) in
    let flat : c.sum.result ≡ h.u *ℤ t.x +ℤ h.v *ℤ t.y =
    grind (rules, to_z-of_z, c.sum.ensures.value, first, second) in
    grind (rules, to_z-of_z, flat, along_level h.u h.v (pos 0) (laid t) refl)
