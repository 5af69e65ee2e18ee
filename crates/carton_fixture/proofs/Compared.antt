-- `==` of two boxes says that they are one.
use Rattle.std.proofs.Common.{◌≡◌, ap, ◌&&◌}
use Rattle.std.specs.Bool.{Decides}
use Rattle.std.specs.Ordering.{int_eq}
use Rattle.std.proofs.lemmas.Bool.Decides.{Decides-and, Decides-like, Decides-int_eq}
use Rattle.carton_base.specs.declared.bodies.Cuboid.{Cuboid}

pub cuboid_eq-Decides : (a b : Cuboid)
    → Decides (int_eq a.x0 b.x0
    && (int_eq a.x1 b.x1
    && (int_eq a.y0 b.y0 && (int_eq a.y1 b.y1 && (int_eq a.z0 b.z0 && int_eq a.z1 b.z1))))) (a ≡ b)
cuboid_eq-Decides a b =
    let int = Decides-int_eq in
    let z = Decides-and _ _ (int a.z0 b.z0) (int a.z1 b.z1) in
    let y = Decides-and _ _ (int a.y0 b.y0) (Decides-and _ _ (int a.y1 b.y1) z) in
    let x = Decides-and _ _ (int a.x0 b.x0) (Decides-and _ _ (int a.x1 b.x1) y) in
    Decides-like _
    (λ e. λ i. record {
      x0 = e.0 i;
      x1 = e.1.0 i;
      y0 = e.1.1.0 i;
      y1 = e.1.1.1.0 i;
      z0 = e.1.1.1.1.0 i;
      z1 = e.1.1.1.1.1 i;
    })
    (λ e. (
      ap (λ (c : Cuboid). c.x0) e,
      (
        ap (λ (c : Cuboid). c.x1) e,
        (
          ap (λ (c : Cuboid). c.y0) e,
          (ap (λ (c : Cuboid). c.y1) e, (ap (λ (c : Cuboid). c.z0) e, ap (λ (c : Cuboid). c.z1) e)),
        ),
      ),
    ))
    x
