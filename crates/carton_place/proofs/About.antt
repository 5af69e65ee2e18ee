-- What is held of a position that was turned about a line.
use Rattle.std.proofs.Common.{◌≡◌, ℕ, ◌*◌, ◌<◌, ℤ, pos, ◌+ℤ◌, ◌-ℤ◌, ◌*ℤ◌, arith, ap, sym, subst}
use Rattle.std.proofs.lemmas.Int.{ints}
use Rattle.carton_base.proofs.Products.{mul_assoc_ℤ}
use Rattle.carton_model.specs.Parting.{Position}
use Rattle.carton_model.specs.Turning.{Angle, turned_about}
use Rattle.carton_enclose.specs.Held.{Holding}
use Rattle.carton_enclose.specs.declared.space.Space.{Space}
use Rattle.carton_place.specs.Held.{HoldsPosition}

-- one denominator for another: the same number
rewritten : {E : Type 0} (holds : Holding E) (e : E) (n d : ℕ) (x y : ℤ) (v w : ℕ) → x ≡ y → v ≡ w
    → holds e n d x v → holds e n d y w
rewritten holds e n d x y v w p q h = subst (λ t. holds e n d y t) q (subst (λ t. holds e n d t v) p h)

-- with the position's w as a natural number
over_natural : {E : Type 0} (holds : Holding E) (s : Space E) (n d : ℕ) (at : ℤ) (a : Angle) (x y z : ℤ)
    (v : ℕ) → 0 < v → 0 < a.over
    → holds s.x n d (at *ℤ pos (a.over * v) +ℤ (a.cos *ℤ (x -ℤ at *ℤ pos v) -ℤ a.sin *ℤ z)) (a.over * v)
    → holds s.y n d (y *ℤ pos a.over) (a.over * v)
    → holds s.z n d (a.sin *ℤ (x -ℤ at *ℤ pos v) +ℤ a.cos *ℤ z) (a.over * v)
    → HoldsPosition holds s n d (turned_about at a record { x = x; y = y; z = z; w = pos v })
unfolding turned_about
over_natural holds s n d at a x y z v pv po hx hy hz =
    let t : a.over * v ≡ v * a.over = omega arith in
    let u : at *ℤ pos (a.over * v) ≡ (at *ℤ pos v) *ℤ pos a.over =
    omega (arith, ints, mul_assoc_ℤ at (pos v) (pos a.over)) in
    let p : 0 < v * a.over = grind arith in
    record {
      positive = omega (arith, ints, p);
      point = (
        rewritten holds s.x n d _ _ _ _ (ap (λ k. k +ℤ (a.cos *ℤ (x -ℤ at *ℤ pos v) -ℤ a.sin *ℤ z)) u) t hx,
        rewritten holds s.y n d _ _ _ _ (λ i. y *ℤ pos a.over) t hy,
        rewritten holds s.z n d _ _ _ _ (λ i. a.sin *ℤ (x -ℤ at *ℤ pos v) +ℤ a.cos *ℤ z) t hz,
      );
    }

pub turned_held : {E : Type 0} (holds : Holding E) (s : Space E) (n d : ℕ) (at : ℤ) (a : Angle) (q : Position)
    (v : ℕ) → q.w ≡ pos v → 0 < v → 0 < a.over
    → holds s.x n d (at *ℤ pos (a.over * v) +ℤ (a.cos *ℤ (q.x -ℤ at *ℤ pos v) -ℤ a.sin *ℤ q.z)) (a.over * v)
    → holds s.y n d (q.y *ℤ pos a.over) (a.over * v)
    → holds s.z n d (a.sin *ℤ (q.x -ℤ at *ℤ pos v) +ℤ a.cos *ℤ q.z) (a.over * v)
    → HoldsPosition holds s n d (turned_about at a q)
turned_held holds s n d at a q v w pv po hx hy hz =
    let e : record { x = q.x; y = q.y; z = q.z; w = pos v } ≡ q =
    λ i. record { x = q.x; y = q.y; z = q.z; w = sym w i } in
    subst (λ r. HoldsPosition holds s n d (turned_about at a r)) e
    (over_natural holds s n d at a q.x q.y q.z v pv po hx hy hz)
