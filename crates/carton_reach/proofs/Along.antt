-- How far a point lies along each axis, by sums and differences of its parts.
use Rattle.std.proofs.Common.{ℕ, zero, suc, ◌+◌, ◌<◌, ◌≤◌, [], ◌∷◌, get_or, ◌+ℤ◌, ◌-ℤ◌, arith, subst}
use Rattle.std.proofs.lemmas.Int.{ints}
use Rattle.carton_enclose.specs.Held.{Holding, HoldsSum, HoldsDifference}
use Rattle.carton_enclose.specs.declared.space.Space.{Space}
use Rattle.carton_reach.specs.declared.reach.Reach.{Reach}
use Rattle.carton_reach.specs.Axes.{axis_at}
use Rattle.carton_reach.specs.Corners.{IsAlong}

-- e holds the sum, or the difference, of what a and b hold, and is no larger and no wider than both together
pub record IsSum {E : Type 0} (holds : Holding E) (size spread : E → ℕ) (a b e : E) : Type 0 where
  pub held : HoldsSum holds a b e
  pub small : size e ≤ size a + size b
  pub narrow : spread e ≤ spread a + spread b

pub record IsDifference {E : Type 0} (holds : Holding E) (size spread : E → ℕ) (a b e : E) : Type 0 where
  pub held : HoldsDifference holds a b e
  pub small : size e ≤ size a + size b
  pub narrow : spread e ≤ spread a + spread b

-- up and down are the sum and the difference of the last two parts, and the others those of the first part
-- and one of these
pub record AreParts {E : Type 0} (holds : Holding E) (size spread : E → ℕ) (s : Space E)
    (up down l4 l5 l6 l7 l9 l10 l11 l12 : E) : Type 0 where
  pub p_up : IsSum holds size spread s.y s.z up
  pub p_down : IsDifference holds size spread s.y s.z down
  pub p4 : IsDifference holds size spread s.x up l4
  pub p5 : IsDifference holds size spread s.x s.y l5
  pub p6 : IsDifference holds size spread s.x down l6
  pub p7 : IsDifference holds size spread s.x s.z l7
  pub p9 : IsSum holds size spread s.x s.z l9
  pub p10 : IsSum holds size spread s.x down l10
  pub p11 : IsSum holds size spread s.x s.y l11
  pub p12 : IsSum holds size spread s.x up l12

pub all_along : {E : Type 0} (holds : Holding E) (size spread : E → ℕ) (s : Space E)
    (up down l4 l5 l6 l7 l9 l10 l11 l12 : E) → AreParts holds size spread s up down l4 l5 l6 l7 l9 l10 l11 l12
    → (a : ℕ) (d : E) → a < 13
    → IsAlong holds size spread s (axis_at a) (get_or
    (s.z ∷ down ∷ s.y ∷ up ∷ l4 ∷ l5 ∷ l6 ∷ l7 ∷ s.x ∷ l9 ∷ l10 ∷ l11 ∷ l12 ∷ []) a d)
all_along holds size spread s up down l4 l5 l6 l7 l9 l10 l11 l12 p zero e h = record {
  held = λ n d x y z w m k o. subst (λ v. holds s.z n d v w) (omega (arith, ints)) o.2;
  small = omega arith;
  narrow = omega arith;
}
all_along holds size spread s up down l4 l5 l6 l7 l9 l10 l11 l12 p (suc zero) e h = record {
  held = λ n d x y z w m k o. subst (λ v. holds down n d v w) (omega (arith, ints))
      (p.p_down.held n d y z w m k o.1 o.2);
  small = omega (arith, p.p_down.small);
  narrow = omega (arith, p.p_down.narrow);
}
all_along holds size spread s up down l4 l5 l6 l7 l9 l10 l11 l12 p (suc (suc zero)) e h = record {
  held = λ n d x y z w m k o. subst (λ v. holds s.y n d v w) (omega (arith, ints)) o.1;
  small = omega arith;
  narrow = omega arith;
}
all_along holds size spread s up down l4 l5 l6 l7 l9 l10 l11 l12 p (suc (suc (suc zero))) e h = record {
  held = λ n d x y z w m k o. subst (λ v. holds up n d v w) (omega (arith, ints))
      (p.p_up.held n d y z w m k o.1 o.2);
  small = omega (arith, p.p_up.small);
  narrow = omega (arith, p.p_up.narrow);
}
all_along holds size spread s up down l4 l5 l6 l7 l9 l10 l11 l12 p (suc (suc (suc (suc zero)))) e h = record {
  held = λ n d x y z w m k o. subst (λ v. holds l4 n d v w) (omega (arith, ints))
      (p.p4.held n d x (y +ℤ z) w m k o.0 (p.p_up.held n d y z w m k o.1 o.2));
  small = omega (arith, p.p4.small, p.p_up.small);
  narrow = omega (arith, p.p4.narrow, p.p_up.narrow);
}
all_along holds size spread s up down l4 l5 l6 l7 l9 l10 l11 l12 p (suc (suc (suc (suc (suc zero))))) e h =
    record {
      held = λ n d x y z w m k o. subst (λ v. holds l5 n d v w) (omega (arith, ints))
          (p.p5.held n d x y w m k o.0 o.1);
      small = omega (arith, p.p5.small);
      narrow = omega (arith, p.p5.narrow);
    }
all_along holds size spread s up down l4 l5 l6 l7 l9 l10 l11 l12 p (suc (suc (suc (suc (suc (suc zero)))))) e
    h = record {
      held = λ n d x y z w m k o. subst (λ v. holds l6 n d v w) (omega (arith, ints))
          (p.p6.held n d x (y -ℤ z) w m k o.0 (p.p_down.held n d y z w m k o.1 o.2));
      small = omega (arith, p.p6.small, p.p_down.small);
      narrow = omega (arith, p.p6.narrow, p.p_down.narrow);
    }
all_along holds size spread s up down l4 l5 l6 l7 l9 l10 l11 l12 p
    (suc (suc (suc (suc (suc (suc (suc zero))))))) e h = record {
      held = λ n d x y z w m k o. subst (λ v. holds l7 n d v w) (omega (arith, ints))
          (p.p7.held n d x z w m k o.0 o.2);
      small = omega (arith, p.p7.small);
      narrow = omega (arith, p.p7.narrow);
    }
all_along holds size spread s up down l4 l5 l6 l7 l9 l10 l11 l12 p
    (suc (suc (suc (suc (suc (suc (suc (suc zero)))))))) e h = record {
      held = λ n d x y z w m k o. subst (λ v. holds s.x n d v w) (omega (arith, ints)) o.0;
      small = omega arith;
      narrow = omega arith;
    }
all_along holds size spread s up down l4 l5 l6 l7 l9 l10 l11 l12 p
    (suc (suc (suc (suc (suc (suc (suc (suc (suc zero))))))))) e h = record {
      held = λ n d x y z w m k o. subst (λ v. holds l9 n d v w) (omega (arith, ints))
          (p.p9.held n d x z w m k o.0 o.2);
      small = omega (arith, p.p9.small);
      narrow = omega (arith, p.p9.narrow);
    }
all_along holds size spread s up down l4 l5 l6 l7 l9 l10 l11 l12 p
    (suc (suc (suc (suc (suc (suc (suc (suc (suc (suc zero)))))))))) e h = record {
      held = λ n d x y z w m k o. subst (λ v. holds l10 n d v w) (omega (arith, ints))
          (p.p10.held n d x (y -ℤ z) w m k o.0 (p.p_down.held n d y z w m k o.1 o.2));
      small = omega (arith, p.p10.small, p.p_down.small);
      narrow = omega (arith, p.p10.narrow, p.p_down.narrow);
    }
all_along holds size spread s up down l4 l5 l6 l7 l9 l10 l11 l12 p
    (suc (suc (suc (suc (suc (suc (suc (suc (suc (suc (suc zero))))))))))) e h = record {
      held = λ n d x y z w m k o. subst (λ v. holds l11 n d v w) (omega (arith, ints))
          (p.p11.held n d x y w m k o.0 o.1);
      small = omega (arith, p.p11.small);
      narrow = omega (arith, p.p11.narrow);
    }
all_along holds size spread s up down l4 l5 l6 l7 l9 l10 l11 l12 p
    (suc (suc (suc (suc (suc (suc (suc (suc (suc (suc (suc (suc zero)))))))))))) e h = record {
      held = λ n d x y z w m k o. subst (λ v. holds l12 n d v w) (omega (arith, ints))
          (p.p12.held n d x (y +ℤ z) w m k o.0 (p.p_up.held n d y z w m k o.1 o.2));
      small = omega (arith, p.p12.small, p.p_up.small);
      narrow = omega (arith, p.p12.narrow, p.p_up.narrow);
    }
all_along holds size spread s up down l4 l5 l6 l7 l9 l10 l11 l12 p
    (suc (suc (suc (suc (suc (suc (suc (suc (suc (suc (suc (suc (suc n))))))))))))) e h =
    absurd (omega (arith, h))

-- 13 reaches that each have P at their place
pub each_axis : (P : ℕ → Reach → Type 0) (r0 r1 r2 r3 r4 r5 r6 r7 r8 r9 r10 r11 r12 : Reach) → P 0 r0 → P 1 r1
    → P 2 r2 → P 3 r3 → P 4 r4 → P 5 r5 → P 6 r6 → P 7 r7 → P 8 r8 → P 9 r9 → P 10 r10 → P 11 r11 → P 12 r12
    → (a : ℕ) (d : Reach) → a < 13
    → P a (get_or (r0 ∷ r1 ∷ r2 ∷ r3 ∷ r4 ∷ r5 ∷ r6 ∷ r7 ∷ r8 ∷ r9 ∷ r10 ∷ r11 ∷ r12 ∷ []) a d)
each_axis P r0 r1 r2 r3 r4 r5 r6 r7 r8 r9 r10 r11 r12 h0 h1 h2 h3 h4 h5 h6 h7 h8 h9 h10 h11 h12 zero d l = h0
each_axis P r0 r1 r2 r3 r4 r5 r6 r7 r8 r9 r10 r11 r12 h0 h1 h2 h3 h4 h5 h6 h7 h8 h9 h10 h11 h12 (suc zero) d
    l = h1
each_axis P r0 r1 r2 r3 r4 r5 r6 r7 r8 r9 r10 r11 r12 h0 h1 h2 h3 h4 h5 h6 h7 h8 h9 h10 h11 h12
    (suc (suc zero)) d l = h2
each_axis P r0 r1 r2 r3 r4 r5 r6 r7 r8 r9 r10 r11 r12 h0 h1 h2 h3 h4 h5 h6 h7 h8 h9 h10 h11 h12
    (suc (suc (suc zero))) d l = h3
each_axis P r0 r1 r2 r3 r4 r5 r6 r7 r8 r9 r10 r11 r12 h0 h1 h2 h3 h4 h5 h6 h7 h8 h9 h10 h11 h12
    (suc (suc (suc (suc zero)))) d l = h4
each_axis P r0 r1 r2 r3 r4 r5 r6 r7 r8 r9 r10 r11 r12 h0 h1 h2 h3 h4 h5 h6 h7 h8 h9 h10 h11 h12
    (suc (suc (suc (suc (suc zero))))) d l = h5
each_axis P r0 r1 r2 r3 r4 r5 r6 r7 r8 r9 r10 r11 r12 h0 h1 h2 h3 h4 h5 h6 h7 h8 h9 h10 h11 h12
    (suc (suc (suc (suc (suc (suc zero)))))) d l = h6
each_axis P r0 r1 r2 r3 r4 r5 r6 r7 r8 r9 r10 r11 r12 h0 h1 h2 h3 h4 h5 h6 h7 h8 h9 h10 h11 h12
    (suc (suc (suc (suc (suc (suc (suc zero))))))) d l = h7
each_axis P r0 r1 r2 r3 r4 r5 r6 r7 r8 r9 r10 r11 r12 h0 h1 h2 h3 h4 h5 h6 h7 h8 h9 h10 h11 h12
    (suc (suc (suc (suc (suc (suc (suc (suc zero)))))))) d l = h8
each_axis P r0 r1 r2 r3 r4 r5 r6 r7 r8 r9 r10 r11 r12 h0 h1 h2 h3 h4 h5 h6 h7 h8 h9 h10 h11 h12
    (suc (suc (suc (suc (suc (suc (suc (suc (suc zero))))))))) d l = h9
each_axis P r0 r1 r2 r3 r4 r5 r6 r7 r8 r9 r10 r11 r12 h0 h1 h2 h3 h4 h5 h6 h7 h8 h9 h10 h11 h12
    (suc (suc (suc (suc (suc (suc (suc (suc (suc (suc zero)))))))))) d l = h10
each_axis P r0 r1 r2 r3 r4 r5 r6 r7 r8 r9 r10 r11 r12 h0 h1 h2 h3 h4 h5 h6 h7 h8 h9 h10 h11 h12
    (suc (suc (suc (suc (suc (suc (suc (suc (suc (suc (suc zero))))))))))) d l = h11
each_axis P r0 r1 r2 r3 r4 r5 r6 r7 r8 r9 r10 r11 r12 h0 h1 h2 h3 h4 h5 h6 h7 h8 h9 h10 h11 h12
    (suc (suc (suc (suc (suc (suc (suc (suc (suc (suc (suc (suc zero)))))))))))) d l = h12
each_axis P r0 r1 r2 r3 r4 r5 r6 r7 r8 r9 r10 r11 r12 h0 h1 h2 h3 h4 h5 h6 h7 h8 h9 h10 h11 h12
    (suc (suc (suc (suc (suc (suc (suc (suc (suc (suc (suc (suc (suc n))))))))))))) d l =
    absurd (omega (arith, l))
