-- Turns and then the same turns back, the last one first, lead to the same place.
use Rattle.std.proofs.Common.{◌≡◌, ◌∙◌, refl, sym, ap, subst, ℕ, zero, suc, ◌<◌, List, [], ◌∷◌, ◌++◌, map}
use Rattle.std.proofs.Common.{reverse, Bool, true, false, cond, ℤ, pos, negsuc, neg_ℤ, ◌+ℤ◌, ◌-ℤ◌, ◌*ℤ◌, ◌<ℤ◌}
use Rattle.std.proofs.Common.{unsigned_abs, arith}
use Rattle.std.proofs.lemmas.Int.{ints}
use Rattle.std.proofs.lemmas.List.{reverse-append}
use Rattle.carton_base.proofs.Identities.{whole, less, ◌⊕◌, ◌⊖◌, ◌⊗◌, ◌⊜◌, by2, by5, by7}
use Rattle.carton_base.proofs.Polynomials.{positive_product}
use Rattle.carton_base.proofs.Products.{mul_neg_right}
use Rattle.carton_base.specs.declared.motion.Turn.{Turn}
use Rattle.carton_halfturn.proofs.HalfPairs.{cosine_is, sine_is, square_sum_is}
use Rattle.carton_model.specs.HalfTurns.{Fold, cosine, sine, square_sum, half_cosine, half_sine}
use Rattle.carton_model.specs.Parting.{Position}
use Rattle.carton_model.specs.Turning.{Angle, angle_of, with_side, turned_about, turned_by, turned_back}
use Rattle.carton_model.specs.Turning.{turned_through, exchanged, fold_of, placed}
use Rattle.carton_part.specs.Points.{HaveDens}
use Rattle.carton_part.proofs.Positive.{some_over_of}
use Rattle.carton_part.proofs.Alike.{AreAlike, alike_self, alike_on, alike_placed}

-- the angle's cosine and sine stand over its over: their squares sum up to its square
abbrev pub IsOnCircle : Angle → Type 0
IsOnCircle g = g.cos *ℤ g.cos +ℤ g.sin *ℤ g.sin ≡ pos g.over *ℤ pos g.over

abbrev mirrored : Angle → Angle
mirrored g = record { cos = g.cos; sin = neg_ℤ g.sin; over = g.over }

circle : (n : ℤ) (d : ℕ) → cosine n d *ℤ cosine n d +ℤ sine n d *ℤ sine n d
    ≡ pos (square_sum n d) *ℤ pos (square_sum n d)
circle n d = (λ i. cosine_is n d i *ℤ cosine_is n d i +ℤ sine_is n d i *ℤ sine_is n d i)
    ∙ squares (half_cosine n d) (half_sine n d) ∙ sym (λ i. square_sum_is n d i *ℤ square_sum_is n d i)
  where
    squares : (c s : ℤ) → (c *ℤ c -ℤ s *ℤ s) *ℤ (c *ℤ c -ℤ s *ℤ s) +ℤ (pos 2 *ℤ (c *ℤ s))
        *ℤ (pos 2 *ℤ (c *ℤ s)) ≡ (c *ℤ c +ℤ s *ℤ s) *ℤ (c *ℤ c +ℤ s *ℤ s)
    squares =
        by2 (λ c s. (c ⊗ c ⊖ s ⊗ s) ⊗ (c ⊗ c ⊖ s ⊗ s) ⊕ (whole 2 ⊗ (c ⊗ s)) ⊗ (whole 2 ⊗ (c ⊗ s))
        ⊜ (c ⊗ c ⊕ s ⊗ s) ⊗ (c ⊗ c ⊕ s ⊗ s)) refl

on_circle : (f : Fold) → IsOnCircle (angle_of f)
on_circle f = circle f.num f.den

sign_square : (s : ℤ) → unsigned_abs s ≡ 1 → s *ℤ s ≡ pos 1
sign_square (pos zero) h = absurd (omega (arith, h))
sign_square (pos (suc zero)) h = refl
sign_square (pos (suc (suc n))) h = absurd (omega (arith, h))
sign_square (negsuc zero) h = refl
sign_square (negsuc (suc n)) h = absurd (omega (arith, h))

side_on_circle : (s : ℤ) (g : Angle) → unsigned_abs s ≡ 1 → IsOnCircle g → IsOnCircle (with_side s g)
side_on_circle s g h on =
    ap (λ z. g.cos *ℤ g.cos +ℤ z) (by2 (λ s x. (s ⊗ x) ⊗ (s ⊗ x) ⊜ (s ⊗ s) ⊗ (x ⊗ x)) refl s g.sin
    ∙ ap (λ z. z *ℤ (g.sin *ℤ g.sin)) (sign_square s h)
    ∙ by2 (λ x y. whole 1 ⊗ x ⊜ x) refl (g.sin *ℤ g.sin) (pos 0)) ∙ on

-- the other side mirrors the angle
side_back : (s : ℤ) (g : Angle) → with_side (neg_ℤ s) g ≡ mirrored (with_side s g)
side_back s g = λ i. record { cos = g.cos; sin = mul_neg_right s g.sin i; over = g.over }

-- x, off the line, and z after the turn and the turn back
back_x : (at o c s x z w : ℤ)
    → (at *ℤ (w *ℤ o)) *ℤ o +ℤ (c *ℤ (((at *ℤ w) *ℤ o +ℤ (c *ℤ (x -ℤ at *ℤ w) -ℤ s *ℤ z)) -ℤ at *ℤ (w *ℤ o))
    -ℤ neg_ℤ s *ℤ (s *ℤ (x -ℤ at *ℤ w) +ℤ c *ℤ z)) ≡ (at *ℤ w) *ℤ (o *ℤ o) +ℤ (c *ℤ c +ℤ s *ℤ s)
    *ℤ (x -ℤ at *ℤ w)
back_x =
    by7 (λ at o c s x z w. (at ⊗ (w ⊗ o)) ⊗ o
    ⊕ (c ⊗ (((at ⊗ w) ⊗ o ⊕ (c ⊗ (x ⊖ at ⊗ w) ⊖ s ⊗ z)) ⊖ at ⊗ (w ⊗ o)) ⊖ less s ⊗ (s ⊗ (x ⊖ at ⊗ w) ⊕ c ⊗ z))
    ⊜ (at ⊗ w) ⊗ (o ⊗ o) ⊕ (c ⊗ c ⊕ s ⊗ s) ⊗ (x ⊖ at ⊗ w)) refl

whole_x : (at o x w q : ℤ) → (at *ℤ w) *ℤ q +ℤ q *ℤ (x -ℤ at *ℤ w) ≡ q *ℤ x
whole_x = by5 (λ at o x w q. (at ⊗ w) ⊗ q ⊕ q ⊗ (x ⊖ at ⊗ w) ⊜ q ⊗ x) refl

back_z : (at o c s x z w : ℤ)
    → neg_ℤ s *ℤ (((at *ℤ w) *ℤ o +ℤ (c *ℤ (x -ℤ at *ℤ w) -ℤ s *ℤ z)) -ℤ at *ℤ (w *ℤ o))
    +ℤ c *ℤ (s *ℤ (x -ℤ at *ℤ w) +ℤ c *ℤ z) ≡ (c *ℤ c +ℤ s *ℤ s) *ℤ z
back_z =
    by7 (λ at o c s x z w. less s ⊗ (((at ⊗ w) ⊗ o ⊕ (c ⊗ (x ⊖ at ⊗ w) ⊖ s ⊗ z)) ⊖ at ⊗ (w ⊗ o))
    ⊕ c ⊗ (s ⊗ (x ⊖ at ⊗ w) ⊕ c ⊗ z) ⊜ (c ⊗ c ⊕ s ⊗ s) ⊗ z) refl

twice_over : (y o : ℤ) → (y *ℤ o) *ℤ o ≡ (o *ℤ o) *ℤ y
twice_over = by2 (λ y o. (y ⊗ o) ⊗ o ⊜ (o ⊗ o) ⊗ y) refl

once : (a b : ℤ) → a ≡ b → pos 1 *ℤ a ≡ b
once a b h = omega (arith, ints, h)

about_back : (at : ℤ) (g : Angle) (p : Position) → IsOnCircle g → 0 < g.over
    → AreAlike (turned_about at (mirrored g) (turned_about at g p)) p
unfolding turned_about
about_back at g p on some =
    let o = pos g.over in
    let o0 : pos 0 <ℤ o = omega (arith, ints, some) in
    record {
      k = pos 1;
      l = o *ℤ o;
      some_k = omega (arith, ints);
      some_l = positive_product o o o0 o0;
      x = once _ _ (back_x at o g.cos g.sin p.x p.z p.w
          ∙ ap (λ q. (at *ℤ p.w) *ℤ (o *ℤ o) +ℤ q *ℤ (p.x -ℤ at *ℤ p.w)) on ∙ whole_x at o p.x p.w (o *ℤ o));
      y = once _ _ (twice_over p.y o);
      z = once _ _ (back_z at o g.cos g.sin p.x p.z p.w ∙ ap (λ q. q *ℤ p.z) on);
      w = once _ _ (twice_over p.w o);
    }

exchanged_alike : (p q : Position) → AreAlike p q → AreAlike (exchanged p) (exchanged q)
exchanged_alike p q h = record {
  k = h.k;
  l = h.l;
  some_k = h.some_k;
  some_l = h.some_l;
  x = h.y;
  y = h.x;
  z = h.z;
  w = h.w;
}

by_back : (t : Turn) (g : Angle) (p : Position) → IsOnCircle g → 0 < g.over
    → AreAlike (turned_by (turned_back t) g (turned_by t g p)) p
unfolding turned_by
by_back t g p on some = at t.upright
  where
    about : (q : Position)
        → AreAlike (turned_about t.at (with_side (neg_ℤ t.sign) g) (turned_about t.at (with_side t.sign g) q))
        q
    about q = subst (λ a. AreAlike (turned_about t.at a (turned_about t.at (with_side t.sign g) q)) q)
        (sym (side_back t.sign g))
        (about_back t.at (with_side t.sign g) q (side_on_circle t.sign g t.signed on) some)

    at : (u : Bool) → AreAlike
        (cond u
        (turned_about t.at (with_side (neg_ℤ t.sign) g)
        (cond u (turned_about t.at (with_side t.sign g) p)
        (exchanged (turned_about t.at (with_side t.sign g) (exchanged p)))))
        (exchanged
        (turned_about t.at (with_side (neg_ℤ t.sign) g)
        (exchanged
        (cond u (turned_about t.at (with_side t.sign g) p)
        (exchanged (turned_about t.at (with_side t.sign g) (exchanged p))))))))
        p
    at true = about p
    at false = exchanged_alike _ (exchanged p) (about (exchanged p))

-- turns one after the other
pub placed_append : (folds : ℕ → Fold) (ts us : List Turn) (p : Position) → placed folds (ts ++ us) p
    ≡ placed folds us (placed folds ts p)
unfolding turned_through
placed_append folds [] us p = refl
placed_append folds (t ∷ ts) us p =
    placed_append folds ts us (turned_by t (angle_of (fold_of folds t.place)) p)

placed_first : (folds : ℕ → Fold) (t : Turn) (ts : List Turn) (p : Position) → placed folds (t ∷ ts) p
    ≡ placed folds ts (turned_by t (angle_of (fold_of folds t.place)) p)
unfolding turned_through
placed_first folds t ts p = refl

placed_one : (folds : ℕ → Fold) (t : Turn) (p : Position) → placed folds (turned_back t ∷ []) p
    ≡ turned_by (turned_back t) (angle_of (fold_of folds t.place)) p
unfolding turned_through
placed_one folds t p = refl

-- the same turns back, the last one first
abbrev pub back : List Turn → List Turn
back ts = reverse (map turned_back ts)

back_first : (t : Turn) (ts : List Turn) → back (t ∷ ts) ≡ back ts ++ turned_back t ∷ []
back_first t ts = reverse-append (turned_back t ∷ []) (map turned_back ts)

pub returned : (folds : ℕ → Fold) (ts : List Turn) (p : Position) → HaveDens folds
    → AreAlike (placed folds (back ts) (placed folds ts p)) p
unfolding turned_through
returned folds [] p h = alike_self p
returned folds (t ∷ ts) p h =
    let g = angle_of (fold_of folds t.place) in
    let q = turned_by t g p in
    let last = turned_back t ∷ [] in
    let e : placed folds (back (t ∷ ts)) (placed folds (t ∷ ts) p)
    ≡ placed folds last (placed folds (back ts) (placed folds ts q)) =
    ap (λ us. placed folds us (placed folds ts q)) (back_first t ts)
    ∙ placed_append folds (back ts) last (placed folds ts q) in
    let inner = alike_placed folds last _ q (returned folds ts q h) in
    let here : AreAlike (placed folds last q) p = by_back t g p (on_circle (fold_of folds t.place))
    (some_over_of folds t.place h) in
    subst (λ z. AreAlike z p) (sym e) (alike_on _ (placed folds last q) p inner here)
