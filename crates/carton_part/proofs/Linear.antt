-- Turns are linear: a sum of multiples of positions is turned into the same sum of what they are turned into.
use Rattle.std.proofs.Common.{◌≡◌, ◌∙◌, sym, ap, ℕ, List, [], ◌∷◌, Bool, true, false, cond, ℤ, pos, neg_ℤ}
use Rattle.std.proofs.Common.{◌+ℤ◌, ◌-ℤ◌, ◌*ℤ◌, arith, refl}
use Rattle.carton_base.proofs.Polynomials.{laid_out, sums}
use Rattle.carton_base.proofs.Identities.{less, ◌⊕◌, ◌⊖◌, ◌⊗◌, ◌⊜◌, by7}
use Rattle.carton_base.specs.declared.motion.Turn.{Turn}
use Rattle.carton_model.specs.HalfTurns.{Fold}
use Rattle.carton_model.specs.Parting.{Position}
use Rattle.carton_model.specs.Turning.{Angle, with_side, turned_about, turned_by, turned_through, exchanged}
use Rattle.carton_model.specs.Turning.{placed, angles_of}

-- k times the number p is the sum of l times a, m times b and n times c
abbrev pub IsSum : ℤ → ℤ → ℤ → ℤ → ℤ → ℤ → ℤ → ℤ → Type 0
IsSum k l m n p a b c = k *ℤ p ≡ l *ℤ a +ℤ m *ℤ b +ℤ n *ℤ c

-- so it is with each part of the positions
pub record AreSums (k l m n : ℤ) (p a b c : Position) : Type 0 where
  pub x : IsSum k l m n p.x a.x b.x c.x
  pub y : IsSum k l m n p.y a.y b.y c.y
  pub z : IsSum k l m n p.z a.z b.z c.z
  pub w : IsSum k l m n p.w a.w b.w c.w

-- u, v and t times three parts
abbrev pub Mixed : ℤ → ℤ → ℤ → ℤ → ℤ → ℤ → ℤ
Mixed u v t x y z = u *ℤ x +ℤ v *ℤ y +ℤ t *ℤ z

pub sum_mixed : (u v t k l m n x y z xa ya za xb yb zb xc yc zc : ℤ) → IsSum k l m n x xa xb xc
    → IsSum k l m n y ya yb yc → IsSum k l m n z za zb zc
    → IsSum k l m n (Mixed u v t x y z) (Mixed u v t xa ya za) (Mixed u v t xb yb zb) (Mixed u v t xc yc zc)
sum_mixed u v t k l m n x y z xa ya za xb yb zb xc yc zc ex ey ez =
    let a = simp laid_out at (ap (λ s. s *ℤ u) ex) in
    let b = simp laid_out at (ap (λ s. s *ℤ v) ey) in
    let c = simp laid_out at (ap (λ s. s *ℤ t) ez) in
    simp laid_out (omega (arith, sums, a, b, c))

pub sum_times : (u k l m n x xa xb xc : ℤ) → IsSum k l m n x xa xb xc
    → IsSum k l m n (x *ℤ u) (xa *ℤ u) (xb *ℤ u) (xc *ℤ u)
sum_times u k l m n x xa xb xc ex =
    let a = simp laid_out at (ap (λ s. s *ℤ u) ex) in
    simp laid_out (omega (arith, sums, a))

-- the x and the z part of a position that was turned about a line, from its x, z and w
mixed_x : (at o cos sin x z w : ℤ) → (at *ℤ w) *ℤ o +ℤ (cos *ℤ (x -ℤ at *ℤ w) -ℤ sin *ℤ z)
    ≡ Mixed cos (neg_ℤ sin) (at *ℤ o -ℤ cos *ℤ at) x z w
mixed_x =
    by7 (λ at o cos sin x z w. (at ⊗ w) ⊗ o ⊕ (cos ⊗ (x ⊖ at ⊗ w) ⊖ sin ⊗ z) ⊜ cos ⊗ x ⊕ less sin ⊗ z
    ⊕ (at ⊗ o ⊖ cos ⊗ at) ⊗ w) refl

mixed_z : (at o cos sin x z w : ℤ) → sin *ℤ (x -ℤ at *ℤ w) +ℤ cos *ℤ z
    ≡ Mixed sin cos (neg_ℤ (sin *ℤ at)) x z w
mixed_z = by7 (λ at o cos sin x z w. sin ⊗ (x ⊖ at ⊗ w) ⊕ cos ⊗ z ⊜ sin ⊗ x ⊕ cos ⊗ z ⊕ less (sin ⊗ at) ⊗ w)
    refl

-- equal numbers have the same sum
same_sum : (k l m n p a b c p' a' b' c' : ℤ) → p ≡ p' → a ≡ a' → b ≡ b' → c ≡ c' → IsSum k l m n p' a' b' c'
    → IsSum k l m n p a b c
same_sum k l m n p a b c p' a' b' c' ep ea eb ec h = ap (λ z. k *ℤ z) ep ∙ h
    ∙ sym (λ i. l *ℤ ea i +ℤ m *ℤ eb i +ℤ n *ℤ ec i)

sum_about : (at : ℤ) (g : Angle) (k l m n : ℤ) (p a b c : Position) → AreSums k l m n p a b c
    → AreSums k l m n (turned_about at g p) (turned_about at g a) (turned_about at g b) (turned_about at g c)
unfolding turned_about
sum_about at g k l m n p a b c h =
    let o = pos g.over in
    let ex = λ (q : Position). mixed_x at o g.cos g.sin q.x q.z q.w in
    let ez = λ (q : Position). mixed_z at o g.cos g.sin q.x q.z q.w in
    record {
      x = same_sum k l m n _ _ _ _ _ _ _ _ (ex p) (ex a) (ex b) (ex c)
          (sum_mixed g.cos (neg_ℤ g.sin) (at *ℤ o -ℤ g.cos *ℤ at) k l m n p.x p.z p.w a.x a.z a.w b.x b.z b.w
          c.x c.z c.w h.x h.z h.w);
      y = sum_times o k l m n p.y a.y b.y c.y h.y;
      z = same_sum k l m n _ _ _ _ _ _ _ _ (ez p) (ez a) (ez b) (ez c)
          (sum_mixed g.sin g.cos (neg_ℤ (g.sin *ℤ at)) k l m n p.x p.z p.w a.x a.z a.w b.x b.z b.w c.x c.z c.w
          h.x h.z h.w);
      w = sum_times o k l m n p.w a.w b.w c.w h.w;
    }

sum_exchanged : (k l m n : ℤ) (p a b c : Position) → AreSums k l m n p a b c
    → AreSums k l m n (exchanged p) (exchanged a) (exchanged b) (exchanged c)
sum_exchanged k l m n p a b c h = record { x = h.y; y = h.x; z = h.z; w = h.w }

-- what holds of a turn about an upright line and of one about a level line holds of each turn
pub by_line : (P : (Position → Position) → Type 0) (t : Turn) (g : Angle)
    → P (turned_about t.at (with_side t.sign g))
    → P (λ p. exchanged (turned_about t.at (with_side t.sign g) (exchanged p))) → P (turned_by t g)
unfolding turned_by
by_line P t g upright level = at t.upright
  where
    at : (u : Bool)
        → P (λ p. cond u (turned_about t.at (with_side t.sign g) p)
        (exchanged (turned_about t.at (with_side t.sign g) (exchanged p))))
    at true = upright
    at false = level

sum_by : (t : Turn) (g : Angle) (k l m n : ℤ) (p a b c : Position) → AreSums k l m n p a b c
    → AreSums k l m n (turned_by t g p) (turned_by t g a) (turned_by t g b) (turned_by t g c)
sum_by t g k l m n p a b c h =
    by_line (λ turned. AreSums k l m n (turned p) (turned a) (turned b) (turned c)) t g
    (sum_about t.at (with_side t.sign g) k l m n p a b c h)
    (sum_exchanged k l m n _ _ _ _
    (sum_about t.at (with_side t.sign g) k l m n _ _ _ _ (sum_exchanged k l m n p a b c h)))

sum_through : (ts : List Turn) (gs : List Angle) (k l m n : ℤ) (p a b c : Position) → AreSums k l m n p a b c
    → AreSums k l m n (turned_through ts gs p) (turned_through ts gs a) (turned_through ts gs
    b) (turned_through ts gs c)
unfolding turned_through
sum_through [] gs k l m n p a b c h = h
sum_through (t ∷ ts) [] k l m n p a b c h = h
sum_through (t ∷ ts) (g ∷ gs) k l m n p a b c h =
    sum_through ts gs k l m n _ _ _ _ (sum_by t g k l m n p a b c h)

pub sum_placed : (folds : ℕ → Fold) (ts : List Turn) (k l m n : ℤ) (p a b c : Position)
    → AreSums k l m n p a b c
    → AreSums k l m n (placed folds ts p) (placed folds ts a) (placed folds ts b) (placed folds ts c)
sum_placed folds ts k l m n p a b c h = sum_through ts (angles_of folds ts) k l m n p a b c h
