-- Each direction is one of the 13 axes or the negation of one, and each axis is a direction.
use Rattle.std.proofs.Common.{◌≡◌, ℕ, zero, suc, ◌<◌, [], ◌∷◌, refl, sym, ◌∙◌, subst, arith, ℤ, pos, negsuc}
use Rattle.std.proofs.Common.{neg_ℤ, ◌⊎◌, inl, inr}
use Rattle.std.proofs.lemmas.Int.{ints}
use Rattle.carton_base.specs.Directions.{IsSign, IsDirection}
use Rattle.carton_reach.specs.Axes.{axis_at}

pub data Sign : Type 0 where
  minus : Sign
  nought : Sign
  plus : Sign

abbrev pub value : Sign → ℤ
value minus = negsuc 0
value nought = pos 0
value plus = pos 1

pub is_sign : (s : Sign) → IsSign (value s)
is_sign minus = record { from = omega (arith, ints); upto = omega (arith, ints) }
is_sign nought = record { from = omega (arith, ints); upto = omega (arith, ints) }
is_sign plus = record { from = omega (arith, ints); upto = omega (arith, ints) }

pub sign_of : (z : ℤ) → IsSign z → (s : Sign) × (value s ≡ z)
sign_of (pos zero) h = (nought, refl)
sign_of (pos (suc zero)) h = (plus, refl)
sign_of (pos (suc (suc n))) h = absurd (omega (arith, ints, h.upto))
sign_of (negsuc zero) h = (minus, refl)
sign_of (negsuc (suc n)) h = absurd (omega (arith, ints, h.from))

-- the direction is one of the axes or the negation of one
abbrev pub Listed : ℤ → ℤ → ℤ → Type 0
Listed u v t =
    (a : ℕ) × (a < 13) × ((axis_at a ≡ u ∷ v ∷ t ∷ []) ⊎ (axis_at a ≡ neg_ℤ u ∷ neg_ℤ v ∷ neg_ℤ t ∷ []))

stands : (a b c : Sign) → ¬ ((value a ≡ pos 0) × (value b ≡ pos 0) × (value c ≡ pos 0))
    → Listed (value a) (value b) (value c)
stands minus minus minus n = (12, omega arith, inr refl)
stands minus minus nought n = (11, omega arith, inr refl)
stands minus minus plus n = (10, omega arith, inr refl)
stands minus nought minus n = (9, omega arith, inr refl)
stands minus nought nought n = (8, omega arith, inr refl)
stands minus nought plus n = (7, omega arith, inr refl)
stands minus plus minus n = (6, omega arith, inr refl)
stands minus plus nought n = (5, omega arith, inr refl)
stands minus plus plus n = (4, omega arith, inr refl)
stands nought minus minus n = (3, omega arith, inr refl)
stands nought minus nought n = (2, omega arith, inr refl)
stands nought minus plus n = (1, omega arith, inr refl)
stands nought nought minus n = (0, omega arith, inr refl)
stands nought nought nought n = absurd (n (refl, refl, refl))
stands nought nought plus n = (0, omega arith, inl refl)
stands nought plus minus n = (1, omega arith, inl refl)
stands nought plus nought n = (2, omega arith, inl refl)
stands nought plus plus n = (3, omega arith, inl refl)
stands plus minus minus n = (4, omega arith, inl refl)
stands plus minus nought n = (5, omega arith, inl refl)
stands plus minus plus n = (6, omega arith, inl refl)
stands plus nought minus n = (7, omega arith, inl refl)
stands plus nought nought n = (8, omega arith, inl refl)
stands plus nought plus n = (9, omega arith, inl refl)
stands plus plus minus n = (10, omega arith, inl refl)
stands plus plus nought n = (11, omega arith, inl refl)
stands plus plus plus n = (12, omega arith, inl refl)

pub listed : (u v t : ℤ) → IsDirection u v t → Listed u v t
listed u v t d =
    let a = sign_of u d.x in
    let b = sign_of v d.y in
    let c = sign_of t d.z in
    let s = stands a.0 b.0 c.0 (λ n. d.some (sym a.1 ∙ n.0, sym b.1 ∙ n.1, sym c.1 ∙ n.2)) in
    subst (λ z. Listed u v z) c.1
    (subst (λ y. Listed u y (value c.0)) b.1 (subst (λ x. Listed x (value b.0) (value c.0)) a.1 s))

-- an axis, its parts, and that both it and its negation are directions
pub record IsAxis (a : ℕ) : Type 0 where
  pub u : ℤ
  pub v : ℤ
  pub t : ℤ
  pub same : axis_at a ≡ u ∷ v ∷ t ∷ []
  pub forward : IsDirection u v t
  pub back : IsDirection (neg_ℤ u) (neg_ℤ v) (neg_ℤ t)

one : (a : ℕ) (x y z : Sign) → axis_at a ≡ value x ∷ value y ∷ value z ∷ []
    → ¬ ((value x ≡ pos 0) × (value y ≡ pos 0) × (value z ≡ pos 0)) → IsAxis a
one a x y z e n =
    let turned : (s : Sign) → IsSign (neg_ℤ (value s)) = λ s. let h = is_sign s in
    record { from = omega (arith, ints, h.upto, h.from); upto = omega (arith, ints, h.from, h.upto) } in
    let nought : (c : ℤ) → neg_ℤ c ≡ pos 0 → c ≡ pos 0 = λ c h. omega (arith, ints, h) in
    record {
      u = value x;
      v = value y;
      t = value z;
      same = e;
      forward = record { x = is_sign x; y = is_sign y; z = is_sign z; some = n };
      back = record {
        x = turned x;
        y = turned y;
        z = turned z;
        some = λ h. n (nought (value x) h.0, nought (value y) h.1, nought (value z) h.2);
      };
    }

up : ¬ (pos 1 ≡ pos 0)
up e = absurd (cc)

pub axis_is : (a : ℕ) → a < 13 → IsAxis a
axis_is zero h = one 0 nought nought plus refl (λ n. up n.2)
axis_is (suc zero) h = one 1 nought plus minus refl (λ n. up n.1)
axis_is (suc (suc zero)) h = one 2 nought plus nought refl (λ n. up n.1)
axis_is (suc (suc (suc zero))) h = one 3 nought plus plus refl (λ n. up n.1)
axis_is (suc (suc (suc (suc zero)))) h = one 4 plus minus minus refl (λ n. up n.0)
axis_is (suc (suc (suc (suc (suc zero))))) h = one 5 plus minus nought refl (λ n. up n.0)
axis_is (suc (suc (suc (suc (suc (suc zero)))))) h = one 6 plus minus plus refl (λ n. up n.0)
axis_is (suc (suc (suc (suc (suc (suc (suc zero))))))) h = one 7 plus nought minus refl (λ n. up n.0)
axis_is (suc (suc (suc (suc (suc (suc (suc (suc zero)))))))) h = one 8 plus nought nought refl (λ n. up n.0)
axis_is (suc (suc (suc (suc (suc (suc (suc (suc (suc zero))))))))) h =
    one 9 plus nought plus refl (λ n. up n.0)
axis_is (suc (suc (suc (suc (suc (suc (suc (suc (suc (suc zero)))))))))) h =
    one 10 plus plus minus refl (λ n. up n.0)
axis_is (suc (suc (suc (suc (suc (suc (suc (suc (suc (suc (suc zero))))))))))) h =
    one 11 plus plus nought refl (λ n. up n.0)
axis_is (suc (suc (suc (suc (suc (suc (suc (suc (suc (suc (suc (suc zero)))))))))))) h =
    one 12 plus plus plus refl (λ n. up n.0)
axis_is (suc (suc (suc (suc (suc (suc (suc (suc (suc (suc (suc (suc (suc n))))))))))))) h =
    absurd (omega (arith, h))
