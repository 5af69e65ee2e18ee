-- The least of fractions whose numerators aren't negative, and small facts on products.
use Rattle.std.proofs.Common.{◌≡◌, suc, ℤ, pos, negsuc, ◌*ℤ◌, ◌≤ℤ◌, ◌<ℤ◌, ◌⊎◌, inl, inr, arith, refl, List}
use Rattle.std.proofs.Common.{[], ◌∷◌, All, Contains}
use Rattle.std.specs.Prelude.{slice_index_or}
use Rattle.std.proofs.lemmas.Int.{ints, by_lt_z}
use Rattle.std.proofs.lemmas.List.Elements.{All-nil, All-cons, All-tail, All-head, All-contains}
use Rattle.carton_base.proofs.Products.{mul_le_right, mul_comm_ℤ, le_cancel, mul_lt_right}
use Rattle.carton_base.proofs.Identities.{◌⊗◌, ◌⊜◌, by3}

pub Contains-next : {X : Type 0} (y x : X) (xs : List X) → Contains xs x → Contains (y ∷ xs) x
Contains-next y x xs c = (suc c.0, omega (arith, c.1), c.2)

pub Contains-first : {X : Type 0} (x : X) (xs : List X) → Contains (x ∷ xs) x
Contains-first x xs = (0, omega arith, refl)

-- what holds of each by two facts
pub All-both : {X : Type 0} (P Q R : X → Type 0) (f : (x : X) → P x → Q x → R x) (xs : List X) → All P xs
    → All Q xs → All R xs
All-both P Q R f xs p q = λ k d i. f (slice_index_or xs k d) (p k d i) (q k d i)

-- a positive factor on both sides can be taken away
pub cancel : (c a b : ℤ) → pos 0 <ℤ c → (c *ℤ a) ≤ℤ (c *ℤ b) → a ≤ℤ b
cancel (pos k) a b p h = le_cancel a b k (omega (arith, ints, p)) (omega (arith, ints, h))
cancel (negsuc k) a b p h = absurd (omega (arith, ints, p))

pub mul_le_left : (c a b : ℤ) → pos 0 ≤ℤ c → a ≤ℤ b → (c *ℤ a) ≤ℤ (c *ℤ b)
mul_le_left c a b p h = omega (arith, ints, mul_le_right a b c h p, mul_comm_ℤ c a, mul_comm_ℤ c b)

pub product_not_negative : (a b : ℤ) → pos 0 ≤ℤ a → pos 0 ≤ℤ b → pos 0 ≤ℤ (a *ℤ b)
product_not_negative a b p q = omega (arith, ints, mul_le_right (pos 0) a b p q)

pub product_positive : (a b : ℤ) → pos 0 <ℤ a → pos 0 <ℤ b → pos 0 <ℤ (a *ℤ b)
product_positive a (pos k) p q = omega (arith, ints, mul_lt_right (pos 0) a k (omega (arith, ints, q)) p)
product_positive a (negsuc k) p q = absurd (omega (arith, ints, q))

pub positive_factor : (c a : ℤ) → pos 0 <ℤ c → pos 0 ≤ℤ (c *ℤ a) → pos 0 ≤ℤ a
positive_factor c a p h = cancel c (pos 0) a p (omega (arith, ints, h))

pub at_most : (a b : ℤ) → a <ℤ b → a ≤ℤ b
at_most a b h = omega (arith, ints, h)

-- where a doesn't rise, its ratio isn't looked at
behind : (n s m t : ℤ) → n ≤ℤ pos 0 → pos 0 ≤ℤ s → pos 0 <ℤ m → pos 0 ≤ℤ t → (n *ℤ s) ≤ℤ (m *ℤ t)
behind n s m t a b c d =
    omega (arith, ints, mul_le_right n (pos 0) s a b, product_not_negative m t (at_most (pos 0) m c) d)

-- the ratio t/m is at most s/n, and r/l is at most t/m: then r/l is at most s/n
overtakes : (n s m t l r : ℤ) → pos 0 ≤ℤ s → pos 0 ≤ℤ r → pos 0 <ℤ m → pos 0 <ℤ l → (n *ℤ t) ≤ℤ (m *ℤ s)
    → (m *ℤ r) ≤ℤ (l *ℤ t) → (n *ℤ r) ≤ℤ (l *ℤ s)
overtakes n s m t l r hs hr hm hl a b = by_lt_z (pos 0) n
    (λ up. cancel m (n *ℤ r) (l *ℤ s) hm
    (chain (m *ℤ (n *ℤ r)) (n *ℤ (m *ℤ r)) (n *ℤ (l *ℤ t)) (l *ℤ (n *ℤ t)) (l *ℤ (m *ℤ s)) (m *ℤ (l *ℤ s))
    (swapped m n r) (mul_le_left n (m *ℤ r) (l *ℤ t) (at_most (pos 0) n up) b) (swapped n l t)
    (mul_le_left l (n *ℤ t) (m *ℤ s) (at_most (pos 0) l hl) a) (swapped l m s)))
    (λ down. behind n r l s down hr hl hs)
  where
    swapped : (a b c : ℤ) → a *ℤ (b *ℤ c) ≡ b *ℤ (a *ℤ c)
    swapped a b c = by3 (λ a b c. a ⊗ (b ⊗ c) ⊜ b ⊗ (a ⊗ c)) refl a b c

    chain : (a b c d e f : ℤ) → a ≡ b → b ≤ℤ c → c ≡ d → d ≤ℤ e → e ≡ f → a ≤ℤ f
    chain a b c d e f p q r s t = omega (arith, ints, p, q, r, s, t)

-- the member with the least ratio num/den, of those with den > 0
pub record Least {S : Type 0} (num den : S → ℤ) (ss : List S) : Type 0 where
  pub least : S
  pub at : Contains ss least
  pub rises : pos 0 <ℤ den least
  pub first : All (λ s. (den s *ℤ num least) ≤ℤ (den least *ℤ num s)) ss

pub least_ratio : {S : Type 0} (num den : S → ℤ) (ss : List S) → All (λ s. pos 0 ≤ℤ num s) ss
    → All (λ s. den s ≤ℤ pos 0) ss ⊎ Least num den ss
least_ratio {S} num den [] h = inl (All-nil _)
least_ratio {S} num den (s ∷ ss) h =
    let hs : pos 0 ≤ℤ num s = All-head (λ j. pos 0 ≤ℤ num j) s ss h in
    let rest : All (λ j. pos 0 ≤ℤ num j) ss = All-tail (λ j. pos 0 ≤ℤ num j) s ss h in
    elim (least_ratio num den ss rest) [
      | inl none ↦ by_lt_z (pos 0) (den s)
          (λ up. inr record {
            least = s;
            at = Contains-first s ss;
            rises = up;
            first = All-cons (λ j. (den j *ℤ num s) ≤ℤ (den s *ℤ num j)) s ss (itself (den s *ℤ num s))
                (All-both (λ j. den j ≤ℤ pos 0) (λ j. pos 0 ≤ℤ num j)
                (λ j. (den j *ℤ num s) ≤ℤ (den s *ℤ num j))
                (λ j n hj. behind (den j) (num s) (den s) (num j) n hs up hj) ss none rest);
          })
          (λ down. inl (All-cons (λ j. den j ≤ℤ pos 0) s ss down none))
      | inr l ↦ by_lt_z (den s *ℤ num l.least) (den l.least *ℤ num s)
          (λ less. inr record {
            least = l.least;
            at = Contains-next s l.least ss l.at;
            rises = l.rises;
            first = All-cons (λ j. (den j *ℤ num l.least) ≤ℤ (den l.least *ℤ num j)) s ss (at_most _ _ less)
                l.first;
          })
          (λ more. by_lt_z (pos 0) (den s)
          (λ up. inr record {
            least = s;
            at = Contains-first s ss;
            rises = up;
            first = All-cons (λ j. (den j *ℤ num s) ≤ℤ (den s *ℤ num j)) s ss (itself (den s *ℤ num s))
                (All-both (λ j. (den j *ℤ num l.least) ≤ℤ (den l.least *ℤ num j)) (λ j. pos 0 ≤ℤ num j)
                (λ j. (den j *ℤ num s) ≤ℤ (den s *ℤ num j))
                (λ j e hj. overtakes (den j) (num j) (den l.least) (num l.least) (den s) (num s) hj hs l.rises
                up e more) ss l.first rest);
          })
          (λ down. inr record {
            least = l.least;
            at = Contains-next s l.least ss l.at;
            rises = l.rises;
            first = All-cons (λ j. (den j *ℤ num l.least) ≤ℤ (den l.least *ℤ num j)) s ss
                (behind (den s) (num l.least) (den l.least) (num s) down
                (All-contains (λ j. pos 0 ≤ℤ num j) ss l.least rest l.at) l.rises hs) l.first;
          }))
    ]
  where
    itself : (a : ℤ) → a ≤ℤ a
    itself a = omega (arith, ints)
