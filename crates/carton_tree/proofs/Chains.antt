-- Chains of joints: one after another, turned round, and with one joint more.
use Rattle.std.proofs.Common.{◌≡◌, ℕ, zero, suc, ◌+◌, ◌<◌, ◌≤◌, ◌⊎◌, inl, inr, refl, sym, subst, arith}
use Rattle.std.proofs.lemmas.Bool.{cases_lt}
use Rattle.carton_tree.specs.Chains.{IsChain, AreJoined}
use Rattle.carton_tree.specs.Steps.{AreThose}

-- what holds of two panels both ways holds of two that are those
pub at_those : (P : ℕ → ℕ → Type 0) (p q f g : ℕ) → AreThose p q f g → P f g → P g f → P p q
at_those P p q f g (inl e) h k = subst (λ x. P x q) (sym e.0) (subst (P f) (sym e.1) h)
at_those P p q f g (inr e) h k = subst (λ x. P x q) (sym e.0) (subst (P g) (sym e.1) k)

module _ (J : ℕ → ℕ → ℕ → Type 0) (k : ℕ) where
  -- a chain, and then more joints
  joined_on : (n f g h : ℕ) → IsChain J k n f g → AreJoined J k g h → AreJoined J k f h
  joined_on zero f g h e j = subst (λ x. AreJoined J k x h) (sym e) j
  joined_on (suc n) f g h c j = let r = joined_on n c.1 g h c.4 j in (suc r.0, (c.0, c.1, c.2, c.3, r.1))

  pub joined_then : (f g h : ℕ) → AreJoined J k f g → AreJoined J k g h → AreJoined J k f h
  joined_then f g h a b = joined_on a.0 f g h a.1 b

  pub joined_self : (f : ℕ) → AreJoined J k f f
  joined_self f = (zero, refl)

  pub joined_by : (j f g : ℕ) → j < k → J j f g → AreJoined J k f g
  joined_by j f g lt h = (suc zero, (j, g, lt, h, refl))

  -- a chain read from its other end
  module _ (back : (j f g : ℕ) → J j f g → J j g f) where
    turned_on : (n f g : ℕ) → IsChain J k n f g → AreJoined J k g f
    turned_on zero f g e = (zero, sym e)
    turned_on (suc n) f g c =
        joined_then g c.1 f (turned_on n c.1 g c.4) (joined_by c.0 c.1 f c.2 (back c.0 f c.1 c.3))

    pub joined_back : (f g : ℕ) → AreJoined J k f g → AreJoined J k g f
    joined_back f g a = turned_on a.0 f g a.1

-- each joint of the one kind is one of the other
abbrev pub Maps : (ℕ → ℕ → ℕ → Type 0) → (ℕ → ℕ → ℕ → Type 0) → ℕ → ℕ → Type 0
Maps J K k l = (j f g : ℕ) → j < k → J j f g → (i : ℕ) × (i < l) × K i f g

-- a chain in other words
module _ (J K : ℕ → ℕ → ℕ → Type 0) (k l : ℕ) (as' : Maps J K k l) where
  pub chain_map : (n f g : ℕ) → IsChain J k n f g → IsChain K l n f g
  chain_map zero f g e = e
  chain_map (suc n) f g c = let m = as' c.0 f c.1 c.2 c.3 in (m.0, c.1, m.1, m.2, chain_map n c.1 g c.4)

  pub joined_map : (f g : ℕ) → AreJoined J k f g → AreJoined K l f g
  joined_map f g a = (a.0, chain_map a.0 f g a.1)

pub joined_more : (J : ℕ → ℕ → ℕ → Type 0) (k l f g : ℕ) → k ≤ l → AreJoined J k f g → AreJoined J l f g
joined_more J k l f g le a = joined_map J J k l (λ j f g lt h. (j, omega arith, h)) f g a

-- joints below k lead from f to a, and from b to g
abbrev pub Through : (ℕ → ℕ → ℕ → Type 0) → ℕ → ℕ → ℕ → ℕ → ℕ → Type 0
Through J k a b f g = AreJoined J k f a × AreJoined J k b g

abbrev pub IsSplit : (ℕ → ℕ → ℕ → Type 0) → ℕ → ℕ → ℕ → ℕ → ℕ → Type 0
IsSplit J k a b f g = AreJoined J k f g ⊎ (Through J k a b f g ⊎ Through J k b a f g)

-- the joint at k joins a and b alone
abbrev pub JoinsOnly : (ℕ → ℕ → ℕ → Type 0) → ℕ → ℕ → ℕ → Type 0
JoinsOnly J k a b = (f g : ℕ) → J k f g → AreThose f g a b

module _ (J : ℕ → ℕ → ℕ → Type 0) (k a b : ℕ) where
  -- one joint of a smaller number before a split chain
  before : (f h g : ℕ) → AreJoined J k f h → IsSplit J k a b h g → IsSplit J k a b f g
  before f h g p (inl j) = inl (joined_then J k f h g p j)
  before f h g p (inr (inl t)) = inr (inl (joined_then J k f h a p t.0, t.1))
  before f h g p (inr (inr t)) = inr (inr (joined_then J k f h b p t.0, t.1))

  -- and the joint at k itself, from a to b
  across_to : (g : ℕ) → IsSplit J k a b b g → IsSplit J k a b a g
  across_to g (inl j) = inr (inl (joined_self J k a, j))
  across_to g (inr (inl t)) = inr (inl (joined_self J k a, t.1))
  across_to g (inr (inr t)) = inl t.1

  across_from : (g : ℕ) → IsSplit J k a b a g → IsSplit J k a b b g
  across_from g (inl j) = inr (inr (joined_self J k b, j))
  across_from g (inr (inl t)) = inl t.1
  across_from g (inr (inr t)) = inr (inr (joined_self J k b, t.1))

  module _ (only : JoinsOnly J k a b) where
    split_on : (n f g : ℕ) → IsChain J (k + 1) n f g → IsSplit J k a b f g
    split_on zero f g e = inl (zero, e)
    split_on (suc n) f g c =
        let rest = split_on n c.1 g c.4 in
        elim (cases_lt c.0 k) [
          | inl lt ↦ before f c.1 g (joined_by J k c.0 f c.1 lt c.3) rest
          | inr ge ↦
              let at : c.0 ≡ k = omega (arith, c.2) in
              at_those (λ x y. IsSplit J k a b y g → IsSplit J k a b x g) f c.1 a b
              (only f c.1 (subst (λ j. J j f c.1) at c.3)) (across_to g) (across_from g) rest
        ]

    -- with one joint more, two panels are joined as before, or through it
    pub split : (f g : ℕ) → AreJoined J (k + 1) f g → IsSplit J k a b f g
    split f g a' = split_on a'.0 f g a'.1

  pub joined_through : (f g : ℕ) → J k a b → Through J k a b f g → AreJoined J (k + 1) f g
  joined_through f g h t =
      joined_then J (k + 1) f a g (joined_more J k (k + 1) f a (omega arith) t.0)
      (joined_then J (k + 1) a b g (joined_by J (k + 1) k a b (omega arith) h)
      (joined_more J k (k + 1) b g (omega arith) t.1))

-- the joints but for one
abbrev pub But : (ℕ → ℕ → ℕ → Type 0) → ℕ → ℕ → ℕ → ℕ → Type 0
But J i j f g = J j f g × ¬ (j ≡ i)

-- of the first n joints, each joins its two panels alone, and none joins two that those before it join
pub record AreLoopless (J : ℕ → ℕ → ℕ → Type 0) (n : ℕ) (a b : ℕ → ℕ) : Type 0 where
  pub has : (k : ℕ) → k < n → J k (a k) (b k)
  pub only : (k : ℕ) → JoinsOnly J k (a k) (b k)
  pub back : (k f g : ℕ) → J k f g → J k g f
  pub still_open : (k f g : ℕ) → k < n → J k f g → ¬ (AreJoined J k f g)

module _ (J : ℕ → ℕ → ℕ → Type 0) (n : ℕ) (a b : ℕ → ℕ) (are : AreLoopless J n a b) (i f g : ℕ)
    (h : J i f g) where
  without : (m x y : ℕ) → AreJoined (But J i) m x y → AreJoined J m x y
  without m x y w = joined_map (But J i) J m m (λ j p q lt k. (j, lt, k.0)) x y w

  -- a way round joint i, through the joint at m, closes a loop there
  round : (m x y : ℕ) → i < m → Through (But J i) m x y f g → AreJoined J m x y
  round m x y lt t =
      joined_then J m x f y (joined_back J m are.back f x (without m f x t.0))
      (joined_then J m f g y (joined_by J m i f g lt h) (joined_back J m are.back y g (without m y g t.1)))

  -- where no joint closes a loop, no other joints join the two panels of one
  pub no_way_round : (m : ℕ) → m ≤ n → i < m → ¬ (AreJoined (But J i) m f g)
  no_way_round zero le lt w = absurd (omega (arith, lt))
  no_way_round (suc m) le lt w =
      let step : suc m ≡ m + 1 = omega arith in
      let closed : ¬ (AreJoined J m (a m) (b m)) =
      are.still_open m (a m) (b m) (omega arith) (are.has m (omega arith)) in
      elim (cases_lt i m) [
        | inl less ↦ elim (split (But J i) m (a m) (b m) (λ x y k. are.only m x y k.0) f g
            (subst (λ k. AreJoined (But J i) k f g) step w)) [
              | inl j ↦ no_way_round m (omega arith) less j
              | inr (inl t) ↦ closed (round m (a m) (b m) less t)
              | inr (inr t) ↦ closed (joined_back J m are.back (b m) (a m) (round m (b m) (a m) less t))
            ]
        | inr more ↦ are.still_open i f g (omega arith) h
            (joined_map (But J i) J (suc m) i (λ j x y l k. (j, omega (arith, l, k.1, lt, more), k.0)) f g w)
      ]
