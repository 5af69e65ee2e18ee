-- One turn more, before the turns that are left: sizes, spreads and what is held. p is two to the power of
-- the turns left.
use Rattle.std.proofs.Common.{◌≡◌, ℕ, suc, ◌+◌, ◌*◌, ◌^◌, ◌≤◌, List, [], ◌∷◌, length, arith, subst, sym, refl}
use Rattle.std.specs.Prelude.{All}
use Rattle.std.proofs.lemmas.Nat.{mul-le}
use Rattle.carton_model.specs.Parting.{Position}
use Rattle.carton_model.specs.Turning.{Angle, turned_by, turned_through}
use Rattle.carton_base.specs.declared.motion.Turn.{Turn}
use Rattle.carton_enclose.specs.Held.{Holding}
use Rattle.carton_enclose.specs.declared.space.Space.{Space}
use Rattle.carton_place.specs.declared.swings.Swing.{Swing}
use Rattle.carton_place.specs.Held.{HoldsPosition, HoldsSwing, HoldSwings}

-- what holds of all of a list holds of its first and of all others
pub all_first : {A : Type 0} (P : A → Type 0) (xs ys : List A) (x : A) → xs ≡ x ∷ ys → All P xs → P x
all_first P xs ys x e h = subst (All P) e h 0 x (omega arith)

pub all_rest : {A : Type 0} (P : A → Type 0) (xs ys : List A) (x : A) → xs ≡ x ∷ ys → All P xs → All P ys
all_rest P xs ys x e h = λ k d r. subst (All P) e h (suc k) d (omega (arith, r))

-- o is the overhang
pub room_left : (p q g h o r : ℕ) → q ≡ 2 * p → h ≤ 2 * g + o → q * (g + o) ≤ r → p * (h + o) ≤ r
room_left p q g h o r e k l =
    omega (
      arith,
      mul-le p (h + o) p (2 * g + 2 * o) (omega arith) (omega (arith, k)),
      subst (λ z. z * (g + o) ≤ r) e l,
    )

pub size_on : (p q g h s o : ℕ) → q ≡ 2 * p → h ≤ 2 * g + o → s ≤ p * (h + o) → s ≤ q * (g + o)
size_on p q g h s o e k l =
    subst (λ z. s ≤ z * (g + o)) (sym e)
    (omega (arith, l, mul-le p (h + o) p (2 * g + 2 * o) (omega arith) (omega (arith, k))))

-- from the spread a and the size g one turn makes the spread b, and those that are left the spread s
pub spread_on : (p q a b s g n k e : ℕ) → n + 1 ≡ k → q ≡ 2 * p
    → b * 2 ^ 40 ≤ 2 * (a * 2 ^ 40) + e * (2 * g + 8191 * 2 ^ 40) + 4 * 2 ^ 40
    → q * (g + (2 * (8191 * 2 ^ 40) + 2)) ≤ 3 * 2 ^ 61
    → s + 4 ≤ p * (b + 4) + n * (3 * 2 ^ 21 * e) → s + 4 ≤ q * (a + 4) + k * (3 * 2 ^ 21 * e)
spread_on p q a b s g n k e v w o l h =
    let room : p * (2 * g + 8191 * 2 ^ 40) ≤ 3 * 2 ^ 61 = let r =
    subst (λ z. z * (g + (2 * (8191 * 2 ^ 40) + 2)) ≤ 3 * 2 ^ 61) w l in omega (arith, r) in
    let over : e * (p * (2 * g + 8191 * 2 ^ 40)) ≤ e * (3 * 2 ^ 61) = mul-le e _ e _ (omega arith) room in
    let step : p * (b * 2 ^ 40) ≤ p * (2 * (a * 2 ^ 40) + e * (2 * g + 8191 * 2 ^ 40) + 4 * 2 ^ 40) =
    mul-le p _ p _ (omega arith) o in
    let last : p * (b + 4) ≤ 2 * p * (a + 4) + 3 * 2 ^ 21 * e = omega (arith, over, step) in
    subst (λ m. s + 4 ≤ q * (a + 4) + m * (3 * 2 ^ 21 * e)) v
    (subst (λ z. s + 4 ≤ z * (a + 4) + (n + 1) * (3 * 2 ^ 21 * e)) (sym w) (omega (arith, h, last)))

first_through : (t : Turn) (us : List Turn) (a : Angle) (bs : List Angle) (q : Position)
    → turned_through (t ∷ us) (a ∷ bs) q ≡ turned_through us bs (turned_by t a q)
unfolding turned_through
first_through t us a bs q = refl

-- a list of turns is its first turn and those after it
pub held_on : {E : Type 0} (holds : Holding E) (ts us : List Turn) (t : Turn) (rs ss : List Swing) (r : Swing)
    (next last : Space E) (n d : ℕ) (angles : List Angle) (q : Position)
    → ts ≡ t ∷ us → rs ≡ r ∷ ss → HoldSwings rs n d angles
    → ((a : Angle) → HoldsSwing r n d a → HoldsPosition holds next n d (turned_by t a q))
    → ((bs : List Angle) (s : Position) → HoldSwings ss n d bs → HoldsPosition holds next n d s
    → HoldsPosition holds last n d (turned_through us bs s))
    → HoldsPosition holds last n d (turned_through ts angles q)
held_on holds ts us t rs ss r next last n d [] q e f h one more =
    absurd (subst (λ l. HoldSwings l n d []) f h)
held_on holds ts us t rs ss r next last n d (a ∷ bs) q e f h one more =
    let k = subst (λ l. HoldSwings l n d (a ∷ bs)) f h in
    subst (λ l. HoldsPosition holds last n d (turned_through l (a ∷ bs) q)) (sym e)
    (subst (HoldsPosition holds last n d) (sym (first_through t us a bs q))
    (more bs (turned_by t a q) k.1 (one a k.0)))

pub none_left : {E : Type 0} (holds : Holding E) (ts : List Turn) (p : Space E) (n d : ℕ)
    (angles : List Angle) (q : Position) → length ts ≡ 0 → HoldsPosition holds p n d q
    → HoldsPosition holds p n d (turned_through ts angles q)
unfolding turned_through
none_left holds [] p n d angles q e h = h
none_left holds (t ∷ ts) p n d angles q e h = absurd (omega (arith, e))
