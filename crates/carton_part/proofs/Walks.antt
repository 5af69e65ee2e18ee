-- Walks over the pieces of a move.
use Rattle.std.proofs.Common.{◌≡◌, ℕ, ◌+◌, ◌-◌, ◌*◌, ◌^◌, ◌<◌, ◌≤◌, arith, ap, sym, ◌∙◌, inl, inr, pos}
use Rattle.std.proofs.lemmas.Nat.{pow-add}
use Rattle.std.proofs.lemmas.Bool.{cases_lt}
use Rattle.std.proofs.Math.Nat.{mul-le-mul_left}
use Rattle.std.proofs.Math.Pow.{pow_mono}
use Rattle.carton_base.specs.Moments.{IsMoment, InPiece}
use Rattle.carton_base.specs.declared.moments.Moment.{Moment}
use Rattle.carton_base.specs.declared.moments.Piece.{Piece}
use Rattle.carton_reach.specs.Reaches.{Within}
use Rattle.carton_part.specs.Answers.{IsHalvedMoment}
use Rattle.carton_part.specs.Walks.{AreSameMoments, Follows}
use Rattle.carton_part.specs.Parted.{AtEachMoment}

-- P at each moment of the move before the piece
abbrev pub Before : ℕ → ℕ → (ℕ → ℕ → Type 0) → Type 0
Before index depth P = (n d : ℕ) → IsMoment n d → n * 2 ^ depth < index * d → P n d

-- what is left of a walk: 37 for each smallest piece from the piece's start on, less its depth
abbrev pub left : ℕ → ℕ → ℕ
left index depth = 37 * (2 ^ 36 - index * 2 ^ (36 - depth)) + (36 - depth)

pub power_more : (k : ℕ) → 2 ^ (k + 1) ≡ 2 * 2 ^ k
power_more k = let e = pow-add 2 k 1 in omega (arith, e)

pub power_some : (k : ℕ) → 0 < 2 ^ k
power_some k = let p : 2 ^ 0 ≤ 2 ^ k = pow_mono {i = 0} {j = k} (omega arith) in omega (arith, p)

-- a positive factor on both sides can be taken away
pub lt_cancel : (a b c : ℕ) → a * c < b * c → a < b
lt_cancel a b c h =
    elim (cases_lt a b) [ inl l ↦ l | inr le ↦ absurd (omega (arith, h, mul-le-mul_left c le)) ]

pub eq_cancel : (a b c : ℕ) → 0 < c → a * c ≡ b * c → a ≡ b
eq_cancel a b c p h =
    let below : (x y : ℕ) → x * c ≡ y * c → ¬ (x < y) = λ x y e l. omega (arith, e, p, mul-le-mul_left c l) in
    elim (cases_lt a b) [
      | inl l ↦ absurd (below a b h l)
      | inr le ↦
          elim (cases_lt b a) [ inl l ↦ absurd (below b a (sym h) l) | inr ge ↦ omega (arith, le, ge) ]
    ]

pub before_whole : (index depth : ℕ) (P : ℕ → ℕ → Type 0) → index ≡ 0 → Before index depth P
before_whole index depth P e n d m h = absurd (let z = ap (λ i. i * d) e in omega (arith, h, z))

-- the first half of a piece starts where the piece does
pub before_half : (index depth i k : ℕ) (P : ℕ → ℕ → Type 0) → i ≡ 2 * index → k ≡ depth + 1
    → Before index depth P → Before i k P
before_half index depth i k P ei ek b n d m h =
    let a : i * d ≡ 2 * (index * d) = let e = ap (λ x. x * d) ei in omega (arith, e) in
    let c : n * 2 ^ k ≡ 2 * (n * 2 ^ depth) = let e = ap (λ x. n * 2 ^ x) ek
    ∙ ap (λ x. n * x) (power_more depth) in omega (arith, e) in
    b n d m (omega (arith, a, c, h))

-- a moment before the end of a piece is before the piece or in it
pub before_end : (index depth : ℕ) (P : ℕ → ℕ → Type 0) → Before index depth P → Within index depth P
    → (n d : ℕ) → IsMoment n d → n * 2 ^ depth ≤ (index + 1) * d → P n d
before_end index depth P b w n d m h = elim (cases_lt (n * 2 ^ depth) (index * d)) [
  | inl l ↦ b n d m l
  | inr le ↦ w n d m (record { from = le; upto = h })
]

pub before_next : (index depth i k : ℕ) (P : ℕ → ℕ → Type 0) → Follows index depth i k → Before index depth P
    → Within index depth P → Before i k P
before_next index depth i k P f b w n d m h =
    let a : n * 2 ^ k * 2 ^ depth < i * d * 2 ^ depth = let l = mul-le-mul_left (2 ^ depth) h in
    omega (arith, l, power_some depth) in
    let s : i * 2 ^ depth * d ≡ (index + 1) * 2 ^ k * d = ap (λ x. x * d) f.starts in
    let l : n * 2 ^ depth < (index + 1) * d =
    lt_cancel (n * 2 ^ depth) ((index + 1) * d) (2 ^ k) (omega (arith, a, s)) in
    before_end index depth P b w n d m (omega (arith, l))

pub at_each : (index depth : ℕ) (P : ℕ → ℕ → Type 0) → index + 1 ≡ 2 ^ depth → Before index depth P
    → Within index depth P → AtEachMoment P
at_each index depth P e b w n d m =
    let a : (index + 1) * d ≡ 2 ^ depth * d = ap (λ x. x * d) e in
    before_end index depth P b w n d m (let l = mul-le-mul_left (2 ^ depth) m.within in omega (arith, a, l))

-- the first moment of a piece
pub first_in : (index depth : ℕ) → InPiece index depth index (2 ^ depth)
first_in index depth = record { from = omega arith; upto = omega arith }

-- what holds throughout a piece holds at its first moment
pub at_first : (p : Piece) (m : Moment) (P : ℕ → ℕ → Type 0) → m.num ≡ pos p.index
    → m.den ≡ pos (2 ^ p.depth) → Within p.index p.depth P → IsHalvedMoment m P
at_first p m P num den all =
    let moment : IsMoment p.index (2 ^ p.depth) =
    record { within = omega (arith, p.within); some = power_some p.depth } in
    record {
      n = p.index;
      depth = p.depth;
      shallow = p.shallow;
      num = num;
      den = den;
      moment = moment;
      there = all p.index (2 ^ p.depth) moment (first_in p.index p.depth);
    }

-- where the same moments are good, a piece that was good throughout still is
pub within_same : (index depth : ℕ) (P Q : ℕ → ℕ → Type 0) → AreSameMoments P Q → Within index depth P
    → Within index depth Q
within_same index depth P Q same all n d m i = (same n d).0 (all n d m i)

pub same_all : (P : ℕ → ℕ → Type 0) → AreSameMoments P P
same_all P n d = ((λ h. h), (λ h. h))

pub same_then : (P Q R : ℕ → ℕ → Type 0) → AreSameMoments P Q → AreSameMoments Q R → AreSameMoments P R
same_then P Q R h k n d = ((λ p. (k n d).0 ((h n d).0 p)), (λ r. (h n d).1 ((k n d).1 r)))

pub left_half : (index depth i k : ℕ) → i ≡ 2 * index → k ≡ depth + 1 → depth < 36
    → left i k < left index depth
left_half index depth i k ei ek h =
    let e : 36 - depth ≡ (36 - k) + 1 = omega (arith, ek, h) in
    let p : 2 ^ (36 - depth) ≡ 2 * 2 ^ (36 - k) = ap (λ x. 2 ^ x) e ∙ power_more (36 - k) in
    let a : index * 2 ^ (36 - depth) ≡ 2 * (index * 2 ^ (36 - k)) = let q = ap (λ x. index * x) p in
    omega (arith, q) in
    let b : i * 2 ^ (36 - k) ≡ 2 * (index * 2 ^ (36 - k)) = let q = ap (λ x. x * 2 ^ (36 - k)) ei in
    omega (arith, q) in
    omega (arith, a, b, e)

smallest : (k : ℕ) → k ≤ 36 → 2 ^ (36 - k) * 2 ^ k ≡ 2 ^ 36
smallest k h = let e : (36 - k) + k ≡ 36 = omega (arith, h) in sym (pow-add 2 (36 - k) k) ∙ ap (λ x. 2 ^ x) e

pub left_next : (index depth i k : ℕ) → Follows index depth i k → depth ≤ 36 → index < 2 ^ depth
    → left i k < left index depth
left_next index depth i k f h within =
    let kh : k ≤ 36 = omega (arith, f.shallower, h) in
    let sd = smallest depth h in
    let sk = smallest k kh in
    let a : i * 2 ^ depth * 2 ^ (36 - depth) ≡ (index + 1) * 2 ^ k * 2 ^ (36 - depth) =
    ap (λ x. x * 2 ^ (36 - depth)) f.starts in
    let b : i * (2 ^ (36 - depth) * 2 ^ depth) ≡ i * (2 ^ (36 - k) * 2 ^ k) = ap (λ x. i * x) (sd ∙ sym sk) in
    let e : i * 2 ^ (36 - k) ≡ (index + 1) * 2 ^ (36 - depth) =
    eq_cancel (i * 2 ^ (36 - k)) ((index + 1) * 2 ^ (36 - depth)) (2 ^ k) (power_some k)
    (omega (arith, a, b)) in
    let p = power_some (36 - depth) in
    let q = power_some depth in
    let inside : (index + 1) * 2 ^ (36 - depth) ≤ 2 ^ 36 = let l =
    mul-le-mul_left (2 ^ (36 - depth)) within in omega (arith, l, sd) in
    omega (arith, e, p, inside)
