-- How far bodies shift over pieces of a move.
use Rattle.std.proofs.Common.{◌≡◌, ◌∙◌, sym, ap, subst, ℕ, ◌+◌, ◌-◌, ◌*◌, ◌≤◌, ◌^◌, ℤ, pos, ◌+ℤ◌, ◌*ℤ◌, ◌≤ℤ◌}
use Rattle.std.proofs.Common.{unsigned_abs, arith}
use Rattle.std.specs.Int.{int_min, int_max}
use Rattle.std.proofs.lemmas.Int.{ints, clamps}
use Rattle.std.proofs.lemmas.Nat.{pow-add}
use Rattle.carton_base.specs.Moments.{InPiece}
use Rattle.carton_base.specs.Rounding.{IsBetween, unit}
use Rattle.carton_base.specs.declared.numbers.Bounds.{Bounds}
use Rattle.carton_bodies.specs.Shifts.{IsShift}
use Rattle.carton_bodies.proofs.Numbers.{shift_at, from_ends, upto_ends}

-- how far such a body goes in a piece of this depth, and before the piece
abbrev pub more_of : ℤ → ℕ → ℤ
more_of rate depth = rate *ℤ pos (2 ^ (40 - depth))

abbrev pub begin_of : ℤ → ℕ → ℕ → ℕ → ℤ
begin_of rate i index depth = more_of rate depth *ℤ pos (i * 2 ^ depth + index)

-- (i * d + n) * 2^40 is that many pieces of the depth, each d wide, and the part m of one
parts : (i d n index m p q : ℕ) → p * q ≡ 2 ^ 40 → n * p ≡ index * d + m → (i * d + n) * 2 ^ 40
    ≡ q * ((i * p + index) * d + m)
parts i d n index m p q e f =
    let a : (i * d + n) * (p * q) ≡ (i * d + n) * 2 ^ 40 = ap (λ z. (i * d + n) * z) e in
    let b : (n * p) * q ≡ (index * d + m) * q = ap (λ z. z * q) f in
    omega (arith, a, b)

whole_parts : (depth : ℕ) → depth ≤ 36 → 2 ^ depth * 2 ^ (40 - depth) ≡ 2 ^ 40
whole_parts depth h = let e : depth + (40 - depth) ≡ 40 = omega (arith, h) in
    sym (pow-add 2 depth (40 - depth)) ∙ ap (λ x. 2 ^ x) e

shift_within : (rate : ℤ) (i index depth n d : ℕ) (b : Bounds) → depth ≤ 36 → InPiece index depth n d
    → b.lo ≡ int_min (begin_of rate i index depth) (begin_of rate i index depth +ℤ more_of rate depth)
    → b.hi ≡ int_max (begin_of rate i index depth) (begin_of rate i index depth +ℤ more_of rate depth)
    → IsBetween b.lo b.hi (rate *ℤ pos (i * d + n)) d
shift_within rate i index depth n d b shallow ip low high =
    let m = n * 2 ^ depth - index * d in
    let f : n * 2 ^ depth ≡ index * d + m = omega (arith, ip.from) in
    let e : pos (i * d + n) *ℤ unit
    ≡ pos (2 ^ (40 - depth)) *ℤ (pos (i * 2 ^ depth + index) *ℤ pos d +ℤ pos m) =
    ap pos (parts i d n index m (2 ^ depth) (2 ^ (40 - depth)) (whole_parts depth shallow) f) in
    let at = shift_at rate (pos (2 ^ (40 - depth))) (pos (i * 2 ^ depth + index)) (pos m) (pos d)
    (pos (i * d + n)) unit e in
    let none : pos 0 ≤ℤ pos m = omega (arith, ints) in
    let all : pos m ≤ℤ pos d = omega (arith, ints, ip.upto, f) in
    record {
      from = subst (λ z. (z *ℤ pos d) ≤ℤ ((rate *ℤ pos (i * d + n)) *ℤ unit)) (sym low)
          (subst (λ z. (int_min (begin_of rate i index depth) (begin_of rate i index depth
          +ℤ more_of rate depth) *ℤ pos d) ≤ℤ z) (sym at)
          (from_ends (begin_of rate i index depth) (more_of rate depth) (pos m) (pos d) none all));
      upto = subst (λ z. ((rate *ℤ pos (i * d + n)) *ℤ unit) ≤ℤ (z *ℤ pos d)) (sym high)
          (subst (λ z. z
          ≤ℤ (int_max (begin_of rate i index depth) (begin_of rate i index depth +ℤ more_of rate depth)
          *ℤ pos d)) (sym at) (upto_ends (begin_of rate i index depth) (more_of rate depth) (pos m) (pos d)
          none all));
    }

-- at depth 36 the body goes no more than 2^30 units
short : (rate : ℤ) (depth : ℕ) → unsigned_abs rate ≤ 2 ^ 26 → depth ≡ 36 → unsigned_abs (more_of rate depth)
    ≤ 2 ^ 30
short rate depth h e =
    let p : more_of rate depth ≡ rate *ℤ pos 16 = ap (λ k. rate *ℤ pos (2 ^ (40 - k))) e in
    omega (arith, ints, p, h)

pub shift_of : (rate : ℤ) (i index depth : ℕ) (b : Bounds) → depth ≤ 36 → unsigned_abs rate ≤ 2 ^ 26
    → b.lo ≡ int_min (begin_of rate i index depth) (begin_of rate i index depth +ℤ more_of rate depth)
    → b.hi ≡ int_max (begin_of rate i index depth) (begin_of rate i index depth +ℤ more_of rate depth)
    → IsShift rate i index depth b
shift_of rate i index depth b shallow small low high = record {
  within = λ n d m ip. shift_within rate i index depth n d b shallow ip low high;
  close = λ e. let s = short rate depth small e in omega (arith, ints, clamps, s, low, high);
}
