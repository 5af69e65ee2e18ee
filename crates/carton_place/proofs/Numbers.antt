-- Sizes and spreads of a turn, as whole numbers: u is the units in one whole.
use Rattle.std.proofs.Common.{ℕ, ◌+◌, ◌*◌, ◌/◌, ◌^◌, ◌<◌, ◌≤◌, ◌≡◌, subst, pow_mono, arith}
use Rattle.std.proofs.lemmas.Nat.{mul-le}
use Rattle.std.proofs.Math.Nat.{lt-div-mul-add, div-mul-le_self, lt_of_mul-lt-mul_right}

-- what is at most a factor below one whole times r, and two units, is at most r and two
pub turned_size : (t m r : ℕ) → m ≤ 2 ^ 40 → t * 2 ^ 40 ≤ m * r + 2 * 2 ^ 40 → t ≤ r + 2
turned_size t m r h p = omega (arith, mul-le m r (2 ^ 40) r h (omega arith), p)

-- the spread t of a turned pair, by the greatest factor c and the greatest spread k of the factors
pub turned_spread : (t c k f r g e s : ℕ) → c ≤ 2 ^ 40 → k ≤ e → f ≤ 2 * g → r ≤ s
    → t * 2 ^ 40 ≤ c * f + k * r + 4 * 2 ^ 40 → t * 2 ^ 40 ≤ 2 * (g * 2 ^ 40) + e * s + 4 * 2 ^ 40
turned_spread t c k f r g e s hc hk hf hr p =
    omega (arith, mul-le c f (2 ^ 40) (2 * g) hc hf, mul-le k r e s hk hr, p)

-- the same bound on a spread, of measures that are equal
pub same_spread : (r g h s t e : ℕ) → g ≡ h → s ≡ t
    → r * 2 ^ 40 ≤ 2 * (g * 2 ^ 40) + e * (2 * s + 8191 * 2 ^ 40) + 4 * 2 ^ 40
    → r * 2 ^ 40 ≤ 2 * (h * 2 ^ 40) + e * (2 * t + 8191 * 2 ^ 40) + 4 * 2 ^ 40
same_spread r g h s t e p q k =
    subst (λ v. r * 2 ^ 40 ≤ 2 * (h * 2 ^ 40) + e * (2 * v + 8191 * 2 ^ 40) + 4 * 2 ^ 40) q
    (subst (λ v. r * 2 ^ 40 ≤ 2 * (v * 2 ^ 40) + e * (2 * s + 8191 * 2 ^ 40) + 4 * 2 ^ 40) p k)

-- at most eight turns
pub few_doublings : (k : ℕ) → k ≤ 8 → 2 ^ k ≤ 2 ^ 8
few_doublings k h = pow_mono h

pub room_at_start : (k s : ℕ) → k ≤ 8 → s ≤ 8191 * 2 ^ 40 → 2 ^ k * (s + (2 * (8191 * 2 ^ 40) + 2))
    ≤ 3 * 2 ^ 61
room_at_start k s h p =
    omega (
      arith,
      mul-le (2 ^ k) (s + (2 * (8191 * 2 ^ 40) + 2)) (2 ^ 8) (3 * (8191 * 2 ^ 40) + 2)
          (few_doublings k h) (omega (arith, p)),
    )

pub size_at_end : (k s t : ℕ) → k ≤ 8 → s ≤ 8191 * 2 ^ 40 → t + (2 * (8191 * 2 ^ 40) + 2)
    ≤ 2 ^ k * (s + (2 * (8191 * 2 ^ 40) + 2)) → t ≤ 2 ^ 63
size_at_end k s t h p q = omega (arith, q, room_at_start k s h p)

pub spread_at_end : (k s t e : ℕ) → k ≤ 8 → 2 ≤ e → s ≤ 1 → t + 4 ≤ 2 ^ k * (s + 4) + k * (3 * 2 ^ 21 * e)
    → t ≤ 2 ^ 27 * e
spread_at_end k s t e h two p q =
    omega (
      arith,
      q,
      two,
      mul-le (2 ^ k) (s + 4) (2 ^ 8) 5 (few_doublings k h) (omega (arith, p)),
      mul-le k
          (3 * 2 ^ 21 * e) 8 (3 * 2 ^ 21 * e) h (omega arith),
    )

-- what is at most a and two dens, in parts of den, is at most the quotient and two
pub within_quotient : (u a den : ℕ) → 0 < den → u * den ≤ a + 2 * den → u ≤ a / den + 2
within_quotient u a den p h =
    let q : a < a / den * den + den = lt-div-mul-add p in
    let l : u * den < (a / den + 3) * den = omega (arith, q, h) in
    omega (arith, lt_of_mul-lt-mul_right den l)

pub from_quotient : (t a den : ℕ) → t ≤ 2 ^ 27 * (a / den + 2) → t * den ≤ 2 ^ 27 * (2 * den + a)
from_quotient t a den h =
    let q : a / den * den ≤ a = div-mul-le_self a den in
    omega (arith, mul-le t den (2 ^ 27 * (a / den + 2)) den h (omega arith), q)
