-- The places of a box that moves, by the bounds of their three parts, and how far they reach along a
-- direction.
use Rattle.std.proofs.Common.{◌≡◌, refl, sym, ap, subst, ℕ, ◌+◌, ◌*◌, List, [], ◌∷◌, ℤ, pos, negsuc, neg_ℤ}
use Rattle.std.proofs.Common.{◌+ℤ◌, ◌-ℤ◌, ◌*ℤ◌, ◌≤ℤ◌, ◌<ℤ◌, arith}
use Rattle.std.specs.Prelude.{All, slice_index_or}
use Rattle.std.specs.Int.{int_min, int_max}
use Rattle.std.proofs.lemmas.Int.{ints, clamps, by_lt_z}
use Rattle.std.proofs.lemmas.List.Elements.{All-nil, All-cons}
use Rattle.carton_base.proofs.Products.{Between, mul_le_right, mul_assoc_ℤ, corners_below}
use Rattle.carton_base.proofs.Polynomials.{laid_out, sums, nonneg_product}
use Rattle.carton_base.specs.declared.bodies.Cuboid.{Cuboid}
use Rattle.carton_model.specs.Parting.{Position, along}
use Rattle.carton_bodies.specs.Bodies.{IsInSide, stroke_along}
use Rattle.carton_bodies.specs.Boxes.{IsBox, faces, side}
use Rattle.carton_bodies.specs.Extents.{least_on, greatest_on}

-- a part of a place of the box, between two sides that shift at this speed, at the time t / d
pub record IsInside (low high speed d t w x : ℤ) : Type 0 where
  pub from : ((low *ℤ d +ℤ speed *ℤ t) *ℤ w) ≤ℤ (x *ℤ d)
  pub upto : (x *ℤ d) ≤ℤ ((high *ℤ d +ℤ speed *ℤ t) *ℤ w)

-- the parts of the stroke
abbrev pub part : List ℤ → ℕ → ℤ
part stroke k = slice_index_or stroke k (pos 0)

-- all three parts
pub record IsPlaceIn (b : Cuboid) (stroke : List ℤ) (d t : ℤ) (q : Position) : Type 0 where
  pub x : IsInside b.x0 b.x1 (part stroke 0) d t q.w q.x
  pub y : IsInside b.y0 b.y1 (part stroke 1) d t q.w q.y
  pub z : IsInside b.z0 b.z1 (part stroke 2) d t q.w q.z

first : (x y z : ℤ) → pos 1 *ℤ x +ℤ pos 0 *ℤ y +ℤ pos 0 *ℤ z ≡ x
first x y z = omega (arith, ints)

second : (x y z : ℤ) → pos 0 *ℤ x +ℤ pos 1 *ℤ y +ℤ pos 0 *ℤ z ≡ y
second x y z = omega (arith, ints)

third : (x y z : ℤ) → pos 0 *ℤ x +ℤ pos 0 *ℤ y +ℤ pos 1 *ℤ z ≡ z
third x y z = omega (arith, ints)

first_back : (x y z : ℤ) → negsuc 0 *ℤ x +ℤ pos 0 *ℤ y +ℤ pos 0 *ℤ z ≡ neg_ℤ x
first_back x y z = omega (arith, ints)

second_back : (x y z : ℤ) → pos 0 *ℤ x +ℤ negsuc 0 *ℤ y +ℤ pos 0 *ℤ z ≡ neg_ℤ y
second_back x y z = omega (arith, ints)

third_back : (x y z : ℤ) → pos 0 *ℤ x +ℤ pos 0 *ℤ y +ℤ negsuc 0 *ℤ z ≡ neg_ℤ z
third_back x y z = omega (arith, ints)

-- a is how far the place lies along a face's direction, s the stroke
upper : (a x s speed high d t w : ℤ) → a ≡ x → s ≡ speed → (a *ℤ d) ≤ℤ ((high *ℤ d +ℤ s *ℤ t) *ℤ w)
    → (x *ℤ d) ≤ℤ ((high *ℤ d +ℤ speed *ℤ t) *ℤ w)
upper a x s speed high d t w ea es h =
    subst (λ z. (x *ℤ d) ≤ℤ ((high *ℤ d +ℤ z *ℤ t) *ℤ w)) es
    (subst (λ z. (z *ℤ d) ≤ℤ ((high *ℤ d +ℤ s *ℤ t) *ℤ w)) ea h)

lower : (a x s speed low d t w : ℤ) → a ≡ neg_ℤ x → s ≡ neg_ℤ speed
    → (a *ℤ d) ≤ℤ ((neg_ℤ low *ℤ d +ℤ s *ℤ t) *ℤ w) → ((low *ℤ d +ℤ speed *ℤ t) *ℤ w) ≤ℤ (x *ℤ d)
lower a x s speed low d t w ea es h =
    let l = simp laid_out at (upper a (neg_ℤ x) s (neg_ℤ speed) (neg_ℤ low) d t w ea es h) in
    simp laid_out (omega (arith, sums, l))

-- and back
upper_back : (a x s speed high d t w : ℤ) → a ≡ x → s ≡ speed → (x *ℤ d) ≤ℤ ((high *ℤ d +ℤ speed *ℤ t) *ℤ w)
    → (a *ℤ d) ≤ℤ ((high *ℤ d +ℤ s *ℤ t) *ℤ w)
upper_back a x s speed high d t w ea es h = upper x a speed s high d t w (sym ea) (sym es) h

lower_back : (a x s speed low d t w : ℤ) → a ≡ neg_ℤ x → s ≡ neg_ℤ speed → ((low *ℤ d +ℤ speed *ℤ t) *ℤ w)
    ≤ℤ (x *ℤ d) → (a *ℤ d) ≤ℤ ((neg_ℤ low *ℤ d +ℤ s *ℤ t) *ℤ w)
lower_back a x s speed low d t w ea es h =
    let l = simp laid_out at h in
    upper_back a (neg_ℤ x) s (neg_ℤ speed) (neg_ℤ low) d t w ea es (simp laid_out (omega (arith, sums, l)))

pub from_faces : (b : Cuboid) (stroke : List ℤ) (i n d : ℕ) (q : Position)
    → All (IsInSide stroke i n d q) (faces b) → IsPlaceIn b stroke (pos d) (pos (i * d + n)) q
from_faces b stroke i n d q h =
    let sx = part stroke 0 in
    let sy = part stroke 1 in
    let sz = part stroke 2 in
    let none = side (pos 0) (pos 0) (pos 0) (pos 0) in
    record {
      x = record {
        from = lower _ q.x _ sx b.x0 (pos d) (pos (i * d + n)) q.w (first_back q.x q.y q.z)
            (first_back sx sy sz) (h 1 none (omega arith));
        upto = upper _ q.x _ sx b.x1 (pos d) (pos (i * d + n)) q.w (first q.x q.y q.z) (first sx sy sz)
            (h 0 none (omega arith));
      };
      y = record {
        from = lower _ q.y _ sy b.y0 (pos d) (pos (i * d + n)) q.w (second_back q.x q.y q.z)
            (second_back sx sy sz) (h 3 none (omega arith));
        upto = upper _ q.y _ sy b.y1 (pos d) (pos (i * d + n)) q.w (second q.x q.y q.z) (second sx sy sz)
            (h 2 none (omega arith));
      };
      z = record {
        from = lower _ q.z _ sz b.z0 (pos d) (pos (i * d + n)) q.w (third_back q.x q.y q.z)
            (third_back sx sy sz) (h 5 none (omega arith));
        upto = upper _ q.z _ sz b.z1 (pos d) (pos (i * d + n)) q.w (third q.x q.y q.z) (third sx sy sz)
            (h 4 none (omega arith));
      };
    }

all_six : {X : Type 0} (P : X → Type 0) (a b c d e f : X) → P a → P b → P c → P d → P e → P f
    → All P (a ∷ b ∷ c ∷ d ∷ e ∷ f ∷ [])
all_six P a b c d e f pa pb pc pd pe pf =
    All-cons P a (b ∷ c ∷ d ∷ e ∷ f ∷ []) pa
    (All-cons P b (c ∷ d ∷ e ∷ f ∷ []) pb
    (All-cons P c (d ∷ e ∷ f ∷ []) pc
    (All-cons P d (e ∷ f ∷ []) pd (All-cons P e (f ∷ []) pe (All-cons P f [] pf (All-nil P))))))

pub to_faces : (b : Cuboid) (stroke : List ℤ) (i n d : ℕ) (q : Position)
    → IsPlaceIn b stroke (pos d) (pos (i * d + n)) q → All (IsInSide stroke i n d q) (faces b)
to_faces b stroke i n d q h =
    let sx = part stroke 0 in
    let sy = part stroke 1 in
    let sz = part stroke 2 in
    all_six (IsInSide stroke i n d q) _ _ _ _ _ _
    (upper_back _ q.x _ sx b.x1 (pos d) (pos (i * d + n)) q.w (first q.x q.y q.z) (first sx sy sz) h.x.upto)
    (lower_back _ q.x _ sx b.x0 (pos d) (pos (i * d + n)) q.w (first_back q.x q.y q.z) (first_back sx sy sz)
    h.x.from)
    (upper_back _ q.y _ sy b.y1 (pos d) (pos (i * d + n)) q.w (second q.x q.y q.z) (second sx sy sz) h.y.upto)
    (lower_back _ q.y _ sy b.y0 (pos d) (pos (i * d + n)) q.w (second_back q.x q.y q.z) (second_back sx sy sz)
    h.y.from)
    (upper_back _ q.z _ sz b.z1 (pos d) (pos (i * d + n)) q.w (third q.x q.y q.z) (third sx sy sz) h.z.upto)
    (lower_back _ q.z _ sz b.z0 (pos d) (pos (i * d + n)) q.w (third_back q.x q.y q.z) (third_back sx sy sz)
    h.z.from)

-- what lies between two numbers, times u, lies between the least and the greatest of their products with u
least_part : (m u low high speed d t w x : ℤ) → pos 0 ≤ℤ (d *ℤ w) → m ≤ℤ (u *ℤ low) → m ≤ℤ (u *ℤ high)
    → IsInside low high speed d t w x → ((m *ℤ d +ℤ (u *ℤ speed) *ℤ t) *ℤ w) ≤ℤ ((u *ℤ x) *ℤ d)
least_part m u low high speed d t w x some ml mh h =
    let k = d *ℤ w in
    let y = x *ℤ d -ℤ (speed *ℤ t) *ℤ w in
    let from = simp laid_out at h.from in
    let upto = simp laid_out at h.upto in
    let a = mul_le_right m (u *ℤ low) k ml some in
    let b = mul_le_right m (u *ℤ high) k mh some in
    let within : Between (low *ℤ k) (high *ℤ k) y = record {
      from = simp laid_out (omega (arith, sums, from));
      upto = simp laid_out (omega (arith, sums, upto));
    } in
    let al : (m *ℤ k) ≤ℤ (u *ℤ (low *ℤ k)) = subst (λ z. (m *ℤ k) ≤ℤ z) (mul_assoc_ℤ u low k) a in
    let bl : (m *ℤ k) ≤ℤ (u *ℤ (high *ℤ k)) = subst (λ z. (m *ℤ k) ≤ℤ z) (mul_assoc_ℤ u high k) b in
    let all = corners_below u u (low *ℤ k) (high *ℤ k) u y (m *ℤ k)
    (record { from = omega (arith, ints); upto = omega (arith, ints) }) within al bl al bl in
    let l = simp laid_out at all in
    simp laid_out (omega (arith, sums, l))

greatest_part : (m u low high speed d t w x : ℤ) → pos 0 ≤ℤ (d *ℤ w) → (u *ℤ low) ≤ℤ m → (u *ℤ high) ≤ℤ m
    → IsInside low high speed d t w x → ((u *ℤ x) *ℤ d) ≤ℤ ((m *ℤ d +ℤ (u *ℤ speed) *ℤ t) *ℤ w)
greatest_part m u low high speed d t w x some ml mh h =
    let a : neg_ℤ m ≤ℤ (neg_ℤ u *ℤ low) = simp laid_out (omega (arith, sums, ml)) in
    let b : neg_ℤ m ≤ℤ (neg_ℤ u *ℤ high) = simp laid_out (omega (arith, sums, mh)) in
    let l = simp laid_out at (least_part (neg_ℤ m) (neg_ℤ u) low high speed d t w x some a b h) in
    simp laid_out (omega (arith, sums, l))

three_below : (a b c d x y z t w e f g : ℤ) → ((a *ℤ d +ℤ x *ℤ t) *ℤ w) ≤ℤ (e *ℤ d)
    → ((b *ℤ d +ℤ y *ℤ t) *ℤ w) ≤ℤ (f *ℤ d) → ((c *ℤ d +ℤ z *ℤ t) *ℤ w) ≤ℤ (g *ℤ d)
    → (((a +ℤ b +ℤ c) *ℤ d +ℤ (x +ℤ y +ℤ z) *ℤ t) *ℤ w) ≤ℤ ((e +ℤ f +ℤ g) *ℤ d)
three_below a b c d x y z t w e f g h i j =
    let l = simp laid_out at h in
    let m = simp laid_out at i in
    let n = simp laid_out at j in
    simp laid_out (omega (arith, sums, l, m, n))

three_above : (a b c d x y z t w e f g : ℤ) → (e *ℤ d) ≤ℤ ((a *ℤ d +ℤ x *ℤ t) *ℤ w)
    → (f *ℤ d) ≤ℤ ((b *ℤ d +ℤ y *ℤ t) *ℤ w) → (g *ℤ d) ≤ℤ ((c *ℤ d +ℤ z *ℤ t) *ℤ w)
    → ((e +ℤ f +ℤ g) *ℤ d) ≤ℤ (((a +ℤ b +ℤ c) *ℤ d +ℤ (x +ℤ y +ℤ z) *ℤ t) *ℤ w)
three_above a b c d x y z t w e f g h i j =
    let l = simp laid_out at h in
    let m = simp laid_out at i in
    let n = simp laid_out at j in
    simp laid_out (omega (arith, sums, l, m, n))

pub min_left : (a b : ℤ) → int_min a b ≤ℤ a
min_left a b = omega (arith, ints, clamps)

pub min_right : (a b : ℤ) → int_min a b ≤ℤ b
min_right a b = omega (arith, ints, clamps)

pub max_left : (a b : ℤ) → a ≤ℤ int_max a b
max_left a b = omega (arith, ints, clamps)

pub max_right : (a b : ℤ) → b ≤ℤ int_max a b
max_right a b = omega (arith, ints, clamps)

-- no place of the box lies nearer along the direction than the least, nor farther than the greatest
pub least_below : (u v s : ℤ) (b : Cuboid) (stroke : List ℤ) (d t : ℤ) (q : Position) → pos 0 ≤ℤ d
    → pos 0 ≤ℤ q.w → IsPlaceIn b stroke d t q
    → ((least_on u v s b *ℤ d +ℤ stroke_along u v s stroke *ℤ t) *ℤ q.w) ≤ℤ (along u v s q *ℤ d)
least_below u v s b stroke d t q nd nw h =
    let some = nonneg_product d q.w nd nw in
    three_below _ _ _ d (u *ℤ part stroke 0) (v *ℤ part stroke 1) (s *ℤ part stroke 2) t q.w (u *ℤ q.x)
    (v *ℤ q.y) (s *ℤ q.z)
    (least_part _ u b.x0 b.x1 (part stroke 0) d t q.w q.x some (min_left _ _) (min_right _ _) h.x)
    (least_part _ v b.y0 b.y1 (part stroke 1) d t q.w q.y some (min_left _ _) (min_right _ _) h.y)
    (least_part _ s b.z0 b.z1 (part stroke 2) d t q.w q.z some (min_left _ _) (min_right _ _) h.z)

pub greatest_above : (u v s : ℤ) (b : Cuboid) (stroke : List ℤ) (d t : ℤ) (q : Position) → pos 0 ≤ℤ d
    → pos 0 ≤ℤ q.w → IsPlaceIn b stroke d t q
    → (along u v s q *ℤ d) ≤ℤ ((greatest_on u v s b *ℤ d +ℤ stroke_along u v s stroke *ℤ t) *ℤ q.w)
greatest_above u v s b stroke d t q nd nw h =
    let some = nonneg_product d q.w nd nw in
    three_above _ _ _ d (u *ℤ part stroke 0) (v *ℤ part stroke 1) (s *ℤ part stroke 2) t q.w (u *ℤ q.x)
    (v *ℤ q.y) (s *ℤ q.z)
    (greatest_part _ u b.x0 b.x1 (part stroke 0) d t q.w q.x some (max_left _ _) (max_right _ _) h.x)
    (greatest_part _ v b.y0 b.y1 (part stroke 1) d t q.w q.y some (max_left _ _) (max_right _ _) h.y)
    (greatest_part _ s b.z0 b.z1 (part stroke 2) d t q.w q.z some (max_left _ _) (max_right _ _) h.z)

-- a number from low to high whose product with u is this one
record IsReached (u low high m : ℤ) : Type 0 where
  at : ℤ
  from : low ≤ℤ at
  upto : at ≤ℤ high
  is : u *ℤ at ≡ m

least_reached : (u low high : ℤ) → low ≤ℤ high → IsReached u low high (int_min (u *ℤ low) (u *ℤ high))
least_reached u low high h =
    by_lt_z (u *ℤ low) (u *ℤ high)
    (λ l. record { at = low; from = omega (arith, ints); upto = h; is = omega (arith, ints, clamps, l) })
    (λ l. record { at = high; from = h; upto = omega (arith, ints); is = omega (arith, ints, clamps, l) })

greatest_reached : (u low high : ℤ) → low ≤ℤ high → IsReached u low high (int_max (u *ℤ low) (u *ℤ high))
greatest_reached u low high h =
    by_lt_z (u *ℤ low) (u *ℤ high)
    (λ l. record { at = high; from = h; upto = omega (arith, ints); is = omega (arith, ints, clamps, l) })
    (λ l. record { at = low; from = omega (arith, ints); upto = h; is = omega (arith, ints, clamps, l) })

-- where such a number stands at the time t / d
shifted_in : (low high speed d t c : ℤ) → pos 0 ≤ℤ d → low ≤ℤ c → c ≤ℤ high
    → IsInside low high speed d t d (c *ℤ d +ℤ speed *ℤ t)
shifted_in low high speed d t c nd hl hh =
    let nn = nonneg_product d d nd nd in
    let a = simp laid_out at (mul_le_right low c (d *ℤ d) hl nn) in
    let b = simp laid_out at (mul_le_right c high (d *ℤ d) hh nn) in
    record { from = simp laid_out (omega (arith, sums, a)); upto = simp laid_out (omega (arith, sums, b)) }

-- the place with these three parts at time 0
abbrev place : List ℤ → ℤ → ℤ → ℤ → ℤ → ℤ → Position
place stroke d t x y z = record {
  x = x *ℤ d +ℤ part stroke 0 *ℤ t;
  y = y *ℤ d +ℤ part stroke 1 *ℤ t;
  z = z *ℤ d +ℤ part stroke 2 *ℤ t;
  w = d;
}

reached_along : (u v s x y z a b c d t px py pz : ℤ) → u *ℤ x ≡ a → v *ℤ y ≡ b → s *ℤ z ≡ c
    → u *ℤ (x *ℤ d +ℤ px *ℤ t) +ℤ v *ℤ (y *ℤ d +ℤ py *ℤ t) +ℤ s *ℤ (z *ℤ d +ℤ pz *ℤ t)
    ≡ (a +ℤ b +ℤ c) *ℤ d +ℤ (u *ℤ px +ℤ v *ℤ py +ℤ s *ℤ pz) *ℤ t
reached_along u v s x y z a b c d t px py pz ex ey ez =
    let l = simp laid_out at (ap (λ k. k *ℤ d) ex) in
    let m = simp laid_out at (ap (λ k. k *ℤ d) ey) in
    let n = simp laid_out at (ap (λ k. k *ℤ d) ez) in
    simp laid_out (omega (arith, sums, l, m, n))

-- a place of the box at the time t / d that reaches so far along the direction
pub record IsPlaceAt (u v s : ℤ) (b : Cuboid) (stroke : List ℤ) (d t m : ℤ) : Type 0 where
  pub q : Position
  pub w : q.w ≡ d
  pub inside : IsPlaceIn b stroke d t q
  pub reach : along u v s q ≡ m *ℤ d +ℤ stroke_along u v s stroke *ℤ t

reached_place : (u v s : ℤ) (b : Cuboid) (stroke : List ℤ) (d t mx my mz : ℤ) → pos 0 ≤ℤ d
    → IsReached u b.x0 b.x1 mx → IsReached v b.y0 b.y1 my → IsReached s b.z0 b.z1 mz
    → IsPlaceAt u v s b stroke d t (mx +ℤ my +ℤ mz)
reached_place u v s b stroke d t mx my mz nd x y z = record {
  q = place stroke d t x.at y.at z.at;
  w = refl;
  inside = record {
    x = shifted_in b.x0 b.x1 (part stroke 0) d t x.at nd x.from x.upto;
    y = shifted_in b.y0 b.y1 (part stroke 1) d t y.at nd y.from y.upto;
    z = shifted_in b.z0 b.z1 (part stroke 2) d t z.at nd z.from z.upto;
  };
  reach = reached_along u v s x.at y.at z.at mx my mz d t (part stroke 0) (part stroke 1) (part stroke 2) x.is
      y.is z.is;
}

pub weak : (a b : ℤ) → a <ℤ b → a ≤ℤ b
weak a b h = omega (arith, ints, h)

-- some place of the box lies at the least, and some at the greatest
pub least_there : (u v s : ℤ) (b : Cuboid) (stroke : List ℤ) (d t : ℤ) → IsBox b → pos 0 ≤ℤ d
    → IsPlaceAt u v s b stroke d t (least_on u v s b)
least_there u v s b stroke d t h nd =
    reached_place u v s b stroke d t _ _ _ nd (least_reached u b.x0 b.x1 (weak _ _ h.x))
    (least_reached v b.y0 b.y1 (weak _ _ h.y)) (least_reached s b.z0 b.z1 (weak _ _ h.z))

pub greatest_there : (u v s : ℤ) (b : Cuboid) (stroke : List ℤ) (d t : ℤ) → IsBox b → pos 0 ≤ℤ d
    → IsPlaceAt u v s b stroke d t (greatest_on u v s b)
greatest_there u v s b stroke d t h nd =
    reached_place u v s b stroke d t _ _ _ nd (greatest_reached u b.x0 b.x1 (weak _ _ h.x))
    (greatest_reached v b.y0 b.y1 (weak _ _ h.y)) (greatest_reached s b.z0 b.z1 (weak _ _ h.z))
