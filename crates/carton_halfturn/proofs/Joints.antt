-- The folds of a span are those of its joint.
use Rattle.std.proofs.Common.{◌≡◌, ◌∙◌, ap, ℕ, ◌+◌, ◌*◌, ◌^◌, ℤ, pos, ◌+ℤ◌, ◌-ℤ◌, ◌*ℤ◌, unsigned_abs, arith}
use Rattle.std.proofs.lemmas.Int.{ints}
use Rattle.carton_halfturn.specs.declared.spans.FoldSpan.{FoldSpan}
use Rattle.carton_halfturn.specs.Joints.{FollowsJoint, LeavesStop, ReachesStop}
use Rattle.carton_halfturn.proofs.Scaling.{at_start, at_end, joint_moment}
use Rattle.carton_halfturn.proofs.Sizes.{next_part}

-- a span by its ends, over the piece from index / 2^depth on
pub record HasEnds (f : FoldSpan) (s t : ℤ) (grid index depth : ℕ) : Type 0 where
  pub first : f.from ≡ s *ℤ pos (2 ^ depth) +ℤ (t -ℤ s) *ℤ pos index
  pub last : f.to ≡ s *ℤ pos (2 ^ depth) +ℤ (t -ℤ s) *ℤ pos (index + 1)
  pub den : f.den ≡ pos (grid * 2 ^ depth)

regrouped : (g k d : ℕ) → g * k * d ≡ g * d * k
regrouped g k d = omega arith

pub follows : (f : FoldSpan) (s t : ℤ) (grid index depth : ℕ) → HasEnds f s t grid index depth
    → FollowsJoint f s t grid index depth
follows f s t grid index depth h m n d e =
    let local : pos m ≡ pos n *ℤ pos (2 ^ depth) -ℤ pos index *ℤ pos d = omega (arith, ints, e) in
    record {
      num = (λ i. h.first i *ℤ pos d +ℤ (h.last i -ℤ h.first i) *ℤ pos m)
          ∙ joint_moment s t (pos (2 ^ depth)) (pos index) (pos n) (pos d) (pos m) local;
      den = ap (λ z. unsigned_abs z * d) h.den ∙ regrouped grid (2 ^ depth) d;
    }

pub leaves : (f : FoldSpan) (s t : ℤ) (grid index depth : ℕ) → HasEnds f s t grid index depth
    → LeavesStop f s grid index depth
leaves f s t grid index depth h e = record {
  num = h.first ∙ at_start s t index (2 ^ depth) e;
  den = ap unsigned_abs h.den;
}

pub reaches : (f : FoldSpan) (s t : ℤ) (grid index depth : ℕ) → HasEnds f s t grid index depth
    → ReachesStop f t grid index depth
reaches f s t grid index depth h e = record {
  num = h.last ∙ at_end s t (index + 1) (2 ^ depth) e;
  den = ap unsigned_abs h.den;
}

pub goes : (f : FoldSpan) (s t : ℤ) (grid index depth : ℕ) → HasEnds f s t grid index depth
    → f.to -ℤ f.from ≡ t -ℤ s
goes f s t grid index depth h =
    let one = next_part s t (pos (2 ^ depth)) (pos index) in
    (λ i. h.last i -ℤ h.first i) ∙ difference (s *ℤ pos (2 ^ depth) +ℤ (t -ℤ s) *ℤ pos index) (t -ℤ s) _ one
  where
    difference : (x y z : ℤ) → x +ℤ y ≡ z → z -ℤ x ≡ y
    difference x y z e = omega (arith, ints, e)
