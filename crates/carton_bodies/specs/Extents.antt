-- How far a body in motion reaches along an axis over a piece of a move. Units are 2^-40.
use Rattle.std.specs.Prelude.{◌≡◌, ℕ, ◌<◌, ◌^◌, List, get_or, ℤ, pos, ◌+ℤ◌, ◌*ℤ◌, ◌≤ℤ◌}
use Rattle.std.specs.Int.{int_min, int_max}
use Rattle.carton_base.specs.Rounding.{unit}
use Rattle.carton_base.specs.declared.bodies.Cuboid.{Cuboid}
use Rattle.carton_model.specs.Parting.{Position}
use Rattle.carton_reach.specs.Axes.{axis_at}
use Rattle.carton_reach.specs.Reaches.{Within, IsAbove, IsBelow}
use Rattle.carton_bodies.specs.Bodies.{IsInBody}
use Rattle.carton_bodies.specs.Boxes.{faces}
use Rattle.carton_bodies.specs.declared.extent.Ends.{Ends}
use Rattle.carton_bodies.specs.declared.extent.Extent.{Extent}
use Rattle.carton_bodies.specs.declared.moving.Moving.{Moving}
use Rattle.carton_bodies.specs.declared.span.Span.{Span}

-- where the body is at a moment of its move
abbrev pub holds : Moving → ℕ → ℕ → Position → Type 0
holds b = IsInBody (faces b.shape) b.stroke b.step

-- some place of the body has P at this moment
abbrev pub SomePlace : Moving → ℕ → ℕ → (Position → Type 0) → Type 0
SomePlace b n d P = (q : Position) × holds b n d q × P q

-- the extent of the body along the direction over the piece; at depth 36 its bounds are close
pub record IsExtent (b : Moving) (index depth : ℕ) (v : List ℤ) (e : Extent) : Type 0 where
  pub above : Within index depth (λ n d. (q : Position) → holds b n d q → IsAbove v e.least_low q)
  pub below : Within index depth (λ n d. (q : Position) → holds b n d q → IsBelow v e.greatest_high q)
  pub some_below : Within index depth (λ n d. SomePlace b n d (IsBelow v e.least_high))
  pub some_above : Within index depth (λ n d. SomePlace b n d (IsAbove v e.greatest_low))
  pub close_lows : depth ≡ 36 → e.least_high ≤ℤ (e.least_low +ℤ pos (2 ^ 38))
  pub close_highs : depth ≡ 36 → e.greatest_high ≤ℤ (e.greatest_low +ℤ pos (2 ^ 38))

-- the extents along the 13 axes
abbrev pub AreExtents : Moving → ℕ → ℕ → List Extent → Type 0
AreExtents b index depth es = (a : ℕ) (d : Extent) → a < 13
    → IsExtent b index depth (axis_at a) (get_or es a d)

-- how far the box reaches along (u, v, s) at the start of move 0, the least and the greatest
abbrev pub least_on : ℤ → ℤ → ℤ → Cuboid → ℤ
least_on u v s b = int_min (u *ℤ b.x0) (u *ℤ b.x1) +ℤ int_min (v *ℤ b.y0) (v *ℤ b.y1)
    +ℤ int_min (s *ℤ b.z0) (s *ℤ b.z1)

abbrev pub greatest_on : ℤ → ℤ → ℤ → Cuboid → ℤ
greatest_on u v s b = int_max (u *ℤ b.x0) (u *ℤ b.x1) +ℤ int_max (v *ℤ b.y0) (v *ℤ b.y1)
    +ℤ int_max (s *ℤ b.z0) (s *ℤ b.z1)

-- these are the least and the greatest of it
pub record AreEndsOn (u v s : ℤ) (b : Cuboid) (e : Ends) : Type 0 where
  pub least : e.least ≡ least_on u v s b
  pub greatest : e.greatest ≡ greatest_on u v s b

-- the extent of what reaches from least to greatest at time 0 and moves at this speed, between two times
pub record IsExtentBy (least greatest speed : ℤ) (times : Span) (e : Extent) : Type 0 where
  pub least_low : e.least_low ≡ least *ℤ unit +ℤ int_min (speed *ℤ times.from) (speed *ℤ times.upto)
  pub least_high : e.least_high ≡ least *ℤ unit +ℤ int_max (speed *ℤ times.from) (speed *ℤ times.upto)
  pub greatest_low : e.greatest_low ≡ greatest *ℤ unit +ℤ int_min (speed *ℤ times.from) (speed *ℤ times.upto)
  pub greatest_high : e.greatest_high
      ≡ greatest *ℤ unit +ℤ int_max (speed *ℤ times.from) (speed *ℤ times.upto)
