-- Bodies in motion. A body is what some half-spaces hold together, and in each move it shifts evenly by the
-- stroke.
use Rattle.std.specs.Prelude.{ℕ, ◌+◌, ◌*◌, List, All, ℤ, pos, ◌+ℤ◌, ◌*ℤ◌, ◌≤ℤ◌, ◌<ℤ◌, slice_index_or}
use Rattle.carton_model.specs.Parting.{Position, along}

-- a half-space at the start of move 0: all places p with (u, v, s).p <= offset
pub record Side : Type 0 where
  pub u : ℤ
  pub v : ℤ
  pub s : ℤ
  pub offset : ℤ

-- the stroke's product with (u, v, s)
abbrev pub stroke_along : ℤ → ℤ → ℤ → List ℤ → ℤ
stroke_along u v s stroke = u *ℤ slice_index_or stroke 0 (pos 0) +ℤ v *ℤ slice_index_or stroke 1 (pos 0)
    +ℤ s *ℤ slice_index_or stroke 2 (pos 0)

-- how far the side reaches at the moment n / d of move i, times d
abbrev pub reach_of : Side → List ℤ → ℕ → ℕ → ℕ → ℤ
reach_of side stroke i n d =
    side.offset *ℤ pos d +ℤ stroke_along side.u side.v side.s stroke *ℤ pos (i * d + n)

-- the position lies in the half-space at that moment
abbrev pub IsInSide : List ℤ → ℕ → ℕ → ℕ → Position → Side → Type 0
IsInSide stroke i n d q side = (along side.u side.v side.s q *ℤ pos d) ≤ℤ (reach_of side stroke i n d *ℤ q.w)

-- and deeper in it than the gap
abbrev pub IsDeeperInSide : ℤ → List ℤ → ℕ → ℕ → ℕ → Position → Side → Type 0
IsDeeperInSide gap stroke i n d q side = (along side.u side.v side.s q *ℤ pos d +ℤ (gap *ℤ pos d) *ℤ q.w)
    <ℤ (reach_of side stroke i n d *ℤ q.w)

-- the position lies in the body of these sides at the moment n / d of move i
pub record IsInBody (sides : List Side) (stroke : List ℤ) (i n d : ℕ) (q : Position) : Type 0 where
  pub positive : pos 0 <ℤ q.w
  pub inside : All (IsInSide stroke i n d q) sides

-- and deeper in it than the gap, from each of its sides
pub record IsDeeper (gap : ℤ) (sides : List Side) (stroke : List ℤ) (i n d : ℕ) (q : Position) : Type 0 where
  pub positive : pos 0 <ℤ q.w
  pub inside : All (IsDeeperInSide gap stroke i n d q) sides
