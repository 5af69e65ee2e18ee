-- What an inward margin leaves of a panel, and which points generate it.
use Rattle.std.specs.Prelude.{◌≡◌, ℕ, ◌<◌, List, All, Contains, ℤ, pos, ◌+ℤ◌, ◌-ℤ◌, ◌*ℤ◌, ◌<ℤ◌}
use Rattle.carton_base.specs.declared.dieline.Point.{Point}
use Rattle.carton_base.specs.declared.numbers.Triple.{Triple}
use Rattle.carton_panels.specs.Panels.{sides_of, InPanel, IsStrictlyLeft}

-- the four flat points that lie the margin away from (x/w, y/w) along both axes all have P
abbrev pub AtOffsets : ℕ → (ℤ → ℤ → ℤ → Type 0) → ℤ → ℤ → ℤ → Type 0
AtOffsets m P x y w = let d = pos m *ℤ w in P (x +ℤ d) (y +ℤ d) w × P (x +ℤ d) (y -ℤ d) w
    × P (x -ℤ d) (y +ℤ d) w × P (x -ℤ d) (y -ℤ d) w

-- the flat point (x/w, y/w) lies in the shrunk panel
abbrev pub InShrunk : ℕ → List Point → ℤ → ℤ → ℤ → Type 0
InShrunk m ps x y w = AtOffsets m (InPanel ps) x y w

-- it does so with every inequality strict
abbrev pub InsideShrunk : ℕ → List Point → ℤ → ℤ → ℤ → Type 0
InsideShrunk m ps x y w = AtOffsets m (λ x y w. All (λ s. IsStrictlyLeft s x y w) (sides_of ps)) x y w

-- no flat point keeps every inequality strictly
abbrev pub IsThin : ℕ → List Point → Type 0
IsThin m ps = (x y w : ℤ) → pos 0 <ℤ w → ¬ (InsideShrunk m ps x y w)

-- some flat point does
pub record HasRoom (m : ℕ) (ps : List Point) : Type 0 where
  pub x : ℤ
  pub y : ℤ
  pub w : ℤ
  pub positive : pos 0 <ℤ w
  pub inside : InsideShrunk m ps x y w

-- (x/w, y/w) is a mean of a, b and c: k times the triple is a sum of whole multiples of theirs
pub record IsMean (x y w : ℤ) (a b c : Triple) : Type 0 where
  pub k : ℕ
  pub l : ℕ
  pub m : ℕ
  pub n : ℕ
  pub some : 0 < k
  pub x_part : pos k *ℤ x ≡ pos l *ℤ a.x +ℤ pos m *ℤ b.x +ℤ pos n *ℤ c.x
  pub y_part : pos k *ℤ y ≡ pos l *ℤ a.y +ℤ pos m *ℤ b.y +ℤ pos n *ℤ c.y
  pub w_part : pos k *ℤ w ≡ pos l *ℤ a.w +ℤ pos m *ℤ b.w +ℤ pos n *ℤ c.w

-- (x/w, y/w) is a mean of at most three members of the list
abbrev pub IsMeanOf : List Triple → ℤ → ℤ → ℤ → Type 0
IsMeanOf ts x y w = (a b c : Triple) × Contains ts a × Contains ts b × Contains ts c × IsMean x y w a b c

-- two triples stand for one flat point
abbrev pub IsSamePoint : Triple → Triple → Type 0
IsSamePoint a b = (a.x *ℤ b.w ≡ b.x *ℤ a.w) × (a.y *ℤ b.w ≡ b.y *ℤ a.w)
