-- The sides of a face moved inwards by a margin, as half planes.
use Rattle.std.specs.Prelude.{◌≡◌, ℕ, List, All, ℤ, pos, ◌+ℤ◌, ◌-ℤ◌, ◌*ℤ◌, ◌≤ℤ◌, unsigned_abs}
use Rattle.carton_base.specs.declared.dieline.Point.{Point}
use Rattle.carton_panels.specs.Panels.{Side, sides_of, leftness}

-- the inset line of a side as a*x + b*y = e*w
abbrev pub line_a : Side → ℤ
line_a s = s.to.y -ℤ s.from.y

abbrev pub line_b : Side → ℤ
line_b s = s.from.x -ℤ s.to.x

abbrev pub line_e : ℕ → Side → ℤ
line_e m s = s.from.x *ℤ (s.to.y -ℤ s.from.y) -ℤ s.from.y *ℤ (s.to.x -ℤ s.from.x)
    -ℤ pos m *ℤ (pos (unsigned_abs (s.to.x -ℤ s.from.x)) +ℤ pos (unsigned_abs (s.to.y -ℤ s.from.y)))

-- a*x + b*y = e*w is the inset line of the side
pub record IsInsetLine (m : ℕ) (s : Side) (a b e : ℤ) : Type 0 where
  pub a_part : a ≡ line_a s
  pub b_part : b ≡ line_b s
  pub e_part : e ≡ line_e m s

-- how far the flat point (x/w, y/w) lies within the side's inset line: leftness less the margin's part
abbrev pub inset : ℕ → Side → ℤ → ℤ → ℤ → ℤ
inset m s x y w =
    leftness s x y w
    -ℤ (pos m *ℤ (pos (unsigned_abs (s.to.x -ℤ s.from.x)) +ℤ pos (unsigned_abs (s.to.y -ℤ s.from.y)))) *ℤ w

-- the flat point keeps the inset inequality of each side
abbrev pub KeepsAll : ℕ → List Point → ℤ → ℤ → ℤ → Type 0
KeepsAll m ps x y w = All (λ s. pos 0 ≤ℤ inset m s x y w) (sides_of ps)
