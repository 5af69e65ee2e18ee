-- Positions of points in space, and when a direction parts two sets of them.
use Rattle.std.specs.Prelude.{ℤ, ◌+ℤ◌, ◌*ℤ◌, ◌<ℤ◌}
use Rattle.carton_base.specs.Directions.{IsDirection}

-- the place (x/w, y/w, z/w), for w > 0
pub record Position : Type 0 where
  pub x : ℤ
  pub y : ℤ
  pub z : ℤ
  pub w : ℤ

-- how far the position lies along the direction (u, v, t), times its w
abbrev pub along : ℤ → ℤ → ℤ → Position → ℤ
along u v t p = u *ℤ p.x +ℤ v *ℤ p.y +ℤ t *ℤ p.z

-- q lies farther along the direction than p, by more than the gap
abbrev pub IsFarther : ℤ → ℤ → ℤ → ℤ → Position → Position → Type 0
IsFarther gap u v t p q = (along u v t p *ℤ q.w +ℤ gap *ℤ (p.w *ℤ q.w)) <ℤ (along u v t q *ℤ p.w)

-- the direction parts the two sets of positions by more than the gap
abbrev pub PartsBy : ℤ → ℤ → ℤ → ℤ → (Position → Type 0) → (Position → Type 0) → Type 0
PartsBy gap u v t first second = (p q : Position) → first p → second q → IsFarther gap u v t p q

-- some direction parts the two sets by more than the gap, where a frame tells the positions of each
abbrev pub PartedIn : {Frame : Type 0} → ℤ → (Frame → Position → Type 0) → (Frame → Position → Type 0) → Frame
    → Type 0
PartedIn gap first second frame = (u v t : ℤ) × IsDirection u v t
    × PartsBy gap u v t (first frame) (second frame)
