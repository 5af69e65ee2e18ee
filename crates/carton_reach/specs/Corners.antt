-- How far one corner reaches, by what a space holds of it.
use Rattle.std.specs.Prelude.{◌≡◌, ℕ, ◌+◌, ◌<◌, ◌≤◌, List, get_or, ℤ, pos, ◌-ℤ◌, ◌≤ℤ◌}
use Rattle.std.specs.Int.{int_min, int_max}
use Rattle.carton_base.specs.Moments.{IsMoment}
use Rattle.carton_base.specs.Rounding.{IsBetween}
use Rattle.carton_enclose.specs.Held.{Holding}
use Rattle.carton_enclose.specs.Points.{dot, HoldsPoint}
use Rattle.carton_enclose.specs.declared.space.Space.{Space}
use Rattle.carton_reach.specs.declared.reach.Reach.{Reach}
use Rattle.carton_reach.specs.Axes.{axis_at}

-- each point that the space holds lies along the direction from low to high units
abbrev pub HoldsAlong : {E : Type 0} → Holding E → Space E → List ℤ → ℤ → ℤ → Type 0
HoldsAlong holds s v low high = (n d : ℕ) (x y z : ℤ) (w : ℕ) → IsMoment n d → 0 < w
    → HoldsPoint holds s n d x y z w → IsBetween low high (dot v x y z) w

-- the reach of the one corner of which the space holds where it stands; its bounds are no farther apart than
-- the spreads of the parts
pub record IsReachAt {E : Type 0} (holds : Holding E) (spread : E → ℕ) (s : Space E) (v : List ℤ)
    (r : Reach) : Type 0 where
  pub one_low : r.greatest_low ≡ r.least_low
  pub one_high : r.greatest_high ≡ r.least_high
  pub between : HoldsAlong holds s v r.least_low r.least_high
  pub close : (r.least_high -ℤ r.least_low) ≤ℤ pos (spread s.x + spread s.y + spread s.z)

-- those along the 13 axes
abbrev pub AreReachesAt : {E : Type 0} → Holding E → (E → ℕ) → Space E → List Reach → Type 0
AreReachesAt holds spread s rs = (a : ℕ) (d : Reach) → a < 13
    → IsReachAt holds spread s (axis_at a) (get_or rs a d)

-- e holds how far the point that the space holds lies along the direction; it is no larger and no wider than
-- the parts together
pub record IsAlong {E : Type 0} (holds : Holding E) (size spread : E → ℕ) (s : Space E) (v : List ℤ)
    (e : E) : Type 0 where
  pub held : (n d : ℕ) (x y z : ℤ) (w : ℕ) → IsMoment n d → 0 < w → HoldsPoint holds s n d x y z w
      → holds e n d (dot v x y z) w
  pub small : size e ≤ size s.x + size s.y + size s.z
  pub narrow : spread e ≤ spread s.x + spread s.y + spread s.z

-- r is the reach of the corners of p and of q
pub record IsJoined (p q r : Reach) : Type 0 where
  pub least_low : r.least_low ≡ int_min p.least_low q.least_low
  pub least_high : r.least_high ≡ int_min p.least_high q.least_high
  pub greatest_low : r.greatest_low ≡ int_max p.greatest_low q.greatest_low
  pub greatest_high : r.greatest_high ≡ int_max p.greatest_high q.greatest_high

-- r is the reach p with that corner more
pub record IsWidened {E : Type 0} (holds : Holding E) (spread : E → ℕ) (s : Space E) (v : List ℤ)
    (p r : Reach) : Type 0 where
  pub corner : Reach
  pub reach : IsReachAt holds spread s v corner
  pub joined : IsJoined p corner r

-- those along the 13 axes
abbrev pub AreWidened : {E : Type 0} → Holding E → (E → ℕ) → Space E → List Reach → List Reach → Type 0
AreWidened holds spread s ps rs = (a : ℕ) (d : Reach) → a < 13
    → IsWidened holds spread s (axis_at a) (get_or ps a d) (get_or rs a d)
