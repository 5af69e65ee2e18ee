-- What the parts of a position and the ratios of joints hold at a moment, and how large and how wide they
-- are, in units of 2^-40.
use Rattle.std.specs.Prelude.{⊤, ℕ, ◌<◌, ◌≤◌, max, List, [], ◌∷◌, ℤ, pos, ◌-ℤ◌, ◌<ℤ◌, unsigned_abs}
use Rattle.carton_model.specs.Parting.{Position}
use Rattle.carton_model.specs.Turning.{Angle}
use Rattle.carton_base.specs.Rounding.{IsBetween}
use Rattle.carton_enclose.specs.Held.{Holding, IsReached}
use Rattle.carton_enclose.specs.Points.{HoldsPoint}
use Rattle.carton_enclose.specs.declared.space.Space.{Space}
use Rattle.carton_place.specs.declared.ratios.Ratio.{Ratio}
use Rattle.carton_place.specs.declared.swings.Ramp.{Ramp}
use Rattle.carton_place.specs.declared.swings.Swing.{Swing}

-- the space holds the position at the moment n / d
pub record HoldsPosition {E : Type 0} (holds : Holding E) (s : Space E) (n d : ℕ) (p : Position) : Type 0
  where
    pub positive : pos 0 <ℤ p.w
    pub point : HoldsPoint holds s n d p.x p.y p.z (unsigned_abs p.w)

-- p / u is a number of the ramp's start, and q / u one of its slope
pub record RampLine (r : Ramp) : Type 0 where
  pub p : ℤ
  pub q : ℤ
  pub u : ℕ
  pub some : 0 < u
  pub begins : IsBetween r.start.lo r.start.hi p u
  pub rate : IsBetween r.slope.lo r.slope.hi q u

-- the ramp has x / v at the moment n / d: a number of its start and n / d times one of its slope, and within
-- all
pub record HoldsOnRamp (r : Ramp) (n d : ℕ) (x : ℤ) (v : ℕ) : Type 0 where
  pub line : RampLine r
  pub within : IsBetween r.all.lo r.all.hi x v
  pub reached : IsReached n d line.p line.q line.u x v

-- the swing has the angle's cosine and sine at the moment n / d
pub record HoldsSwing (s : Swing) (n d : ℕ) (a : Angle) : Type 0 where
  pub positive : 0 < a.over
  pub cos : HoldsOnRamp s.cos n d a.cos a.over
  pub sin : HoldsOnRamp s.sin n d a.sin a.over

-- each swing has the angle at its place in the list
abbrev pub HoldSwings : List Swing → ℕ → ℕ → List Angle → Type 0
HoldSwings [] n d [] = ⊤
HoldSwings [] n d (a ∷ angles) = ⊥
HoldSwings (s ∷ ss) n d [] = ⊥
HoldSwings (s ∷ ss) n d (a ∷ angles) = HoldsSwing s n d a × HoldSwings ss n d angles

-- cosine and sine of the swing are known to so many units throughout
pub record IsSwingWithin (e : ℕ) (s : Swing) : Type 0 where
  pub cos : unsigned_abs (s.cos.all.hi -ℤ s.cos.all.lo) ≤ e
  pub sin : unsigned_abs (s.sin.all.hi -ℤ s.sin.all.lo) ≤ e

-- the ratio holds the angle's cosine and sine at the moment n / d
pub record HoldsAngle {E : Type 0} (holds : Holding E) (r : Ratio E) (n d : ℕ) (a : Angle) : Type 0 where
  pub positive : 0 < a.over
  pub cos : holds r.cos n d a.cos a.over
  pub sin : holds r.sin n d a.sin a.over

-- the greatest of a measure's three values at a position's parts
abbrev pub greatest : {E : Type 0} → (E → ℕ) → Space E → ℕ
greatest measure s = max (measure s.x) (max (measure s.y) (measure s.z))

-- cosine and sine are both at most so much
pub record IsRatioWithin {E : Type 0} (measure : E → ℕ) (most : ℕ) (r : Ratio E) : Type 0 where
  pub cos : measure r.cos ≤ most
  pub sin : measure r.sin ≤ most
