-- When a direction parts two positions, or the corners of two panels, by more than a number of halves of a
-- unit.
use Rattle.std.specs.Prelude.{ℕ, ◌<◌, ℤ, pos, ◌+ℤ◌, ◌*ℤ◌, ◌<ℤ◌}
use Rattle.carton_base.specs.Directions.{IsDirection}
use Rattle.carton_base.specs.Moments.{IsMoment}
use Rattle.carton_model.specs.Parting.{Position, along}

-- q lies farther along the direction than p, by more than so many halves of a unit
abbrev pub IsBeyond : ℤ → ℤ → ℤ → ℤ → Position → Position → Type 0
IsBeyond halves u v t p q = (pos 2 *ℤ (along u v t p *ℤ q.w) +ℤ halves *ℤ (p.w *ℤ q.w))
    <ℤ (pos 2 *ℤ (along u v t q *ℤ p.w))

-- where each of some corners is at the moment n / d of a move
abbrev pub Spots : Type 0
Spots = ℕ → ℕ → ℕ → Position

-- at every moment each w is positive
abbrev pub ArePositive : Spots → Type 0
ArePositive spots = (k n d : ℕ) → IsMoment n d → pos 0 <ℤ (spots k n d).w

-- at the moment n / d some direction parts the i first corners of the one panel from the j first of the other
-- by more than so many halves
abbrev pub AreCornersParted : ℤ → Spots → ℕ → Spots → ℕ → ℕ → ℕ → Type 0
AreCornersParted halves ps i qs j n d = (u v t : ℤ) × IsDirection u v t
    × ((k l : ℕ) → k < i → l < j → IsBeyond halves u v t (ps k n d) (qs l n d))
