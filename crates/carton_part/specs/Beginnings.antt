-- The first moment of a move.
use Rattle.std.specs.Prelude.{◌≡◌, pos}
use Rattle.carton_base.specs.declared.moments.Moment.{Moment}

-- the moment is written 0 / 1
pub record IsBeginning (m : Moment) : Type 0 where
  pub num : m.num ≡ pos 0
  pub den : m.den ≡ pos 1
