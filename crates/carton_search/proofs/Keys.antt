-- `==` of two states, and a match on its answer.
use Rattle.std.proofs.Common.{◌≡◌, Bool, true, false, ◌&&◌, MatchBool, refl}
use Rattle.std.specs.Bool.{Decides}
use Rattle.std.specs.Ordering.{int_eq}
use Rattle.carton_base.specs.declared.motion.State.{State}
use lib.Pointwise.{pointwise}
use lib.Dec.{eqb}

abbrev pub state_eq : State → State → Bool
state_eq a b = pointwise int_eq a.stops b.stops && eqb a.grid b.grid

pub match_decided : (b : Bool) (P : Type 0) → Decides b P → MatchBool b P (P → ⊥)
match_decided true P d = d.0 refl
match_decided false P d = λ p. let e : false ≡ true = d.1 p in cc
