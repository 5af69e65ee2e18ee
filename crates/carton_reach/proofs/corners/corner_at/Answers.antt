use Rattle.std.proofs.Common.{sym, subst}
use Rattle.carton_place.specs.Held.{HoldsPosition}
use Rattle.carton_reach.proofs.corners.corner_at.Goals as goal

pub returns-clause-holds : goal.returns-clause-holds
returns-clause-holds g c = λ m d p o t. subst (HoldsPosition g.E.Enclose.holds c.place_from.result m d)
    (sym t.after) (c.place_from.ensures.holds m d t.angles t.flat o t.have t.start)
