use Rattle.std.proofs.Common.{arith}
use Rattle.carton_base.proofs.Loops.{at_yes}
use Rattle.carton_part.proofs.Closed.{known_parted}
use Rattle.carton_part.proofs.closing.are_parted.Goals as goal

pub returns-clause-parted : goal.returns-clause-parted
returns-clause-parted g c =
    λ e. known_parted _ _ _ _ _ _ c.know-2.new.known _ _ (at_yes c.if-not-is_on_way.false c.is_on_way.ensures)
    c.know-2.ensures (omega (arith, c.requires.few, c.requires.a))
    (omega (arith, c.requires.few, c.requires.b)) (c.are_known_apart.ensures e)
