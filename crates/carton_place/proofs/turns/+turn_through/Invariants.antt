use Rattle.std.proofs.Common.{length}
use Rattle.carton_place.proofs.turns.+turn_through.Given as goal

abbrev pub decreases-turn_through : goal.decreases-turn_through
decreases-turn_through g l = length l.turns.now
