use Rattle.std.proofs.Common.{◌≡◌, drop}
use Rattle.carton_text.specs.Tasks.{place_from}
use Rattle.carton_text.proofs.teams.place.Given as goal

abbrev pub invariant-loop-k : goal.invariant-loop-k
invariant-loop-k l = place_from l.k (drop l.k l.courses) l.edge ≡ place_from 0 l.courses l.edge
