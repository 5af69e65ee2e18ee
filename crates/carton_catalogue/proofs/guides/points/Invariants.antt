use Rattle.std.proofs.Common.{◌≡◌, ◌*◌, ◌++◌, drop}
use Rattle.carton_catalogue.specs.CatalogueLines.{points_of}
use Rattle.carton_catalogue.proofs.guides.points.Given as goal

abbrev pub invariant-loop-k : goal.invariant-loop-k
invariant-loop-k l = l.found.items ++ points_of (drop (2 * l.k) l.numbers) ≡ points_of l.numbers
