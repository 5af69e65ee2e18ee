use Rattle.std.proofs.Common.{◌≡◌, take, map, get_or}
use Rattle.carton_panels.specs.Panels.{origin}
use Rattle.carton_panels.proofs.corners.places_of.Given as goal

abbrev pub invariant-loop-vertex : goal.invariant-loop-vertex
invariant-loop-vertex l = l.found.items ≡ map (λ c. get_or l.places c origin) (take l.vertex-index l.vertices)
