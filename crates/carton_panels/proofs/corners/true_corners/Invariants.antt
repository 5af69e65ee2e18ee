use Rattle.std.proofs.Common.{◌≡◌, map, pos}
use Rattle.std.specs.Prelude.{All}
use Rattle.carton_base.specs.declared.numbers.Triple.{Triple}
use Rattle.carton_panels.specs.Shapes.{place_of}
use Rattle.carton_panels.proofs.Bends.{corners_before}
use Rattle.carton_panels.proofs.corners.true_corners.Given as goal

abbrev pub invariant-loop-k : goal.invariant-loop-k
invariant-loop-k l = record {
  corners : map place_of l.corners.items ≡ corners_before l.face.places.now l.k;
  whole : All (λ (t : Triple). t.w ≡ pos 1) l.corners.items;
}
