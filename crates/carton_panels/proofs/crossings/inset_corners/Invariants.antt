use Rattle.std.proofs.Common.{ℕ, ◌<◌, length}
use Rattle.carton_panels.specs.Crossings.{CoversRow, IsGathered}
use Rattle.carton_panels.proofs.crossings.inset_corners.Given as goal

abbrev pub invariant-loop-i : goal.invariant-loop-i
invariant-loop-i l = record {
  gathered : IsGathered l.face.margin l.face.places.now l.found.items;
  rows : (i : ℕ) → i < l.i
      → CoversRow l.face.margin l.face.places.now l.found.items i (length l.face.places.now);
}
