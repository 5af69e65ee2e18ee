use Rattle.carton_panels.specs.Crossings.{CoversRow, IsGathered}
use Rattle.carton_panels.proofs.Crossed.{Grows}
use Rattle.carton_panels.proofs.crossings.add_crossings.Given as goal

abbrev pub invariant-loop-j : goal.invariant-loop-j
invariant-loop-j l = record {
  gathered : IsGathered l.face.margin l.face.places.now l.found.items;
  grows : Grows l.fn.found.items l.found.items;
  row : CoversRow l.face.margin l.face.places.now l.found.items l.i l.j;
}
