use Rattle.std.proofs.Common.{◌≡◌, length}
use Rattle.carton_panels.specs.DielinePanels.{AreShapes}
use Rattle.carton_panels.proofs.dieline.panels.Given as goal

abbrev pub invariant-loop-face : goal.invariant-loop-face
invariant-loop-face l =
    record { made : AreShapes l.margin l.raw l.shapes.items; count : length l.shapes.items ≡ l.face }
