use Rattle.std.proofs.Common.{take}
use Rattle.std.specs.Prelude.{string_bytes}
use Rattle.carton_text.specs.Poses.{ArePieces, ArePanelLines}
use Rattle.carton_text.proofs.pose.pose_text.Given as goal

abbrev pub invariant-loop-panel : goal.invariant-loop-panel
invariant-loop-panel l = ArePieces (ArePanelLines l.carton l.state) 0 (take l.panel l.carton.panels)
    (string_bytes l.text)
