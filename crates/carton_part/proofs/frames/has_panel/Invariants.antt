use Rattle.std.proofs.Common.{◌≡◌, false, IsTrue}
use Rattle.std.specs.Prelude.{Contains}
use Rattle.carton_base.specs.declared.ids.PanelId.{PanelId}
use Rattle.carton_base.proofs.Loops.{NoneBelow}
use Rattle.carton_part.proofs.frames.has_panel.Given as goal

abbrev pub invariant-loop-p : goal.invariant-loop-p
invariant-loop-p l = (IsTrue l.found → Contains l.panels l.panel)
    × (l.found ≡ false → NoneBelow (λ (e : PanelId). e.0 ≡ l.panel.0) l.panels l.p-index)
