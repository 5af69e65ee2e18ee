-- What is answered of a face that may be a panel.
use Rattle.std.specs.Prelude.{⊤, ◌≡◌, ℕ, List, Result, Ok, Err}
use Rattle.carton_base.specs.declared.ids.PanelId.{PanelId}
use Rattle.carton_base.specs.declared.dieline.Point.{Point}
use Rattle.carton_panels.specs.declared.error.PanelError.{PanelError}
use Rattle.carton_panels.specs.declared.error.PanelError.TheVariants.{RepeatedVertex, NotConvex, TooThin}
use Rattle.carton_panels.specs.declared.error.PanelError.TheVariants.{Memory}
use Rattle.carton_panels.specs.Panels.{IsDistinct, IsRepeating, IsConvex}
use Rattle.carton_panels.specs.Shrinking.{IsThin}
use Rattle.carton_panels.specs.Shapes.{Shape, IsShape}

-- the answer for a face and a margin, by the places of the face's vertices: the panel, or the first rule that
-- it breaks
abbrev pub IsPanelAnswer : PanelId → ℕ → List Point → Result Shape PanelError → Type 0
IsPanelAnswer face m ps (Ok s) = (s.places ≡ ps) × (s.margin ≡ m) × IsShape s
IsPanelAnswer face m ps (Err (RepeatedVertex f)) = (f ≡ face) × IsRepeating ps
IsPanelAnswer face m ps (Err (NotConvex f)) = (f ≡ face) × IsDistinct ps × ¬ (IsConvex ps)
IsPanelAnswer face m ps (Err (TooThin f)) = (f ≡ face) × IsDistinct ps × IsConvex ps × IsThin m ps
IsPanelAnswer face m ps (Err Memory) = ⊤
