-- Two shapes are parted exactly where their panels are.
use Rattle.std.proofs.Common.{ℕ}
use Rattle.carton_base.specs.declared.dieline.RawDieline.{RawDieline}
use Rattle.carton_panels.specs.DielinePanels.{IsShapeOf}
use Rattle.carton_panels.specs.Shapes.{Shape}
use Rattle.carton_panels.specs.Flat.{IsFlatParted}
use Rattle.carton_plan_commands.specs.Flat.{AreParted}

pub panels_parted : (m : ℕ) (d : RawDieline) (a b : ℕ) (s t : Shape) → IsShapeOf m d a s → IsShapeOf m d b t
    → IsFlatParted s.margin s.places t.margin t.places → AreParted m d a b
panels_parted m d a b s t h k p = rw (h.margin, h.places, k.margin, k.places) at p

pub shapes_parted : (m : ℕ) (d : RawDieline) (a b : ℕ) (s t : Shape) → IsShapeOf m d a s → IsShapeOf m d b t
    → AreParted m d a b → IsFlatParted s.margin s.places t.margin t.places
shapes_parted m d a b s t h k p = rw (h.margin, h.places, k.margin, k.places) p
