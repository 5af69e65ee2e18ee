-- Whether a catalogue fits a carton, its task and a plan, or the first rule by which it doesn't.
use Rattle.std.specs.Prelude.{◌≡◌, ℕ, ◌+◌, ◌*◌, ◌<◌, ◌≤◌, List, length, All, IfSome, IsSomeAnd, Some}
use Rattle.std.specs.Prelude.{slice_get, Result, Ok, Err, ℤ, pos, neg_ℤ, ◌+ℤ◌, ◌*ℤ◌, unsigned_abs}
use Rattle.carton_base.specs.declared.bodies.Guide.{Guide}
use Rattle.carton_base.specs.declared.dieline.Point.{Point}
use Rattle.carton_base.specs.declared.motion.State.{State}
use Rattle.carton_model.specs.HalfTurns.{Fold}
use Rattle.carton_panels.specs.Shapes.{Shape}
use Rattle.carton_panels.specs.Shrinking.{InShrunk}
use Rattle.carton_place.specs.States.{fold_in}
use Rattle.carton_text.specs.declared.plan.Plan.{Plan}
use Rattle.carton_text.specs.declared.task.Task.{Task}
use Rattle.carton_text.specs.TaskPlans.{HasCreases}
use Rattle.carton_tree.specs.Rules.{IsLeast}
use Rattle.carton_tree.specs.Trees.{Tree, joint_of, Hangs}
use Rattle.carton_catalogue.specs.declared.catalogue.Catalogue.{Catalogue}
use Rattle.carton_catalogue.specs.declared.fit_error.FitError.{FitError}
use Rattle.carton_catalogue.specs.declared.fit_error.FitError.TheVariants.{OtherCreases, NotAJoint, BadWindow}
use Rattle.carton_catalogue.specs.declared.fit_error.FitError.TheVariants.{BandTooWide, ProbeOutside}
use Rattle.carton_catalogue.specs.declared.fit_error.Misfit.{Misfit}
use Rattle.carton_catalogue.specs.declared.fit_error.Misfit.TheVariants.{Joint, Window, Band, Probe}

-- the edge hangs panel flap from its parent, by the free joint at place k of the states
pub record IsGuided (t : Tree) (e flap k : ℕ) : Type 0 where
  pub hangs : IsLeast (Hangs t.joints e) flap
  pub free : IsSomeAnd (joint_of t.joints flap) (λ j. j.turn.place ≡ Some k)

-- the guide goes from a move of the states to the same move or a later one
pub record HasWindow (states : List State) (g : Guide) : Type 0 where
  pub ordered : g.first ≤ g.last
  pub moves : g.last + 1 < length states

-- the fold lies from -2 to 2
abbrev pub IsFold : Fold → Type 0
IsFold f = unsigned_abs f.num ≤ 2 * f.den

-- the fold with so many eighths of a right angle more
abbrev pub with_eighths : ℤ → Fold → Fold
with_eighths n f = record { num = pos 8 *ℤ f.num +ℤ n *ℤ pos f.den; den = 8 * f.den }

-- the fold less the band and the fold plus the band, which is told in eighths, lie from -2 to 2
pub record HasRoomFor (band : ℕ) (f : Fold) : Type 0 where
  pub under : IsFold (with_eighths (neg_ℤ (pos band)) f)
  pub over : IsFold (with_eighths (pos band) f)

-- the joint at place k has room for the band in each state of the guide's window, up to the end of its last
-- move
abbrev pub KeepsBand : List State → Guide → ℕ → Type 0
KeepsBand states g k = (i : ℕ) → g.first ≤ i → i ≤ g.last + 1
    → IfSome (slice_get states i) (λ s. HasRoomFor g.band (fold_in s k))

-- the flat place lies in the shrunk panel of this shape
abbrev pub IsOnShape : Shape → Point → Type 0
IsOnShape s place = InShrunk s.margin s.places place.x place.y (pos 1)

-- the flat place lies in the shrunk panel p
abbrev pub IsOnPanel : Tree → ℕ → Point → Type 0
IsOnPanel t p place = IsSomeAnd (slice_get t.panels p) (λ s. IsOnShape s place)

-- all that a guide needs: it guides panel flap by the free joint at place k
pub record IsFitting (t : Tree) (states : List State) (g : Guide) (flap k : ℕ) : Type 0 where
  pub joint : IsGuided t g.edge.0 flap k
  pub window : HasWindow states g
  pub band : KeepsBand states g k
  pub probes : All (IsOnPanel t flap) g.probes

-- the guide fits
abbrev pub FitsGuide : Tree → List State → Guide → Type 0
FitsGuide t states g = (flap k : ℕ) × IsFitting t states g flap k

-- probe p lies outside
abbrev pub IsOutside : (Point → Type 0) → List Point → ℕ → Type 0
IsOutside IsInside probes p = IsSomeAnd (slice_get probes p) (λ place. ¬ (IsInside place))

-- the first rule by which the guide doesn't fit
abbrev pub IsMisfit : Tree → List State → Guide → Misfit → Type 0
IsMisfit t states g Joint = (flap k : ℕ) → ¬ (IsGuided t g.edge.0 flap k)
IsMisfit t states g Window = (flap k : ℕ) × IsGuided t g.edge.0 flap k × ¬ (HasWindow states g)
IsMisfit t states g Band = (flap k : ℕ) × IsGuided t g.edge.0 flap k × HasWindow states g
    × ¬ (KeepsBand states g k)
IsMisfit t states g (Probe p) = (flap k : ℕ) × IsGuided t g.edge.0 flap k × HasWindow states g
    × KeepsBand states g k × IsLeast (IsOutside (IsOnPanel t flap) g.probes) p

-- the catalogue fits: the plan has the task's creases, and all guides fit
pub record Fits (t : Tree) (task : Task) (plan : Plan) (c : Catalogue) : Type 0 where
  pub creases : HasCreases task plan
  pub guides : All (FitsGuide t plan.states) c.guides

-- guide n is the first that doesn't fit, and this is why
pub record IsFirstMisfit (t : Tree) (states : List State) (guides : List Guide) (n : ℕ) (m : Misfit) : Type 0
  where
    pub misfit : IsSomeAnd (slice_get guides n) (λ g. IsMisfit t states g m)
    pub before : (i : ℕ) → i < n → IfSome (slice_get guides i) (FitsGuide t states)

-- the plan has the task's creases, and guide n is the first that doesn't fit
abbrev pub IsRefusedBy : Tree → Task → Plan → Catalogue → ℕ → Misfit → Type 0
IsRefusedBy t task plan c n m = HasCreases task plan × IsFirstMisfit t plan.states c.guides n m

-- the first rule by which the catalogue doesn't fit
abbrev pub IsRefusal : Tree → Task → Plan → Catalogue → FitError → Type 0
IsRefusal t task plan c OtherCreases = ¬ (HasCreases task plan)
IsRefusal t task plan c (NotAJoint n) = IsRefusedBy t task plan c n Joint
IsRefusal t task plan c (BadWindow n) = IsRefusedBy t task plan c n Window
IsRefusal t task plan c (BandTooWide n) = IsRefusedBy t task plan c n Band
IsRefusal t task plan c (ProbeOutside n p) = IsRefusedBy t task plan c n (Probe p)

-- what is told of the catalogue: that it fits, or the first rule by which it doesn't
abbrev pub IsFit : {A : Type 0} → Tree → Task → Plan → Catalogue → Result A FitError → Type 0
IsFit t task plan c (Ok x) = Fits t task plan c
IsFit t task plan c (Err e) = IsRefusal t task plan c e
