-- What the steps of fitting a catalogue tell.
use Rattle.std.specs.Prelude.{ℕ, ◌<◌, List, length, All, Option, Some, None}
use Rattle.carton_base.specs.declared.bodies.Guide.{Guide}
use Rattle.carton_base.specs.declared.dieline.Point.{Point}
use Rattle.carton_base.specs.declared.limits.TheConstants.{MOST_JOINTS}
use Rattle.carton_base.specs.declared.motion.State.{State}
use Rattle.carton_tree.specs.Rules.{IsLeast}
use Rattle.carton_tree.specs.Trees.{Tree}
use Rattle.carton_catalogue.specs.declared.fit_error.FitError.{FitError}
use Rattle.carton_catalogue.specs.declared.fit_error.FitError.TheVariants.{NotAJoint, BadWindow, BandTooWide}
use Rattle.carton_catalogue.specs.declared.fit_error.FitError.TheVariants.{ProbeOutside}
use Rattle.carton_catalogue.specs.declared.fit_error.Misfit.{Misfit}
use Rattle.carton_catalogue.specs.declared.fit_error.Misfit.TheVariants.{Joint, Window, Band, Probe}
use Rattle.carton_catalogue.specs.declared.fitting.Flap.{Flap}
use Rattle.carton_catalogue.specs.Fits.{IsGuided, FitsGuide, IsOutside, IsMisfit, IsFirstMisfit}

-- what is told of a catalogue whose guide n has the misfit
abbrev pub told_of : ℕ → Misfit → FitError
told_of n Joint = NotAJoint n
told_of n Window = BadWindow n
told_of n Band = BandTooWide n
told_of n (Probe p) = ProbeOutside n p

-- a panel of the carton that hangs by the edge, which is a free joint
pub record IsFlap (t : Tree) (e : ℕ) (f : Flap) : Type 0 where
  pub guided : IsGuided t e f.panel.0 f.place
  pub panel : f.panel.0 < length t.panels
  pub place : f.place < MOST_JOINTS

-- what is told of the panel behind an edge
abbrev pub IsFlapAnswer : Tree → ℕ → Option Flap → Type 0
IsFlapAnswer t e None = (flap k : ℕ) → ¬ (IsGuided t e flap k)
IsFlapAnswer t e (Some f) = IsFlap t e f

-- what is told of the first probe that lies outside
abbrev pub IsProbesAnswer : (Point → Type 0) → List Point → Option ℕ → Type 0
IsProbesAnswer IsInside probes None = All IsInside probes
IsProbesAnswer IsInside probes (Some p) = IsLeast (IsOutside IsInside probes) p

-- what is told of a guide: that it fits, or why not
abbrev pub IsGuideAnswer : Tree → List State → Guide → Option Misfit → Type 0
IsGuideAnswer t states g None = FitsGuide t states g
IsGuideAnswer t states g (Some m) = IsMisfit t states g m

-- what is told of guides: that all fit, or which is the first that doesn't, and why
abbrev pub IsGuidesAnswer : Tree → List State → List Guide → Option (ℕ × Misfit) → Type 0
IsGuidesAnswer t states guides None = All (FitsGuide t states) guides
IsGuidesAnswer t states guides (Some p) = IsFirstMisfit t states guides p.0 p.1
