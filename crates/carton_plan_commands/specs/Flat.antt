-- What `flat` tells: whether the shrunk panels of a flat dieline are parted.
use Rattle.std.specs.Prelude.{◌≡◌, ◌≢◌, ◌⊎◌, ℕ, ◌<◌, ◌++◌, List, length, codes, All, AllPairs, Contains}
use Rattle.std.specs.Prelude.{Result, Ok, Err, None}
use Rattle.carton_base.specs.declared.dieline.RawDieline.{RawDieline}
use Rattle.carton_panels.specs.Panels.{face_at}
use Rattle.carton_panels.specs.DielinePanels.{panel_places, ArePanels}
use Rattle.carton_panels.specs.Creases.{IsCommonCreaseAnswer}
use Rattle.carton_panels.specs.Flat.{IsFlatParted}
use Rattle.carton_panels.specs.declared.error.PanelError.{PanelError}
use Rattle.carton_panels.specs.declared.error.PanelError.TheVariants.{Memory}
use Rattle.carton_setup.specs.Outcomes.{Outcomes, ◌>>=◌, gives, results}
use Rattle.carton_setup.specs.Printed.{line, spaced}
use Rattle.carton_setup.specs.Rules.{panel_rule}
use Rattle.carton_setup.specs.Setups.{dielines}
use Rattle.carton_setup.specs.Telling.{done, denied}
use Rattle.carton_setup.specs.declared.told.Told.{Told}
use Rattle.carton_tree.specs.Answers.{IsFirstRefused}
use Rattle.carton_words.specs.declared.kinds.FileKind.TheVariants.{Dieline}
use Rattle.carton_plan_commands.specs.declared.flat.FlatVerdict.{FlatVerdict}
use Rattle.carton_plan_commands.specs.declared.flat.FlatVerdict.TheVariants.{Clear, Blocked}

-- what is told: the number of pairs that were judged, or the first pair that isn't parted
abbrev pub told_verdict : FlatVerdict → Told
told_verdict (Clear pairs) = done (line (codes "clear" ++ spaced pairs))
told_verdict (Blocked a b) = denied (line (codes "blocked" ++ spaced a.0 ++ spaced b.0))

-- two panels share no crease, so that they are to be parted
abbrev pub AreJudged : RawDieline → ℕ → ℕ → Type 0
AreJudged d a b = (a < b) × (b < length d.faces)
    × IsCommonCreaseAnswer d (face_at d a).corners (face_at d b).corners None

abbrev pub AreParted : ℕ → RawDieline → ℕ → ℕ → Type 0
AreParted m d a b = IsFlatParted m (panel_places d a) m (panel_places d b)

-- pairs stand in the order of their first panels, and with one first panel in the order of their second
abbrev pub IsBefore : ℕ × ℕ → ℕ × ℕ → Type 0
IsBefore p q = (p.0 < q.0) ⊎ ((p.0 ≡ q.0) × (p.1 < q.1))

-- the list of all pairs to be parted, in order
pub record IsAllPairs (d : RawDieline) (pairs : List (ℕ × ℕ)) : Type 0 where
  pub ordered : AllPairs IsBefore pairs
  pub judged : All (λ p. AreJudged d p.0 p.1) pairs
  pub whole : (a b : ℕ) → AreJudged d a b → Contains pairs (a, b)

-- the answer for a dieline whose faces are all panels: so many pairs and all are parted, or the first that
-- isn't
abbrev pub IsVerdict : ℕ → RawDieline → FlatVerdict → Type 0
IsVerdict m d (Clear count) = ((a b : ℕ) → AreJudged d a b → AreParted m d a b)
    × ((pairs : List (ℕ × ℕ)) × IsAllPairs d pairs × (count ≡ length pairs))
IsVerdict m d (Blocked a b) = AreJudged d a.0 b.0 × ¬ (AreParted m d a.0 b.0)
    × ((k l : ℕ) → IsBefore (k, l) (a.0, b.0) → AreJudged d k l → AreParted m d k l)

-- what came of judging a dieline: a verdict where all faces are panels, and else why the first that is none
-- is refused
abbrev pub IsJudged : ℕ → RawDieline → Result FlatVerdict PanelError → Type 0
IsJudged m d (Ok verdict) = ArePanels m d (length d.faces) × IsVerdict m d verdict
IsJudged m d (Err e) = e ≢ Memory → IsFirstRefused m d e

abbrev pub verdicts : ℕ → RawDieline → Outcomes FlatVerdict
verdicts m d = results Dieline panel_rule (IsJudged m d)

-- what `flat` may tell with this margin for the bytes of its files
abbrev pub tells_flat : ℕ → List (List ℕ) → Outcomes Told
tells_flat m files = do
  d ← dielines files
  verdict ← verdicts m d
  gives (told_verdict verdict)
