-- What is told of a guide: that its flap is held at both ends of its band, or a moment of one end at which no
-- probe is well held.
use Rattle.std.specs.Prelude.{ℕ, List, Bool, ℤ, pos}
use Rattle.carton_base.specs.declared.bodies.Cuboid.{Cuboid}
use Rattle.carton_base.specs.declared.bodies.Guide.{Guide}
use Rattle.carton_base.specs.declared.moments.Moment.{Moment}
use Rattle.carton_base.specs.declared.motion.State.{State}
use Rattle.carton_tree.specs.Trees.{Tree}
use Rattle.carton_text.specs.declared.plan.Plan.{Plan}
use Rattle.carton_text.specs.PlanMoves.{IsMove}
use Rattle.carton_part.specs.Answers.{IsHalvedMoment}
use Rattle.carton_part.specs.Parted.{AtEachMoment}
use Rattle.carton_catalogue.specs.Fits.{IsGuided}
use Rattle.carton_guide.specs.declared.note.End.{End}
use Rattle.carton_guide.specs.declared.note.GuideNote.{GuideNote}
use Rattle.carton_guide.specs.declared.note.GuideNote.TheVariants.{Held, Unheld}
use Rattle.carton_guide.specs.Bands.{banded_folds}
use Rattle.carton_guide.specs.Guides.{InWindow}
use Rattle.carton_guide.specs.Holding.{IsHeldAt, AreLoose, IsOneDeep}

-- the chosen bodies hold the flap at this end at every moment of the move from s to r, which is move i
abbrev pub IsHeldThrough : Tree → Guide → List ℤ → List Cuboid → List Bool → ℕ → ℕ → End → ℕ → State → State
    → Type 0
IsHeldThrough t g stroke bodies chosen flap place end i s r =
    AtEachMoment (λ n d. IsHeldAt t (banded_folds end g.band place s r n d) flap stroke bodies chosen i n d)

-- they hold it at both ends at every moment of every move of the window
abbrev pub IsHeld : Tree → List State → Guide → List ℤ → List Cuboid → List Bool → Type 0
IsHeld t states g stroke bodies chosen = (flap place : ℕ) × IsGuided t g.edge.0 flap place
    × ((i : ℕ) (s r : State) (end : End) → InWindow g i → IsMove states i s r
    → IsHeldThrough t g stroke bodies chosen flap place end i s r)

-- they hold it well: at both ends at every such moment some probe is deeper than the gap in a chosen body
abbrev pub IsWellHeld : Tree → List State → Guide → List ℤ → List Cuboid → List Bool → ℤ → Type 0
IsWellHeld t states g stroke bodies chosen gap = (flap place : ℕ) × IsGuided t g.edge.0 flap place
    × ((i : ℕ) (s r : State) (end : End) → InWindow g i → IsMove states i s r
    → AtEachMoment (λ n d. IsOneDeep t (banded_folds end g.band place s r n d) flap g.probes gap stroke
    bodies chosen i n d))

-- at this moment of move i, at this end, no probe is deeper than the gap in a chosen body
abbrev pub IsLooseDuring : Tree → List State → Guide → List ℤ → List Cuboid → List Bool → ℤ → ℕ → ℕ → End → ℕ
    → Moment → Type 0
IsLooseDuring t states g stroke bodies chosen gap flap place end i m = (s r : State) × IsMove states i s r
    × IsHalvedMoment m (λ n d. AreLoose t (banded_folds end g.band place s r n d) flap g.probes gap stroke
    bodies chosen i n d)

-- and move i is one of the window
abbrev pub IsLooseAt : Tree → List State → Guide → List ℤ → List Cuboid → List Bool → ℤ → End → ℕ → Moment
    → Type 0
IsLooseAt t states g stroke bodies chosen gap end i m = (flap place : ℕ) × IsGuided t g.edge.0 flap place
    × InWindow g i × IsLooseDuring t states g stroke bodies chosen gap flap place end i m

-- what is told of the guide in a plan
abbrev pub IsGuideNote : Tree → Plan → Guide → List ℤ → List Cuboid → List Bool → ℕ → GuideNote → Type 0
IsGuideNote t plan g stroke bodies chosen slack Held = IsHeld t plan.states g stroke bodies chosen
IsGuideNote t plan g stroke bodies chosen slack (Unheld end i m) =
    IsLooseAt t plan.states g stroke bodies chosen (pos slack) end i m
