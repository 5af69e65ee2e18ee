-- What is told of bodies during a plan.
use Rattle.std.specs.Prelude.{◌≡◌, ◌⊎◌, ℕ, ◌<◌, List, length, ℤ, pos, ◌*ℤ◌, slice_index_or}
use Rattle.carton_base.specs.declared.bodies.Cuboid.{Cuboid}
use Rattle.carton_base.specs.declared.moments.Moment.{Moment}
use Rattle.carton_base.specs.declared.motion.State.{State}
use Rattle.carton_model.specs.Parting.{Position}
use Rattle.carton_place.specs.States.{fold_in}
use Rattle.carton_tree.specs.Trees.{Tree}
use Rattle.carton_text.specs.declared.plan.Plan.{Plan}
use Rattle.carton_text.specs.PlanMoves.{IsFirst, IsMove, folds_between}
use Rattle.carton_part.specs.Answers.{IsHalvedMoment}
use Rattle.carton_part.specs.Beginnings.{IsBeginning}
use Rattle.carton_bodies.specs.Bodies.{IsInBody}
use Rattle.carton_bodies.specs.Boxes.{faces}
use Rattle.carton_stroke.specs.declared.note.BodyNote.{BodyNote}
use Rattle.carton_stroke.specs.declared.note.BodyNote.TheVariants.{Clears, Touches}
use Rattle.carton_stroke.specs.Clear.{IsApartFrom, IsClearOf, IsSlackClearOf}

-- where a body is at the moment n / d of move i
abbrev pub Places : Type 1
Places = ℕ → ℕ → ℕ → Position → Type 0

-- at this moment of move i no direction parts the panel from the body by more than the slack
abbrev pub IsTouchingMove : Tree → List State → Places → ℕ → ℕ → ℕ → Moment → Type 0
IsTouchingMove t states body slack panel i m = (s r : State) × IsMove states i s r
    × IsHalvedMoment m (λ n d.
    ¬ (IsApartFrom t (folds_between s r n d) panel (body i n d) (pos 2 *ℤ pos slack)))

-- there is one state alone, and in it none does
abbrev pub IsTouchingState : Tree → List State → Places → ℕ → ℕ → ℕ → Moment → Type 0
IsTouchingState t states body slack panel i m = (length states ≡ 1) × (i ≡ 0) × IsBeginning m
    × ((s : State) × IsFirst states s × ¬ (IsApartFrom t (fold_in s) panel (body 0 0 1) (pos 2 *ℤ pos slack)))

-- the panel touches the body, in a move or in the only state
abbrev pub IsTouchingAt : Tree → List State → Places → ℕ → ℕ → ℕ → Moment → Type 0
IsTouchingAt t states body slack panel i m = (panel < length t.panels)
    × (IsTouchingMove t states body slack panel i m ⊎ IsTouchingState t states body slack panel i m)

-- so it is with a box
abbrev pub IsTouching : Tree → Plan → List ℤ → Cuboid → ℕ → ℕ → ℕ → Moment → Type 0
IsTouching t plan stroke box = IsTouchingAt t plan.states (IsInBody (faces box) stroke)

-- what is told of a box: that it clears the plan, or where a panel touches it
abbrev pub IsNoteOf : Tree → Plan → List ℤ → Cuboid → ℕ → BodyNote → Type 0
IsNoteOf t plan stroke box slack Clears = IsClearOf t plan stroke (faces box)
IsNoteOf t plan stroke box slack (Touches panel step m) = IsTouching t plan stroke box slack panel.0 step m

-- what is told of each of some boxes
pub record AreNotesOf (t : Tree) (plan : Plan) (stroke : List ℤ) (boxes : List Cuboid) (slack : ℕ)
    (notes : List BodyNote) : Type 0 where
  pub count : length notes ≡ length boxes
  pub each : (k : ℕ) (b : Cuboid) (m : BodyNote) → k < length boxes
      → IsNoteOf t plan stroke (slice_index_or boxes k b) slack (slice_index_or notes k m)

-- a box from which each panel stays parted by more than the slack is told to clear the plan
abbrev pub SlackClearIsTold : Type 0
SlackClearIsTold = (t : Tree) (plan : Plan) (stroke : List ℤ) (box : Cuboid) (slack : ℕ) (note : BodyNote)
    → IsNoteOf t plan stroke box slack note → IsSlackClearOf t plan stroke (faces box) slack → note ≡ Clears
