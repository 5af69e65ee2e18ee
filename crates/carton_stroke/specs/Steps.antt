-- What the steps of judging bodies tell on the way.
use Rattle.std.specs.Prelude.{◌≡◌, ℕ, ◌<◌, List, [], ◌∷◌, length, ℤ, pos, ◌*ℤ◌, Option, None, Some, IfSome}
use Rattle.std.specs.Prelude.{get_or, slice_index_or}
use Rattle.carton_base.specs.Moments.{IsMoment}
use Rattle.carton_base.specs.declared.bodies.Cuboid.{Cuboid}
use Rattle.carton_base.specs.declared.limits.TheConstants.{MOST_PANELS}
use Rattle.carton_base.specs.declared.motion.Motion.{Motion}
use Rattle.carton_base.specs.declared.motion.State.{State}
use Rattle.carton_model.specs.Moves.{fold_at}
use Rattle.carton_place.specs.States.{fold_in}
use Rattle.carton_reach.specs.declared.reach.Reaches.{Reaches}
use Rattle.carton_tree.specs.Trees.{Tree}
use Rattle.carton_part.specs.Answers.{IsHalvedMoment}
use Rattle.carton_part.specs.Looks.{IsReachIn}
use Rattle.carton_part.specs.Parted.{AtEachMoment}
use Rattle.carton_text.specs.PlanMoves.{IsMove, folds_between}
use Rattle.carton_bodies.specs.Bodies.{IsInBody}
use Rattle.carton_bodies.specs.Boxes.{faces}
use Rattle.carton_bodies.specs.declared.extent.Extent.{Extent}
use Rattle.carton_bodies.specs.declared.moving.Moving.{Moving}
use Rattle.carton_stroke.specs.declared.note.BodyNote.{BodyNote}
use Rattle.carton_stroke.specs.declared.note.BodyNote.TheVariants.{Clears, Touches}
use Rattle.carton_stroke.specs.declared.passing.Touch.{Touch}
use Rattle.carton_stroke.specs.Clear.{IsApartFrom, AreApartFrom}
use Rattle.carton_bodies.specs.Extents.{holds}
use Rattle.carton_stroke.specs.Nearness.{SomeApart}
use Rattle.carton_stroke.specs.Notes.{IsTouchingAt}

-- at this moment of its move the panel is parted from the body by more than so many halves
abbrev pub IsPartedAt : Tree → Motion → ℕ → Moving → ℤ → ℕ → ℕ → Type 0
IsPartedAt t motion panel b halves n d = IsApartFrom t (fold_at motion n d) panel (holds b n d) halves

-- and here it isn't
abbrev pub IsUnpartedAt : Tree → Motion → ℕ → Moving → ℤ → ℕ → ℕ → Type 0
IsUnpartedAt t motion panel b halves n d = ¬ (IsPartedAt t motion panel b halves n d)

-- over the whole move each reach that is known is that of its place's panel, in the frame of panel f
pub record AreKnown (t : Tree) (motion : Motion) (f : ℕ) (known : List (Option Reaches)) : Type 0 where
  pub count : length known ≡ MOST_PANELS
  pub each : (p : ℕ) (d : Option Reaches) → p < MOST_PANELS
      → IfSome (get_or known p d) (IsReachIn t motion p f 0 0)

-- the reach is known, and the extents are apart from it
abbrev pub IsKnownApart : Option Reaches → List Extent → Type 0
IsKnownApart None es = ⊥
IsKnownApart (Some r) es = SomeApart r.axes es

-- a panel that touches the body, and at which moment of the move
pub record IsTouch (t : Tree) (motion : Motion) (b : Moving) (slack : ℕ) (x : Touch) : Type 0 where
  pub panel : x.panel.0 < length t.panels
  pub moment : IsHalvedMoment x.moment (IsUnpartedAt t motion x.panel.0 b (pos 2 *ℤ pos slack))

-- the body keeps apart from all panels throughout its move
abbrev pub KeepsApart : Tree → Motion → Moving → Type 0
KeepsApart t motion b = (panel : ℕ) → panel < length t.panels
    → AtEachMoment (IsPartedAt t motion panel b (pos 0))

-- so it is in move i of a plan
abbrev pub KeepsApartIn : Tree → List State → List ℤ → Cuboid → ℕ → Type 0
KeepsApartIn t states stroke box i = (s r : State) → IsMove states i s r → (n d : ℕ) → IsMoment n d
    → AreApartFrom t (folds_between s r n d) (IsInBody (faces box) stroke i n d) (pos 0)

-- what is told of a box before a move: where a panel touches it, or that it kept apart in all moves before
abbrev pub IsNoteBefore : Tree → List State → List ℤ → ℕ → ℕ → Cuboid → BodyNote → Type 0
IsNoteBefore t states stroke slack moves box Clears = (j : ℕ) → j < moves → KeepsApartIn t states stroke box j
IsNoteBefore t states stroke slack moves box (Touches panel step m) =
    IsTouchingAt t states (IsInBody (faces box) stroke) slack panel.0 step m

-- what is told of each of some boxes before a move
pub record AreNotesBefore (t : Tree) (states : List State) (stroke : List ℤ) (slack moves : ℕ)
    (boxes : List Cuboid) (notes : List BodyNote) : Type 0 where
  pub count : length notes ≡ length boxes
  pub each : (k : ℕ) (b : Cuboid) (m : BodyNote) → k < length boxes
      → IsNoteBefore t states stroke slack moves (slice_index_or boxes k b) (slice_index_or notes k m)

-- what is told of a box in a single state: that it keeps apart from all panels, or a panel that touches it
abbrev pub IsNoteAlone : Tree → State → List ℤ → ℕ → Cuboid → BodyNote → Type 0
IsNoteAlone t s stroke slack box Clears =
    AreApartFrom t (fold_in s) (IsInBody (faces box) stroke 0 0 1) (pos 0)
IsNoteAlone t s stroke slack box (Touches panel step m) =
    IsTouchingAt t (s ∷ []) (IsInBody (faces box) stroke) slack panel.0 step m

-- what is told of each of some boxes there
pub record AreNotesAlone (t : Tree) (s : State) (stroke : List ℤ) (slack : ℕ) (boxes : List Cuboid)
    (notes : List BodyNote) : Type 0 where
  pub count : length notes ≡ length boxes
  pub each : (k : ℕ) (b : Cuboid) (m : BodyNote) → k < length boxes
      → IsNoteAlone t s stroke slack (slice_index_or boxes k b) (slice_index_or notes k m)
