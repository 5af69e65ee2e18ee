-- What is told of bodies move by move, and what it tells of a plan.
use Rattle.std.proofs.Common.{◌≡◌, ◌∙◌, refl, sym, ap, subst, inl, inr, ℕ, ◌+◌, ◌^◌, ◌<◌, ◌≤◌, List, [], ◌∷◌}
use Rattle.std.proofs.Common.{length, get_or, ℤ, pos, ◌*ℤ◌, arith, below_more}
use Rattle.std.specs.Prelude.{slice_get}
use Rattle.std.proofs.lemmas.List.{get_or_default}
use Rattle.std.proofs.lemmas.Option.{same_Some, slice_get_within}
use Rattle.carton_base.specs.Moments.{IsMoment, InPiece}
use Rattle.carton_base.specs.declared.bodies.Cuboid.{Cuboid}
use Rattle.carton_base.specs.declared.moments.Moment.{Moment}
use Rattle.carton_base.specs.declared.motion.Motion.{Motion}
use Rattle.carton_base.specs.declared.motion.State.{State}
use Rattle.carton_model.specs.HalfTurns.{Fold}
use Rattle.carton_model.specs.Parting.{Position}
use Rattle.carton_place.specs.States.{fold_in}
use Rattle.carton_place.proofs.Still.{first_folds}
use Rattle.carton_tree.specs.Trees.{Tree}
use Rattle.carton_text.specs.declared.plan.Plan.{Plan}
use Rattle.carton_text.specs.PlanMoves.{IsMove, folds_between}
use Rattle.carton_text.proofs.PlanMoves.{of_move}
use Rattle.carton_reach.specs.Reaches.{Within}
use Rattle.carton_part.specs.Beginnings.{IsBeginning}
use Rattle.carton_part.proofs.Alike.{alike_self, not_beyond}
use Rattle.carton_part.proofs.Finer.{still}
use Rattle.carton_bodies.specs.Bodies.{IsInBody}
use Rattle.carton_bodies.specs.Boxes.{faces}
use Rattle.carton_bodies.specs.declared.moving.Moving.{Moving}
use Rattle.carton_stroke.specs.declared.note.BodyNote.{BodyNote}
use Rattle.carton_stroke.specs.declared.note.BodyNote.TheVariants.{Clears, Touches}
use Rattle.carton_stroke.specs.declared.passing.Touch.{Touch}
use Rattle.carton_stroke.specs.Clear.{IsApartFrom, AreApartFrom, IsClearAt}
use Rattle.carton_bodies.specs.Extents.{holds}
use Rattle.carton_stroke.specs.Notes.{IsNoteOf, IsTouchingAt, SlackClearIsTold}
use Rattle.carton_stroke.specs.Steps.{IsNoteAlone, IsNoteBefore, IsPartedAt, IsTouch, KeepsApart}
use Rattle.carton_stroke.specs.Steps.{KeepsApartIn}

-- a body from which each panel is parted holds no point of one
clear_at : (t : Tree) (folds : ℕ → Fold) (body : Position → Type 0) → AreApartFrom t folds body (pos 0)
    → IsClearAt t folds body
clear_at t folds body h = λ panel q lt hp hb. let x = h panel lt in
    not_beyond x.0 x.1 x.2 q q (alike_self q) (x.4 q q hp hb)

-- a body that is slack-clear touches nothing
pub slack_clear_told : SlackClearIsTold
slack_clear_told t plan stroke box slack Clears h s = refl
slack_clear_told t plan stroke box slack (Touches panel step m) h s = absurd (elim h.1 [
  | inl x ↦ let y = x.3 in y.there (s.moves step x.0 x.1 x.2 y.n (2 ^ y.depth) y.moment panel.0 h.0)
  | inr x ↦ let y = x.3 in y.2 (s.alone y.0 x.0 y.1 panel.0 h.0)
])

keeps_in : (t : Tree) (states : List State) (motion : Motion) (b : Moving)
    → IsMove states b.step motion.from motion.to → KeepsApart t motion b
    → KeepsApartIn t states b.stroke b.shape b.step
keeps_in t states motion b is h =
    λ s r m. of_move (λ x y. (n d : ℕ) → IsMoment n d
    → AreApartFrom t (folds_between x y n d) (holds b n d) (pos 0)) states b.step motion.from motion.to s r is
    m (λ n d at panel lt. h panel lt n d at)

pub touched_in : (t : Tree) (states : List State) (motion : Motion) (b : Moving) (slack : ℕ) (x : Touch)
    → IsMove states b.step motion.from motion.to → IsTouch t motion b slack x
    → IsTouchingAt t states (IsInBody (faces b.shape) b.stroke) slack x.panel.0 b.step x.moment
touched_in t states motion b slack x is h = (h.panel, inl (motion.from, motion.to, is, h.moment))

pub kept_in : (t : Tree) (states : List State) (motion : Motion) (b : Moving) (slack : ℕ)
    → IsMove states b.step motion.from motion.to → KeepsApart t motion b
    → IsNoteBefore t states b.stroke slack b.step b.shape Clears
    → IsNoteBefore t states b.stroke slack (b.step + 1) b.shape Clears
kept_in t states motion b slack is h before =
    below_more (KeepsApartIn t states b.stroke b.shape) b.step before (keeps_in t states motion b is h)

-- before the first move nothing was looked at
pub none_before : (t : Tree) (states : List State) (stroke : List ℤ) (slack : ℕ) (box : Cuboid)
    (note : BodyNote) → note ≡ Clears → IsNoteBefore t states stroke slack 0 box note
none_before t states stroke slack box note e =
    subst (IsNoteBefore t states stroke slack 0 box) (sym e) (λ j lt. absurd (omega (arith, lt)))

-- past the last move there is none
pub none_past : (t : Tree) (states : List State) (stroke : List ℤ) (slack i j : ℕ) (box : Cuboid)
    (note : BodyNote) → length states ≤ i + 1 → IsNoteBefore t states stroke slack i box note
    → IsNoteBefore t states stroke slack j box note
none_past t states stroke slack i j box Clears end h =
    λ k lt s r m. let w = slice_get_within states (k + 1) r m.to in h k (omega (arith, w, end)) s r m
none_past t states stroke slack i j box (Touches panel step m) end h = h

-- what is told after all moves of two or more states
pub note_of_moves : (t : Tree) (plan : Plan) (stroke : List ℤ) (slack : ℕ) (box : Cuboid) (note : BodyNote)
    → 2 ≤ length plan.states → IsNoteBefore t plan.states stroke slack (length plan.states) box note
    → IsNoteOf t plan stroke box slack note
note_of_moves t plan stroke slack box Clears two h = record {
  moves = λ i s r m n d at. let w = slice_get_within plan.states (i + 1) r m.to in
      clear_at t (folds_between s r n d) _ (h i (omega (arith, w)) s r m n d at);
  alone = λ s one f. absurd (omega (arith, two, one));
}
note_of_moves t plan stroke slack box (Touches panel step m) two h = h

-- what is told of a single state
pub note_of_one : (t : Tree) (plan : Plan) (s : State) (stroke : List ℤ) (slack : ℕ) (box : Cuboid)
    (note : BodyNote) → plan.states ≡ s ∷ [] → IsNoteAlone t s stroke slack box note
    → IsNoteOf t plan stroke box slack note
note_of_one t plan s stroke slack box Clears e h = record {
  moves = λ i x y m n d at. let w = slice_get_within plan.states (i + 1) y m.to in
      let k = ap (λ xs. length xs) e in absurd (omega (arith, w, k));
  alone =
      λ x one f. clear_at t (fold_in x) _
      (subst (λ y. AreApartFrom t (fold_in y) (IsInBody (faces box) stroke 0 0 1) (pos 0))
      (same_Some s x (sym (ap (λ xs. slice_get xs 0) e) ∙ f)) h);
}
note_of_one t plan s stroke slack box (Touches panel step m) e h =
    subst (λ xs. IsTouchingAt t xs (IsInBody (faces box) stroke) slack panel.0 step m) (sym e) h

-- a list of one state
pub one_state : (states : List State) (s : State) → length states ≡ 1 → s ≡ get_or states 0 s
    → states ≡ s ∷ []
one_state [] s one is = absurd (omega (arith, one))
one_state (x ∷ []) s one is = ap (λ z. z ∷ []) (sym is)
one_state (x ∷ y ∷ states) s one is = absurd (omega (arith, one))

-- what is told of a box after a move, where the notes are read at defaults of their own
pub after_move : (t : Tree) (states : List State) (stroke : List ℤ) (slack i : ℕ) (boxes : List Cuboid)
    (old new : List BodyNote) (k : ℕ) (x : BodyNote) (a : Cuboid) (r : BodyNote) (b : Cuboid) (d : BodyNote)
    → k < length boxes → k < length new → get_or new k d ≡ get_or old k d → r ≡ get_or new k r
    → (IsNoteBefore t states stroke slack i (get_or boxes k a) r
    → IsNoteBefore t states stroke slack (i + 1) (get_or boxes k a) x)
    → IsNoteBefore t states stroke slack i (get_or boxes k b) (get_or old k d)
    → IsNoteBefore t states stroke slack (i + 1) (get_or boxes k b) x
after_move t states stroke slack i boxes old new k x a r b d lb ln same is step before =
    subst (λ box. IsNoteBefore t states stroke slack (i + 1) box x) (get_or_default boxes k a b lb)
    (step (subst (λ m. IsNoteBefore t states stroke slack i (get_or boxes k a) m)
    (sym same ∙ get_or_default new k d r ln ∙ sym is)
    (subst (λ box. IsNoteBefore t states stroke slack i box (get_or old k d))
    (get_or_default boxes k b a lb) before)))

-- the moment 0 / 1 is in the first of the smallest pieces
beginning : IsMoment 0 1
beginning = record { within = omega arith; some = omega arith }

first_piece : InPiece 0 36 0 1
first_piece = record { from = omega arith; upto = omega arith }

-- what holds in that piece of the move that stands still holds in the state
pub parted_in_state : (t : Tree) (s : State) (panel : ℕ) (b : Moving) → b.step ≡ 0
    → Within 0 36 (IsPartedAt t (still s) panel b (pos 0))
    → IsApartFrom t (fold_in s) panel (IsInBody (faces b.shape) b.stroke 0 0 1) (pos 0)
parted_in_state t s panel b e h =
    subst (λ i. IsApartFrom t (fold_in s) panel (IsInBody (faces b.shape) b.stroke i 0 1) (pos 0)) e
    (subst (λ folds. IsApartFrom t folds panel (holds b 0 1) (pos 0)) (first_folds (still s))
    (h 0 1 beginning first_piece))

pub touching_in_state : (t : Tree) (s : State) (panel slack : ℕ) (b : Moving) (m : Moment) → b.step ≡ 0
    → panel < length t.panels → IsBeginning m
    → Within 0 36 (λ n d. ¬ (IsPartedAt t (still s) panel b (pos 2 *ℤ pos slack) n d))
    → IsTouchingAt t (s ∷ []) (IsInBody (faces b.shape) b.stroke) slack panel 0 m
touching_in_state t s panel slack b m e lt begins h = (
  lt,
  inr (
    refl,
    refl,
    begins,
    (
      s,
      refl,
      subst (λ i.
          ¬ (IsApartFrom t (fold_in s) panel (IsInBody (faces b.shape) b.stroke i 0 1) (pos 2 *ℤ pos slack)))
          e
          (subst (λ folds. ¬ (IsApartFrom t folds panel (holds b 0 1) (pos 2 *ℤ pos slack)))
          (first_folds (still s)) (h 0 1 beginning first_piece)),
    ),
  ),
)
