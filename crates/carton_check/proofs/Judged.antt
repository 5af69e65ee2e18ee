-- What verdicts on moves tell of the states between which they go.
use Rattle.std.proofs.Common.{◌≡◌, refl, subst, inl, inr, ℕ, ◌+◌, ◌<◌, ◌≤◌, List, [], ◌∷◌, length, get_or, ℤ}
use Rattle.std.proofs.Common.{pos, ◌+ℤ◌, ◌*ℤ◌, arith}
use Rattle.std.proofs.lemmas.Int.{ints}
use Rattle.std.proofs.lemmas.Option.{same_Some, slice_get_within, slice_get-get_or}
use Rattle.carton_base.specs.Moments.{IsMoment}
use Rattle.carton_base.specs.declared.moments.Moment.{Moment}
use Rattle.carton_base.specs.declared.motion.Motion.{Motion}
use Rattle.carton_base.specs.declared.motion.State.{State}
use Rattle.carton_model.specs.Moves.{fold_at}
use Rattle.carton_place.specs.States.{fold_in}
use Rattle.carton_place.proofs.Still.{first_folds}
use Rattle.carton_tree.specs.Trees.{Tree}
use Rattle.carton_part.specs.Answers.{IsHalvedMoment, AreBlocked, StayAllParted}
use Rattle.carton_part.specs.Beginnings.{IsBeginning}
use Rattle.carton_part.specs.Parted.{ArePartedBy, AreAllParted}
use Rattle.carton_part.proofs.Finer.{still}
use Rattle.carton_part.proofs.Still.{clear_still, blocked_still}
use Rattle.carton_check.specs.Checks.{IsBlockedAt, DoHold}
use Rattle.carton_text.specs.PlanMoves.{IsMove, folds_between, AreMoves}
use Rattle.carton_text.proofs.PlanMoves.{of_move}

-- a single state whose panels keep apart
pub holds_alone : (t : Tree) (s : State) → StayAllParted t (still s) (pos 0) → DoHold t (s ∷ []) 0
holds_alone t s h = (
  refl,
  record {
    first = λ x e. subst (λ y. AreAllParted t (fold_in y) (pos 0)) (same_Some s x e) (clear_still t s h);
    moves = λ i x y m. let w = slice_get_within (s ∷ []) (i + 1) y m.to in absurd (omega (arith, w));
  },
)

pub blocked_alone : (t : Tree) (s : State) (a b slack : ℕ) (m first : Moment)
    → AreBlocked t (still s) a b slack m → IsBeginning first → IsBlockedAt t slack (s ∷ []) 0 a b first
blocked_alone t s a b slack m first h begins =
    (h.0, inr (refl, refl, begins, (s, refl, blocked_still t s a b slack m h.1)))

-- at every moment of move i all panels that share no crease keep apart
abbrev pub KeepsMove : Tree → List State → ℕ → Type 0
KeepsMove t states i = (s r : State) → IsMove states i s r → (n d : ℕ) → IsMoment n d
    → AreAllParted t (folds_between s r n d) (pos 0)

pub keeps_move : (t : Tree) (states : List State) (i : ℕ) (m : Motion) → IsMove states i m.from m.to
    → StayAllParted t m (pos 0) → KeepsMove t states i
keeps_move t states i m is h =
    λ s r n. of_move (λ x y. (n d : ℕ) → IsMoment n d → AreAllParted t (folds_between x y n d) (pos 0)) states
    i m.from m.to s r is n h

pub blocked_move : (t : Tree) (states : List State) (i a b slack : ℕ) (m : Motion) (at : Moment)
    → IsMove states i m.from m.to → AreBlocked t m a b slack at → IsBlockedAt t slack states i a b at
blocked_move t states i a b slack m at is h =
    let none : pos 2 *ℤ pos 0 +ℤ pos slack ≡ pos slack = omega (arith, ints) in (
      h.0,
      inl (
        m.from,
        m.to,
        is,
        subst (λ z. IsHalvedMoment at (λ n d. ¬ (ArePartedBy t (fold_at m n d) a b z)))
            none h.1,
      ),
    )

-- all moves keep apart, so the first state does, from which the first move goes
pub holds_throughout : (t : Tree) (states : List State) (moves : ℕ) → AreMoves states → 2 ≤ length states
    → moves + 1 ≡ length states → ((i : ℕ) → i < moves → KeepsMove t states i) → DoHold t states moves
holds_throughout t states moves are two count all = (
  count,
  record {
    first = λ s e.
        let r = get_or states 1 s in
        let m : IsMove states 0 s r = record {
          from = e;
          to = slice_get-get_or states 1 s (omega (arith, two));
        } in
        let kept = all 0 (omega (arith, two, count)) s r m 0 1
        (record { within = omega arith; some = omega arith }) in
        subst (λ folds. AreAllParted t folds (pos 0))
        (first_folds (record { from = s; to = r; one_grid = are.one_grid 0 s r m })) kept;
    moves = λ i s r m. let w = slice_get_within states (i + 1) r m.to in
        all i (omega (arith, w, count)) s r m;
  },
)
