-- What the move that stands still in a state tells of the state.
use Rattle.std.proofs.Common.{◌≡◌, ℕ, subst, pos, ◌+ℤ◌, ◌*ℤ◌, arith}
use Rattle.std.proofs.lemmas.Int.{ints}
use Rattle.carton_base.specs.declared.moments.Moment.{Moment}
use Rattle.carton_base.specs.declared.motion.State.{State}
use Rattle.carton_place.specs.States.{fold_in}
use Rattle.carton_place.proofs.Still.{first_folds}
use Rattle.carton_tree.specs.Trees.{Tree}
use Rattle.carton_part.specs.Answers.{AreUnparted, StayAllParted}
use Rattle.carton_part.specs.Parted.{ArePartedBy, AreAllParted}
use Rattle.carton_part.proofs.Finer.{still, parted_while_still}

pub clear_still : (t : Tree) (s : State) → StayAllParted t (still s) (pos 0)
    → AreAllParted t (fold_in s) (pos 0)
clear_still t s h = subst (λ folds. AreAllParted t folds (pos 0)) (first_folds (still s))
    (h 0 1 (record { within = omega arith; some = omega arith }))

pub blocked_still : (t : Tree) (s : State) (a b slack : ℕ) (m : Moment)
    → AreUnparted t (still s) a b (pos 0) slack m → ¬ (ArePartedBy t (fold_in s) a b (pos slack))
blocked_still t s a b slack m h parted =
    let none : pos slack ≡ pos 2 *ℤ pos 0 +ℤ pos slack = omega (arith, ints) in
    h.there (parted_while_still t s h.n _ a b (pos 2 *ℤ pos 0 +ℤ pos slack) h.moment.some
    (subst (λ z. ArePartedBy t (fold_in s) a b z) none parted))
