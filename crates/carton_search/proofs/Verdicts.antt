-- What the verdicts of a judge say of moves and of states.
use Rattle.std.proofs.Common.{ℕ, ◌^◌, pos, ◌+ℤ◌, ◌*ℤ◌, arith}
use Rattle.std.proofs.lemmas.Int.{ints}
use Rattle.carton_base.specs.declared.moments.Moment.{Moment}
use Rattle.carton_base.specs.declared.motion.State.{State}
use Rattle.carton_tree.specs.Trees.{Tree}
use Rattle.carton_part.specs.Answers.{IsHalvedMoment}
use Rattle.carton_part.proofs.Less.{parted_by_less}
use Rattle.carton_part.specs.Parted.{AreStrangers, ArePartedBy, AreAllParted, AtEachMoment}
use Rattle.carton_place.specs.States.{fold_in}
use Rattle.carton_text.specs.declared.task.Task.{Task}
use Rattle.carton_search.specs.Clear.{folds_between, StayApart, AreApart, slack_of}
use Rattle.carton_search.specs.Ends.{AreBlockedAt}

pub clear_move : (t : Tree) (a b : State)
    → AtEachMoment (λ n d. AreAllParted t (folds_between a b n d) (pos 0)) → StayApart t (pos 0) a b
unfolding StayApart
clear_move t a b h = h

-- a blocked move isn't clear by the slack
pub blocked_move : (t : Tree) (a b : State) (x y slack : ℕ) (at : Moment) → AreStrangers t x y
    → IsHalvedMoment at (λ n d. ¬ (ArePartedBy t (folds_between a b n d) x y (pos 2 *ℤ pos 0 +ℤ pos slack)))
    → StayApart t (pos 2 *ℤ pos slack) a b → ⊥
unfolding StayApart
blocked_move t a b x y slack at strangers near apart =
    near.there (parted_by_less t (folds_between a b near.n (2 ^ near.depth)) x y (pos 2 *ℤ pos slack)
    (pos 2 *ℤ pos 0 +ℤ pos slack) (apart near.n (2 ^ near.depth) near.moment x y strangers)
    (omega (arith, ints)))

pub clear_state : (t : Tree) (s : State) → AreAllParted t (fold_in s) (pos 0) → AreApart t (pos 0) s
unfolding AreApart
clear_state t s h = h

-- a blocked state isn't clear by the slack
pub blocked_state : (task : Task) (t : Tree) (s : State) (a b : ℕ) → AreBlockedAt task t s a b
    → AreApart t (slack_of task) s → ⊥
unfolding AreApart
blocked_state task t s a b blocked apart =
    blocked.1 (parted_by_less t (fold_in s) a b (pos 2 *ℤ pos task.slack) (pos task.slack)
    (apart a b blocked.0) (omega (arith, ints)))
