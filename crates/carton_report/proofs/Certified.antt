-- What is known of a move is known of the states between which it goes.
use Rattle.std.proofs.Common.{ℕ, List, pos, ◌-ℤ◌, ◌*ℤ◌}
use Rattle.carton_base.specs.Moments.{IsMoment}
use Rattle.carton_base.specs.declared.motion.Motion.{Motion}
use Rattle.carton_base.specs.declared.motion.State.{State}
use Rattle.carton_tree.specs.Trees.{Tree}
use Rattle.carton_part.specs.Parted.{AreAllParted}
use Rattle.carton_text.specs.PlanMoves.{IsMove, folds_between}
use Rattle.carton_text.proofs.PlanMoves.{of_move}
use Rattle.carton_report.specs.declared.tightest.Tight.{Tight}
use Rattle.carton_report.specs.Clearances.{IsCertified, IsTightest}
use Rattle.carton_report.specs.Tightest.{AllStayClear, IsTight}

pub certified : (t : Tree) (states : List State) (i clear : ℕ) (m : Motion) → IsMove states i m.from m.to
    → AllStayClear t m clear → IsCertified t states i clear
certified t states i clear m is h =
    λ s r n. of_move (λ x y. (k d : ℕ) → IsMoment k d
    → AreAllParted t (folds_between x y k d) (pos 2 *ℤ (pos clear -ℤ pos 1))) states i m.from m.to s r is n
    (λ k d at a b apart. h a b apart k d at)

pub tightest : (t : Tree) (states : List State) (i : ℕ) (m : Motion) (tight : Tight)
    → IsMove states i m.from m.to → IsTight t m tight → AllStayClear t m tight.clear
    → IsTightest t states i tight.clear tight.a.0 tight.b.0 tight.moment
tightest t states i m tight is h all = record {
  narrow = h.narrow;
  certified = certified t states i tight.clear m is all;
  strangers = h.strangers;
  near = (m.from, m.to, is, h.near);
}
