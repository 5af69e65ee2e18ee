-- What the answers of a check imply.
use Rattle.std.proofs.Common.{◌≡◌, refl, subst, inl, inr, ℕ, ◌*◌, ◌^◌, pos, ◌*ℤ◌, ◌≤ℤ◌, arith}
use Rattle.std.proofs.lemmas.Int.{ints}
use Rattle.carton_base.specs.Moments.{IsMoment}
use Rattle.carton_base.specs.declared.moments.Moment.{Moment}
use Rattle.carton_base.specs.declared.motion.State.{State}
use Rattle.carton_halfturn.proofs.Sizes.{grid_bounds}
use Rattle.carton_model.specs.HalfTurns.{Fold}
use Rattle.carton_place.specs.States.{fold_in}
use Rattle.carton_tree.specs.Cartons.{IsCarton}
use Rattle.carton_tree.specs.Trees.{Tree}
use Rattle.carton_text.specs.declared.plan.Plan.{Plan}
use Rattle.carton_text.specs.declared.task.Task.{Task}
use Rattle.carton_text.specs.PlanMoves.{folds_between}
use Rattle.carton_text.specs.TaskPlans.{HasMoves}
use Rattle.carton_part.specs.Parted.{AreAllParted}
use Rattle.carton_part.specs.Points.{HaveDens}
use Rattle.carton_part.proofs.Less.{parted_by_less}
use Rattle.carton_part.proofs.Seen.{parted_apart}
use Rattle.carton_check.specs.declared.checked.Checked.{Checked}
use Rattle.carton_check.specs.declared.checked.Checked.TheVariants.{WrongCreases, WrongStart, WrongEnd}
use Rattle.carton_check.specs.declared.checked.Checked.TheVariants.{NotOneStop, Blocked, Holds}
use Rattle.carton_check.specs.Checks.{IsBlockedAt, IsChecked}
use Rattle.carton_check.specs.Sound.{NoneMeet, IsSound, KeepsApart}
use Rattle.carton_check.specs.Steps.{AreJudged}

-- what is told of the states of a plan with the right ends and moves is the answer
pub judged_checked : (t : Tree) (task : Task) (plan : Plan) (answer : Checked) → HasMoves task plan
    → AreJudged t task.slack plan.states answer → IsChecked t task plan answer
judged_checked t task plan WrongCreases has told = absurd told
judged_checked t task plan WrongStart has told = absurd told
judged_checked t task plan WrongEnd has told = absurd told
judged_checked t task plan (NotOneStop i) has told = absurd told
judged_checked t task plan (Blocked i a b m) has told = (has, told)
judged_checked t task plan (Holds moves) has told = (has, told)

none_meet : (t : Tree) (folds : ℕ → Fold) → IsCarton t → HaveDens folds → AreAllParted t folds (pos 0)
    → NoneMeet t folds
none_meet t folds c h all = λ a b s. let o = s.ordered in let p = s.panels in
    parted_apart t folds a b c h (omega (arith, o, p)) p (all a b s)

dens_in : (s : State) → HaveDens (fold_in s)
dens_in s k = let g = (grid_bounds s.grid s.on_grid).0 in omega (arith, g)

dens_between : (s r : State) (n d : ℕ) → IsMoment n d → HaveDens (folds_between s r n d)
dens_between s r n d m k =
    let g = dens_in s k in
    let e = m.some in
    grind arith

-- a plan that holds is sound
holds_sound : (t : Tree) (task : Task) (plan : Plan) (moves : ℕ) → IsCarton t
    → IsChecked t task plan (Holds moves) → IsSound t task plan
holds_sound t task plan moves c h =
    let keeps = h.1.1 in
    record {
      creases = h.0.0.0.0;
      start = h.0.0.0.1;
      target = h.0.0.1;
      moves = h.0.1;
      apart = record {
        first = λ s e. none_meet t (fold_in s) c (dens_in s) (keeps.first s e);
        moves = λ i s r m n d at. none_meet t (folds_between s r n d) c (dens_between s r n d at)
            (keeps.moves i s r m n d at);
      };
    }

pub sound_where : (t : Tree) (task : Task) (plan : Plan) (answer : Checked) → IsCarton t
    → IsChecked t task plan answer → (moves : ℕ) → answer ≡ Holds moves → IsSound t task plan
sound_where t task plan answer c told moves e =
    holds_sound t task plan moves c (subst (λ a. IsChecked t task plan a) e told)

half_slack : (slack : ℕ) → pos slack ≤ℤ (pos 2 *ℤ pos slack)
half_slack slack = omega (arith, ints)

-- states that keep apart by more than the slack aren't blocked
not_blocked : (t : Tree) (task : Task) (plan : Plan) (i a b : ℕ) (m : Moment)
    → KeepsApart t plan.states (pos 2 *ℤ pos task.slack) → ¬ (IsBlockedAt t task.slack plan.states i a b m)
not_blocked t task plan i a b m keeps told = elim told.1 [
  | inl x ↦
      let h = x.3 in
      h.there (parted_by_less t _ a b (pos 2 *ℤ pos task.slack) (pos task.slack)
      (keeps.moves i x.0 x.1 x.2 h.n (2 ^ h.depth) h.moment a b told.0) (half_slack task.slack))
  | inr x ↦
      let h = x.3 in
      h.2 (parted_by_less t (fold_in h.0) a b (pos 2 *ℤ pos task.slack) (pos task.slack)
      (keeps.first h.0 h.1 a b told.0) (half_slack task.slack))
]

-- a plan with the right ends and moves that keeps apart by more than the slack holds
pub clear_holds : (t : Tree) (task : Task) (plan : Plan) (answer : Checked) → IsChecked t task plan answer
    → HasMoves task plan → KeepsApart t plan.states (pos 2 *ℤ pos task.slack) → (moves : ℕ)
    × (answer ≡ Holds moves)
clear_holds t task plan WrongCreases told has keeps = absurd (told has.0.0.0)
clear_holds t task plan WrongStart told has keeps = absurd (told.1 has.0.0.1)
clear_holds t task plan WrongEnd told has keeps = absurd (told.1 has.0.1)
clear_holds t task plan (NotOneStop i) told has keeps = absurd (told.1 (has.1 i))
clear_holds t task plan (Blocked i a b m) told has keeps =
    absurd (not_blocked t task plan i a.0 b.0 m keeps told.1)
clear_holds t task plan (Holds moves) told has keeps = (moves, refl)
