-- Of a plan that is told, and that one is told where a path is in reach.
use Rattle.std.proofs.Common.{◌≡◌, inl, inr, ℕ, List, refl, sym, ◌∙◌, ap, subst, Result, Ok, Err}
use Rattle.carton_base.specs.declared.motion.State.{State}
use Rattle.carton_search.proofs.Budget.{budget}
use Rattle.carton_search.proofs.Same.{same_slack_path}
use Rattle.carton_search.specs.Paths.{IsSlackPath, IsWithinTurns, moves_of}
use Rattle.carton_search.specs.declared.search_end.SearchEnd.TheVariants.{StartBlocked as BlockedEnd}
use Rattle.carton_search.specs.declared.search_end.SearchEnd.TheVariants.{OutOfTurns as TurnsEnd}
use Rattle.carton_setup.proofs.OneSetup.{are_alike, excludes_setups}
use Rattle.carton_setup.proofs.Outcomes.{passed, same_value, not_bad, never_told}
use Rattle.carton_setup.specs.Outcomes.{◌>>=◌, gives, values}
use Rattle.carton_setup.specs.Setups.{setups}
use Rattle.carton_setup.specs.declared.refusal.BadFile.{BadFile}
use Rattle.carton_setup.specs.declared.setup.Setup.{Setup}
use Rattle.carton_setup.specs.declared.told.Ending.TheVariants.{Done}
use Rattle.carton_setup.specs.declared.told.Told.{Told}
use Rattle.carton_text.proofs.OneTask.{task_by_outline}
use Rattle.carton_text.specs.Plans.{spelling}
use Rattle.carton_text.specs.declared.plan.Plan.{Plan}
use Rattle.carton_text.specs.declared.task.Task.{Task}
use Rattle.carton_plan_commands.specs.Plan.{IsBest, IsPlanned, told_plan, plannings, tells_plan}
use Rattle.carton_plan_commands.specs.declared.plan.Planned.{Planned}
use Rattle.carton_plan_commands.specs.declared.plan.Planned.TheVariants.{Found, StartBlocked, NoPath}
use Rattle.carton_plan_commands.specs.declared.plan.Planned.TheVariants.{OutOfTurns}

-- the carton, the task and the answer of which something is told
told_of : (files : List (List ℕ)) (told : Told) → tells_plan files (Ok told) → (s : Setup)
    × (answer : Planned) × setups files (Ok s) × IsPlanned s answer × (told ≡ told_plan answer)
told_of files told h =
    let s = passed (setups files) (λ s. values (IsPlanned s) >>= λ answer. gives (told_plan answer)) told h in
    let answer = passed (values (IsPlanned s.0)) (λ answer. gives (told_plan answer)) told s.2 in
    (s.0, answer.0, s.1, answer.1, same_value told (told_plan answer.0) answer.2)

best_of : (s : Setup) (answer : Planned) → IsPlanned s answer → (told_plan answer).ending ≡ Done
    → (plan : Plan) × IsBest s plan × ((told_plan answer).text ≡ spelling plan)
best_of s (Found plan) h e = (plan, h, refl)
best_of s (StartBlocked a b) h e = absurd (cc)
best_of s NoPath h e = absurd (cc)
best_of s (OutOfTurns moves) h e = absurd (cc)

-- where done is told, the spelling of a best plan is
pub tells_best : (files : List (List ℕ)) (told : Told) → tells_plan files (Ok told) → told.ending ≡ Done
    → (s : Setup) × (plan : Plan) × setups files (Ok s) × IsBest s plan × (told.text ≡ spelling plan)
tells_best files told h done =
    let t = told_of files told h in
    let b = best_of t.0 t.1 t.3 (sym (ap (λ (x : Told). x.ending) t.4) ∙ done) in
    (t.0, b.0, t.2, b.1, ap (λ (x : Told). x.text) t.4 ∙ b.2)

-- some path of the task keeps all panels that share no crease parted by more than the slack, within the
-- budget of turns
abbrev pub HasNear : Setup → Type 0
HasNear s = (path : List State) × IsSlackPath s.task s.carton path × IsWithinTurns s.task (moves_of path)

-- then no other answer than a plan is allowed
found_of : (s : Setup) (answer : Planned) → IsPlanned s answer → HasNear s → (told_plan answer).ending ≡ Done
found_of s (Found plan) h near = refl
found_of s (StartBlocked a b) h near =
    absurd (budget s.task s.carton (BlockedEnd a b) (record {
      plan = tt;
      path = tt;
      clear = tt;
      least = tt;
      still = tt;
      turns = tt;
      blocked = h;
      none = tt;
      begun = tt;
      few = tt;
      cause = tt;
    }) near.0 near.1 near.2)
found_of s NoPath h near = absurd (h.1 near.0 near.1)
found_of s (OutOfTurns moves) h near =
    absurd (budget s.task s.carton (TurnsEnd moves) (record {
      plan = tt;
      path = tt;
      clear = tt;
      least = tt;
      still = tt;
      turns = tt;
      blocked = tt;
      none = tt;
      begun = tt;
      few = h.0;
      cause = h.1;
    }) near.0 near.1 near.2)

-- all cartons and tasks of the bytes have such a path where one has
near_each : (files : List (List ℕ)) (s u : Setup) → setups files (Ok s) → setups files (Ok u) → HasNear s
    → HasNear u
near_each files s u h k near =
    let alike = are_alike files s u h k in
    let task = task_by_outline s.task u.task alike.outline in (
      near.0,
      subst (λ (t : Task). IsSlackPath t u.carton near.0) task
          (same_slack_path s.task s.carton u.carton near.0 alike.same near.1),
      subst (λ (t : Task). IsWithinTurns t (moves_of near.0)) task near.2,
    )

-- where the bytes are accepted and a path is in reach, done is told
pub done_in_reach : (files : List (List ℕ)) (s : Setup) (outcome : Result Told BadFile) → setups files (Ok s)
    → HasNear s → tells_plan files outcome → (told : Told) × (outcome ≡ Ok told) × (told.ending ≡ Done)
done_in_reach files s (Ok told) sets near h =
    let t = told_of files told h in
    (told, refl, ap (λ (x : Told). x.ending) t.4 ∙ found_of t.0 t.1 t.3 (near_each files s t.0 sets t.2 near))
done_in_reach files s (Err bad) sets near h = absurd (elim h [
  | inl on ↦ never_told (IsPlanned on.0) told_plan bad on.2
  | inr off ↦ not_bad s off.0 ((excludes_setups files).first off.0 (Ok s) off.1 sets)
])
