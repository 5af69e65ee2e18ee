-- A task that a job gives keeps the limits.
use Rattle.std.proofs.Common.{◌≡◌, ℕ, ◌<◌, ◌≤◌, ℤ, pos, ◌&&◌, Bool, is_none, List, length, map, get_or}
use Rattle.std.proofs.Common.{Option, IfSome, Result, Ok, Err, IfOk, All, refl, sym, ap, ◌∙◌, subst, arith}
use Rattle.std.proofs.lemmas.List.{length-map, get_or_past}
use Rattle.std.proofs.lemmas.List.Elements.{All-map}
use Rattle.std.proofs.lemmas.List.FromFn.{get_or-map-range_with_len}
use Rattle.carton_base.specs.declared.ids.EdgeId.{EdgeId}
use Rattle.carton_base.specs.declared.ids.Stop.{Stop}
use Rattle.carton_base.specs.declared.limits.TheConstants.{MOST_JOINTS, MOST_TURNS, WIDEST_SLACK, WIDEST_STEP}
use Rattle.carton_base.specs.declared.motion.State.{State}
use Rattle.carton_base.specs.Steps.{◌>>=◌, Gives, refuse_if, entries_from}
use Rattle.carton_base.proofs.Steps.{both, same_ok, count_entries, all_entries}
use Rattle.carton_model.specs.Dielines.{AreAngles}
use Rattle.carton_model.specs.Moves.{IsStop, IsState}
use Rattle.carton_text.specs.declared.course.Course.{Course}
use Rattle.carton_text.specs.declared.job.Job.{Job}
use Rattle.carton_text.specs.declared.task.Task.{Task}
use Rattle.carton_text.specs.declared.job_error.JobError.{JobError}
use Rattle.carton_text.specs.declared.job_error.JobError.TheVariants.{NoAngles, Memory}
use Rattle.carton_text.specs.JobRules.{IsJob, IsWithin}
use Rattle.carton_text.specs.Tasks.{only_joints, course_of, teams_of, stop_at, all_stops, Outline, outline}
use Rattle.carton_text.specs.Tasks.{outline_of, task_of}
use Rattle.carton_text.specs.TaskRules.{AreTeamsOf, IsTask}
use Rattle.carton_text.proofs.Placed.{placed_teams}
use Rattle.carton_text.proofs.Ranged.{IsNearCourse, near_course}

-- a state of these stops
state_of : (stops : List ℤ) (joints grid : ℕ) (s : State) → length stops ≡ joints → joints ≤ MOST_JOINTS
    → All (IsStop grid) stops → grid ≡ s.grid → all_stops stops ≡ s.stops → IsState joints s
state_of stops joints grid s count few near g all =
    let place : (k : ℕ) → k < MOST_JOINTS → get_or s.stops k (pos 0) ≡ get_or stops k (pos 0) =
    λ k lt. ap (λ (xs : List ℤ). get_or xs k (pos 0)) (sym all)
    ∙ get_or-map-range_with_len (stop_at stops) 0 MOST_JOINTS k k (pos 0) lt (omega arith) in
    record {
      stops =
          λ k lt. subst (λ n. IsStop n (get_or s.stops k (pos 0))) g
          (subst (IsStop grid) (sym (place k (omega arith))) (near k (pos 0) (omega arith)));
      others = λ k past lt. place k lt ∙ get_or_past stops k (pos 0) (omega arith);
    }

-- what the rules give keeps the limits
kept_outline : (creases locked : List EdgeId) (edges : ℕ) (angles : Option (List (Option Stop))) (job : Job)
    (t : Task) → length creases ≤ MOST_JOINTS → IsJob job → IfSome angles (AreAngles edges)
    → task_of creases locked angles job ≡ Ok (outline t) → IsTask t
unfolding task_of
kept_outline creases locked edges angles job t few j h told =
    let known = both (only_joints creases locked job) _ (outline t) told in
    let asked = both (refuse_if (job.from_file && is_none angles) NoAngles) _ (outline t) known.2 in
    let rule : ℕ → EdgeId → Result Course JobError = λ i. course_of job angles in
    let courses = both (entries_from rule 0 creases) _ (outline t) asked.2 in
    let teams = both (teams_of job.teams courses.0) _ (outline t) courses.2 in
    let made = same_ok _ (outline t) _ refl teams.2 in
    let count : length courses.0 ≡ length creases = count_entries rule 0 creases courses.0 courses.1 in
    let near : All (IsNearCourse job.grid) courses.0 = all_entries (IsNearCourse job.grid) rule
    (near_course job edges angles j h) 0 creases courses.0 courses.1 in
    let same : creases ≡ t.creases = ap (λ (o : Outline). o.creases) made in
    let joints : length creases ≡ length t.creases = ap (length {A = EdgeId}) same in
    let grid : job.grid ≡ t.start.grid = ap (λ (o : Outline). o.grid) made in
    let starts = map (λ (c : Course). c.start.0) courses.0 in
    let targets = map (λ (c : Course). c.target.0) courses.0 in
    record {
      few = subst (λ n. n ≤ MOST_JOINTS) joints few;
      start =
          state_of starts (length t.creases) job.grid t.start
          (length-map courses.0 (λ (c : Course). c.start.0) ∙ count ∙ joints)
          (subst (λ n. n ≤ MOST_JOINTS) joints few)
          (All-map (IsStop job.grid) (λ (c : Course). c.start.0) courses.0 (λ k d lt. (near k d lt).start))
          grid (ap (λ (o : Outline). o.start) made);
      target =
          state_of targets (length t.creases) job.grid t.target
          (length-map courses.0 (λ (c : Course). c.target.0) ∙ count ∙ joints)
          (subst (λ n. n ≤ MOST_JOINTS) joints few)
          (All-map (IsStop job.grid) (λ (c : Course). c.target.0) courses.0 (λ k d lt. (near k d lt).target))
          (grid ∙ sym t.one_grid) (ap (λ (o : Outline). o.target) made);
      teams =
          subst (λ n. AreTeamsOf n t.teams) (count ∙ joints)
          (subst (AreTeamsOf (length courses.0)) (ap (λ (o : Outline). o.teams) made)
          (placed_teams job.teams courses.0 teams.0 j.teams.apart teams.1));
      stride = subst (IsWithin 1 WIDEST_STEP) (ap (λ (o : Outline). o.stride) made) j.stride;
      slack = subst (IsWithin 1 WIDEST_SLACK) (ap (λ (o : Outline). o.slack) made) j.slack;
      turns = subst (IsWithin 1 MOST_TURNS) (ap (λ (o : Outline). o.turns) made) j.turns;
    }

-- so does what a function returned that gives it, once the job is known to name free joints alone
pub keeps_rules : (creases locked : List EdgeId) (edges : ℕ) (angles : Option (List (Option Stop)))
    (job : Job) (fine : Bool) (r : Result Task JobError) → length creases ≤ MOST_JOINTS → IsJob job
    → IfSome angles (AreAngles edges)
    → only_joints creases locked job ≡ Ok fine → Gives Memory outline r (outline_of creases angles job)
    → IfOk r IsTask
unfolding task_of
keeps_rules creases locked edges angles job fine (Ok t) few j h only told =
    kept_outline creases locked edges angles job t few j h
    (ap (λ (r : Result Bool JobError). r >>= λ _. outline_of creases angles job) only ∙ told)
keeps_rules creases locked edges angles job fine (Err e) few j h only told = tt
