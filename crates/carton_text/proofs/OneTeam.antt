-- The joints of a task that have to move are each in one team: that of the line which names it, or its own.
use Rattle.std.proofs.Common.{◌≡◌, ◌≢◌, ◌∙◌, refl, sym, ap, subst, inl, inr, ℕ, zero, suc, ◌+◌, ◌<◌, ℤ, pos}
use Rattle.std.proofs.Common.{Bool, true, false, cond, not, ◌&&◌, ◌||◌, is_none, List, [], ◌∷◌, ◌++◌, length}
use Rattle.std.proofs.Common.{map, get_or, slice_get, filter_map, Option, Some, None, Result, Ok, arith}
use Rattle.std.proofs.Common.{eq-eqb}
use Rattle.std.specs.List.{AllByRecursion, Contains, cons_option}
use Rattle.std.specs.Ordering.{int_eq}
use Rattle.std.proofs.lemmas.Bool.{cases_Bool}
use Rattle.std.proofs.lemmas.Bool.Decides.{Decides-int_eq}
use Rattle.std.proofs.lemmas.List.{length-append, get_or_append_left, get_or-append-add, get_or-map}
use Rattle.std.proofs.lemmas.List.Elements.{Contains-append_left, Contains-append_right}
use Rattle.std.proofs.lemmas.List.Elements.{Contains-append_cases}
use Rattle.std.proofs.lemmas.Option.{same_Some, slice_get_within, get_or_from_slice_get}
use Rattle.carton_base.specs.declared.dieline.RawDieline.{RawDieline}
use Rattle.carton_base.specs.declared.ids.EdgeId.{EdgeId}
use Rattle.carton_base.specs.declared.ids.Stop.{Stop}
use Rattle.carton_base.specs.declared.limits.TheConstants.{MOST_JOINTS}
use Rattle.carton_base.specs.declared.motion.State.{State}
use Rattle.carton_base.specs.Steps.{refuse_if, entries_from}
use Rattle.carton_base.proofs.Steps.{both, same_ok, count_entries}
use Rattle.carton_model.specs.Moves.{stop_of}
use Rattle.carton_tree.specs.Answers.{IsTreeOf}
use Rattle.carton_tree.specs.Trees.{Tree}
use Rattle.carton_text.specs.declared.course.Course.{Course}
use Rattle.carton_text.specs.declared.job.Job.{Job}
use Rattle.carton_text.specs.declared.job.TeamLine.{TeamLine}
use Rattle.carton_text.specs.declared.job_error.JobError.{JobError}
use Rattle.carton_text.specs.declared.job_error.JobError.TheVariants.{NoAngles}
use Rattle.carton_text.specs.declared.task.Task.{Task}
use Rattle.carton_text.specs.declared.task.Team.{Team}
use Rattle.carton_text.specs.CartonTasks.{locked_joints, task_for}
use Rattle.carton_text.specs.JobRules.{members, IsJob}
use Rattle.carton_text.specs.Jobs.{is_same}
use Rattle.carton_text.specs.OneTeam.{HasJoint, IsInOneTeam, AreInOneTeam}
use Rattle.carton_text.specs.Tasks.{is_among, only_joints, course_of, target_or, target_unset, stop_set}
use Rattle.carton_text.specs.Tasks.{moves, place_from, lone_teams, teams_of, all_stops, Outline}
use Rattle.carton_text.specs.Tasks.{outline, task_of}
use Rattle.carton_text.specs.TaskRules.{all_places}
use Rattle.carton_text.proofs.Apart.{Apart, apart_from_pairs, pairs_from_apart}
use Rattle.carton_text.proofs.Placed.{same_edge, joined_places, placed_teams}
use Rattle.carton_text.proofs.PlanStops.{stop_of_all}

first_has : (x : ℕ) (xs : List ℕ) → Contains (x ∷ xs) x
first_has x xs = (0, omega arith, refl)

later_has : (y : ℕ) (xs : List ℕ) (x : ℕ) → Contains xs x → Contains (y ∷ xs) x
later_has y xs x h = let lt = h.1 in (suc h.0, omega (arith, lt), h.2)

with_more : (o : Option ℕ) (ks : List ℕ) (k : ℕ) → Contains ks k → Contains (cons_option o ks) k
with_more None ks k h = h
with_more (Some y) ks k h = later_has y ks k h

-- what is found of a named edge is among what is found of all
found_named : (f : EdgeId → Option ℕ) (named : List EdgeId) (e : EdgeId) (k : ℕ) → is_among e named ≡ true
    → f e ≡ Some k → Contains (filter_map f named) k
found_named f [] e k h g = cc
found_named f (d ∷ named) e k h g = by_test (is_same d e) refl (λ more. found_named f named e k more g) h
  where
    by_test : (b : Bool) → is_same d e ≡ b → (is_among e named ≡ true → Contains (filter_map f named) k)
        → (b || is_among e named) ≡ true → Contains (cons_option (f d) (filter_map f named)) k
    by_test true same later h = subst (λ o. Contains (cons_option o (filter_map f named)) k)
        (sym (ap f (same_edge d e same) ∙ g)) (first_has k (filter_map f named))
    by_test false other later h = with_more (f d) (filter_map f named) k (later h)

-- what holds of the edges of all joints holds of that of the joint at a place
edge_at : (P : EdgeId → Type 0) (courses : List Course) (k : ℕ) (c : Course)
    → AllByRecursion P (map (λ (x : Course). x.edge) courses) → slice_get courses k ≡ Some c → P c.edge
edge_at P [] k c h e = cc
edge_at P (d ∷ courses) zero c h e = subst (λ (x : Course). P x.edge) (same_Some d c e) h.0
edge_at P (d ∷ courses) (suc k) c h e = edge_at P courses k c h.1 e

not_same : (d e : EdgeId) → d ≢ e → is_same d e ≡ false
not_same d e n = elim (cases_Bool (is_same d e)) [
  | inl t ↦ absurd (n (same_edge d e t))
  | inr f ↦ f
]

-- the joint at a place is found there
place_at : (j : ℕ) (courses : List Course) (k : ℕ) (c : Course)
    → Apart (map (λ (x : Course). x.edge) courses) → slice_get courses k ≡ Some c
    → place_from j courses c.edge ≡ Some (j + k)
place_at j [] k c apart e = cc
place_at j (d ∷ courses) zero c apart e =
    let same : is_same d.edge c.edge ≡ true =
    eq-eqb d.edge.0 c.edge.0 (ap (λ (x : Course). x.edge.0) (same_Some d c e)) in
    let here : j ≡ j + 0 = omega arith in
    subst (λ b. cond b (Some j) (place_from (j + 1) courses c.edge) ≡ Some (j + 0)) (sym same)
    (ap (λ (n : ℕ). Some n) here)
place_at j (d ∷ courses) (suc k) c apart e =
    let other = not_same d.edge c.edge (edge_at (λ y. d.edge ≢ y) courses k c apart.0 e) in
    let next : j + 1 + k ≡ j + suc k = omega arith in
    subst (λ b. cond b (Some j) (place_from (j + 1) courses c.edge) ≡ Some (j + suc k)) (sym other)
    (place_at (j + 1) courses k c apart.1 e ∙ ap (λ (n : ℕ). Some n) next)

with_team : (b : Bool) (team : Team) (teams : List Team) (k : ℕ) → Contains (all_places teams) k
    → Contains (all_places (cond b (team ∷ teams) teams)) k
with_team true team teams k h = Contains-append_right team.places (all_places teams) k h
with_team false team teams k h = h

-- a joint that has to move and that no line names has a team of its own
lone_at : (named : List EdgeId) (j : ℕ) (courses : List Course) (k : ℕ) (c : Course)
    → slice_get courses k ≡ Some c → moves c ≡ true → is_among c.edge named ≡ false
    → Contains (all_places (lone_teams named j courses)) (j + k)
lone_at named j [] k c e m new = cc
lone_at named j (d ∷ courses) zero c e m new =
    let rest = lone_teams named (j + 1) courses in
    let own : (moves c && not (is_among c.edge named)) ≡ true = rw (m, new) refl in
    let test : (moves d && not (is_among d.edge named)) ≡ true =
    ap (λ (x : Course). moves x && not (is_among x.edge named)) (same_Some d c e) ∙ own in
    let here : j ≡ j + 0 = omega arith in
    subst (λ b. Contains (all_places (cond b ((record { places = j ∷ [] }) ∷ rest) rest)) (j + 0)) (sym test)
    (subst (Contains (j ∷ all_places rest)) here (first_has j (all_places rest)))
lone_at named j (d ∷ courses) (suc k) c e m new =
    let rest = lone_teams named (j + 1) courses in
    let next : j + 1 + k ≡ j + suc k = omega arith in
    with_team (moves d && not (is_among d.edge named)) (record { places = j ∷ [] }) rest (j + suc k)
    (subst (Contains (all_places rest)) next (lone_at named (j + 1) courses k c e m new))

-- so it is in some team
in_some : (lines : List TeamLine) (courses : List Course) (teams : List Team) (k : ℕ) (c : Course)
    → teams_of lines courses ≡ Ok teams → Apart (map (λ (x : Course). x.edge) courses)
    → slice_get courses k ≡ Some c → moves c ≡ true → Contains (all_places teams) k
in_some lines courses teams k c told apart e m =
    let f = place_from 0 courses in
    let ks = all_places (lone_teams (members lines) 0 courses) in
    let first : 0 + k ≡ k = omega arith in
    subst (λ (ps : List ℕ). Contains ps k) (sym (joined_places lines courses teams told))
    (elim (cases_Bool (is_among c.edge (members lines))) [
      | inl named ↦ Contains-append_left (filter_map f (members lines)) ks k
          (found_named f (members lines) c.edge k named
          (place_at 0 courses k c apart e ∙ ap (λ (n : ℕ). Some n) first))
      | inr new ↦ Contains-append_right (filter_map f (members lines)) ks k
          (subst (Contains ks) first (lone_at (members lines) 0 courses k c e m new))
    ])

team_with : (teams : List Team) (k : ℕ) → Contains (all_places teams) k → (i : ℕ) × HasJoint teams k i
team_with [] k h = let lt = h.1 in absurd (omega (arith, lt))
team_with (t ∷ teams) k h = elim (Contains-append_cases t.places (all_places teams) k h) [
  | inl here ↦ (0, here)
  | inr more ↦ let x = team_with teams k more in (suc x.0, x.1)
]

in_all : (teams : List Team) (k i : ℕ) → HasJoint teams k i → Contains (all_places teams) k
in_all [] k i h = absurd h
in_all (t ∷ teams) k zero h = Contains-append_left t.places (all_places teams) k h
in_all (t ∷ teams) k (suc i) h = Contains-append_right t.places (all_places teams) k (in_all teams k i h)

-- no number stands in both parts of a list that has none twice
not_twice : (xs ys : List ℕ) (k : ℕ) → Apart (xs ++ ys) → Contains xs k → Contains ys k → ⊥
not_twice xs ys k apart a b =
    let a_lt = a.1 in
    let b_lt = b.1 in
    let long = length-append xs ys in
    pairs_from_apart (xs ++ ys) apart a.0 (length xs + b.0) k (omega (arith, a_lt))
    (omega (arith, b_lt, long))
    ((get_or_append_left xs ys k a.0 a.1 ∙ a.2) ∙ sym (get_or-append-add xs ys b.0 k ∙ b.2))

second_apart : (xs ys : List ℕ) → Apart (xs ++ ys) → Apart ys
second_apart [] ys h = h
second_apart (x ∷ xs) ys h = second_apart xs ys h.1

one_with : (teams : List Team) (k i j : ℕ) → Apart (all_places teams) → HasJoint teams k i
    → HasJoint teams k j → i ≡ j
one_with [] k i j apart a b = absurd a
one_with (t ∷ teams) k zero zero apart a b = refl
one_with (t ∷ teams) k zero (suc j) apart a b =
    absurd (not_twice t.places (all_places teams) k apart a (in_all teams k j b))
one_with (t ∷ teams) k (suc i) zero apart a b =
    absurd (not_twice t.places (all_places teams) k apart b (in_all teams k i a))
one_with (t ∷ teams) k (suc i) (suc j) apart a b =
    ap (λ (n : ℕ). suc n) (one_with teams k i j (second_apart t.places (all_places teams) apart) a b)

-- the courses are those of the joints, in order
course_edge : (job : Job) (angles : Option (List (Option Stop))) (e : EdgeId) (c : Course)
    → course_of job angles e ≡ Ok c → c.edge ≡ e
unfolding course_of
course_edge job angles e c told =
    let t = both (target_or (target_unset job angles e) (stop_set job.targets e)) _ c told in
    sym (ap (λ (x : Course). x.edge) (same_ok _ c _ refl t.2))

course_edges : (job : Job) (angles : Option (List (Option Stop))) (i : ℕ) (es : List EdgeId)
    (courses : List Course) → entries_from (λ i. course_of job angles) i es ≡ Ok courses
    → map (λ (x : Course). x.edge) courses ≡ es
unfolding entries_from
course_edges job angles i [] courses h =
    let none : courses ≡ [] = cc in
    ap (map (λ (x : Course). x.edge)) none
course_edges job angles i (e ∷ es) courses h =
    let a = both (course_of job angles e) _ courses h in
    let b = both (entries_from (λ i. course_of job angles) (i + 1) es) _ courses a.2 in
    let more : courses ≡ a.0 ∷ b.0 = cc in
    ap (map (λ (x : Course). x.edge)) more ∙ ap (λ (d : EdgeId). d ∷ map (λ (x : Course). x.edge) b.0)
    (course_edge job angles e a.0 a.1) ∙ ap (λ (ds : List EdgeId). e ∷ ds)
    (course_edges job angles (i + 1) es b.0 b.1)

-- the stop of the joint at a place, in a state of these stops
stop_at_place : (f : Course → ℤ) (courses : List Course) (s : State) (k : ℕ) (c : Course) → k < MOST_JOINTS
    → all_stops (map f courses) ≡ s.stops → slice_get courses k ≡ Some c → stop_of s k ≡ f c
stop_at_place f courses s k c lt all e =
    ap (λ (zs : List ℤ). get_or zs k (pos 0)) (sym all) ∙ stop_of_all (map f courses) k lt
    ∙ get_or-map f courses k c (pos 0) (slice_get_within courses k c e)
    ∙ ap f (get_or_from_slice_get courses k c c e)

has_to_move : (c : Course) → c.start.0 ≢ c.target.0 → moves c ≡ true
has_to_move c n = elim (cases_Bool (int_eq c.start.0 c.target.0)) [
  | inl t ↦ absurd (n ((Decides-int_eq c.start.0 c.target.0).0 t))
  | inr f ↦ ap not f
]

element : (courses : List Course) (k : ℕ) → k < length courses → (c : Course) × (slice_get courses k ≡ Some c)
element [] k lt = absurd (omega (arith, lt))
element (c ∷ courses) zero lt = (c, refl)
element (c ∷ courses) (suc k) lt = element courses k (omega (arith, lt))

pub one_team : (m : ℕ) (raw : RawDieline) (root : ℕ) (t : Tree) (job : Job) (task : Task)
    → IsTreeOf m raw root t → IsJob job → task_for t raw job ≡ Ok (outline task) → AreInOneTeam task
unfolding task_of
one_team m raw root t job task h j told = λ k mover.
    let known = both (only_joints t.creases (locked_joints t) job) _ (outline task) told in
    let asked = both (refuse_if (job.from_file && is_none raw.angles) NoAngles) _ (outline task) known.2 in
    let rule : ℕ → EdgeId → Result Course JobError = λ i. course_of job raw.angles in
    let courses = both (entries_from rule 0 t.creases) _ (outline task) asked.2 in
    let teams = both (teams_of job.teams courses.0) _ (outline task) courses.2 in
    let made = same_ok _ (outline task) _ refl teams.2 in
    let count : length courses.0 ≡ length t.creases = count_entries rule 0 t.creases courses.0 courses.1 in
    let joints : length t.creases ≡ length task.creases =
    ap (λ (o : Outline). length {A = EdgeId} o.creases) made in
    let few = h.carton.few_creases in
    let lt = mover.joint in
    let at = element courses.0 k (omega (arith, lt, count, joints)) in
    let start = stop_at_place (λ (c : Course). c.start.0) courses.0 task.start k at.0
    (omega (arith, lt, joints, few)) (ap (λ (o : Outline). o.start) made) at.1 in
    let target = stop_at_place (λ (c : Course). c.target.0) courses.0 task.target k at.0
    (omega (arith, lt, joints, few)) (ap (λ (o : Outline). o.target) made) at.1 in
    let edges = course_edges job raw.angles 0 t.creases courses.0 courses.1 in
    let apart : Apart (map (λ (x : Course). x.edge) courses.0) = subst Apart (sym edges)
    (apart_from_pairs t.creases (λ a b d less within same. let r = h.creases.ordered a b d less within in
    let e = ap (λ (x : EdgeId). x.0) same in absurd (omega (arith, r, e)))) in
    let some = team_with teams.0 k (in_some job.teams courses.0 teams.0 k at.0 teams.1 apart at.1
    (has_to_move at.0 (λ same. mover.apart (start ∙ same ∙ sym target)))) in
    let differ = apart_from_pairs (all_places teams.0)
    (placed_teams job.teams courses.0 teams.0 j.teams.apart teams.1).apart in
    subst (λ (ts : List Team). IsInOneTeam ts k) (ap (λ (o : Outline). o.teams) made)
    (record { team = some.0; has = some.1; alone = λ i has. one_with teams.0 k i some.0 differ has some.1 })
