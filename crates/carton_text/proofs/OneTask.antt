-- The task of a job is the same on all cartons of a dieline, and its outline determines it.
use Rattle.std.proofs.Common.{◌≡◌, ℕ, ◌<◌, Bool, true, false, ◌||◌, List, [], ◌∷◌, length, filter_map, arith}
use Rattle.std.proofs.Common.{sym, ◌∙◌, ap, subst, refl, eq-eqb, eqb-true, Err, Option, Some, None}
use Rattle.std.specs.Prelude.{IsSomeAnd, is_none, if◌then◌else◌, find, not}
use Rattle.std.specs.Cmp.{both_ways}
use Rattle.std.specs.List.{list_any, cons_option}
use Rattle.std.proofs.lemmas.List.{get_or_default}
use Rattle.std.proofs.lemmas.List.Folds.{Any-from_list_any, list_any_at}
use Rattle.std.proofs.Math.Bool.{Bool-set}
use Rattle.std.proofs.Math.Nat.{ℕ_set}
use Rattle.carton_base.specs.Grid.{IsGrid}
use Rattle.carton_base.specs.declared.dieline.RawDieline.{RawDieline}
use Rattle.carton_base.specs.declared.ids.EdgeId.{EdgeId}
use Rattle.carton_base.specs.declared.ids.Stop.{Stop}
use Rattle.carton_base.specs.declared.motion.State.{State}
use Rattle.carton_tree.specs.Answers.{IsTreeOf}
use Rattle.carton_tree.specs.Joints.{IsJoint, IsLocked, IsPlace}
use Rattle.carton_tree.specs.Trees.{Tree, joint_of}
use Rattle.carton_tree.specs.declared.joint.Joint.{Joint}
use Rattle.carton_text.specs.CartonTasks.{locked_edge, locked_joints, task_for}
use Rattle.carton_text.specs.Jobs.{is_same}
use Rattle.carton_text.specs.declared.task.Task.{Task}
use Rattle.carton_text.specs.Tasks.{Outline, outline, is_among, edges_told, refuse_edge, only_joints, task_of}
use Rattle.carton_text.specs.declared.job.Job.{Job}
use Rattle.carton_text.specs.declared.job_error.JobError.TheVariants.{LockedEdge, NotAJoint}
use mathlib.Core.HLevel.{is_prop→PathP}
use Rattle.carton_tree.proofs.FreeJoints.{one_creases, hung_so, hung_place, no_place}

-- the edge is the one that was found
abbrev is_found : EdgeId → Option EdgeId → Bool
is_found e None = false
is_found e (Some x) = is_same x e

among_found : (f : Option Joint → Option EdgeId) (e : EdgeId) (js : List (Option Joint))
    → is_among e (filter_map f js) ≡ list_any (λ o. is_found e (f o)) js
among_found f e [] = refl
among_found f e (j ∷ js) = by_value (f j) (among_found f e js)
  where
    by_value : (o : Option EdgeId) → is_among e (filter_map f js) ≡ list_any (λ x. is_found e (f x)) js
        → is_among e (cons_option o (filter_map f js)) ≡ (is_found e o || list_any (λ x. is_found e (f x)) js)
    by_value None more = more
    by_value (Some x) more = ap (λ b. is_same x e || b) more

-- the edge is that of a joint without a place
found_locked : (e : EdgeId) (j : Joint) → is_found e (locked_edge (Some j)) ≡ true
    → (j.turn.place ≡ None) × (j.edge.0 ≡ e.0)
found_locked e j held = at j.turn.place refl held
  where
    at : (o : Option ℕ) → j.turn.place ≡ o → is_found e (if is_none o then Some j.edge else None) ≡ true
        → (j.turn.place ≡ None) × (j.edge.0 ≡ e.0)
    at None is held = (is, eqb-true j.edge.0 e.0 held)
    at (Some n) is held = absurd (cc)

-- one of the locked joints is a joint of the dieline, and locked there
locked_from : (m : ℕ) (d : RawDieline) (root : ℕ) (t : Tree) (e : EdgeId) → IsTreeOf m d root t
    → is_among e (locked_joints t) ≡ true → IsJoint d e.0 × IsLocked d e.0
locked_from m d root t e h held =
    let some =
    Any-from_list_any (λ o. is_found e (locked_edge o)) t.joints
    (sym (among_found locked_edge e t.joints) ∙ held) in
    at some.1 some.0 some.2 (get_or_default t.joints some.0 None some.1 some.2 ∙ some.3) some.4
  where
    at : (o : Option Joint) (p : ℕ) → p < length t.joints → joint_of t.joints p ≡ o
        → is_found e (locked_edge o) ≡ true → IsJoint d e.0 × IsLocked d e.0
    at None p lt is held = absurd (cc)
    at (Some j) p lt is held =
        let by = hung_so m d root t p j h (omega (arith, lt, h.carton.joints, h.panels)) is in
        let l = found_locked e j held in
        let locked : IsLocked d j.edge.0 = subst (IsPlace d t.creases j.edge.0) l.0 by.turn.place in
        (subst (IsJoint d) l.1 (p, j.parent.0, by.joins), subst (IsLocked d) l.1 locked)

is_locked : (j : Joint) (e : EdgeId) → j.turn.place ≡ None → j.edge.0 ≡ e.0
    → is_found e (locked_edge (Some j)) ≡ true
is_locked j e none same = rw none (eq-eqb j.edge.0 e.0 same)

locked_to : (m : ℕ) (d : RawDieline) (root : ℕ) (t : Tree) (e : EdgeId) → IsTreeOf m d root t → IsJoint d e.0
    → IsLocked d e.0 → is_among e (locked_joints t) ≡ true
locked_to m d root t e h joint locked =
    let by = h.hangs e.0 joint in
    at (joint_of t.joints by.0) by.0 by.1 refl by.2
  where
    at : (o : Option Joint) (p : ℕ) → p < length d.faces → joint_of t.joints p ≡ o
        → IsSomeAnd o (λ j. j.edge.0 ≡ e.0) → is_among e (locked_joints t) ≡ true
    at None p lt is same = absurd same
    at (Some j) p lt is same =
        let none =
        no_place d t.creases e.0 j.turn.place h.creases locked
        (hung_place m d root t p j e.0 h lt is same) in
        let less : p < length t.joints = omega (arith, lt, h.carton.joints, h.panels) in
        let here = ap (λ o. is_found e (locked_edge o)) is ∙ is_locked j e none same in
        among_found locked_edge e t.joints
        ∙ list_any_at (λ o. is_found e (locked_edge o)) t.joints p None less here

-- the locked joints are the same edges
one_locked : (m : ℕ) (d : RawDieline) (root : ℕ) (t u : Tree) (e : EdgeId) → IsTreeOf m d root t
    → IsTreeOf m d root u → is_among e (locked_joints t) ≡ is_among e (locked_joints u)
one_locked m d root t u e h k =
    both_ways (is_among e (locked_joints t)) (is_among e (locked_joints u)) (over t u h k) (over u t k h)
  where
    over : (a b : Tree) → IsTreeOf m d root a → IsTreeOf m d root b → is_among e (locked_joints a) ≡ true
        → is_among e (locked_joints b) ≡ true
    over a b in_a in_b held =
        let l = locked_from m d root a e in_a held in
        locked_to m d root b e in_b l.0 l.1

-- so the same edges of a job are refused
refuses_same : (ls ms : List EdgeId) (o : Option EdgeId) → ((e : EdgeId) → is_among e ls ≡ is_among e ms)
    → refuse_edge ls o ≡ refuse_edge ms o
refuses_same ls ms None same = refl
refuses_same ls ms (Some e) same =
    ap (λ (b : Bool). if b then Err (LockedEdge e) else Err (NotAJoint e)) (same e)

fits_same : (cs ls ms : List EdgeId) (angles : Option (List (Option Stop))) (job : Job)
    → ((e : EdgeId) → is_among e ls ≡ is_among e ms) → task_of cs ls angles job ≡ task_of cs ms angles job
unfolding task_of only_joints
fits_same cs ls ms angles job same =
    rw (refuses_same ls ms (find (λ e. not (is_among e cs)) (edges_told job)) same) refl

-- the task of a job is one for all trees of a dieline
pub one_task : (m : ℕ) (d : RawDieline) (root : ℕ) (t u : Tree) (job : Job) → IsTreeOf m d root t
    → IsTreeOf m d root u → task_for t d job ≡ task_for u d job
one_task m d root t u job h k =
    fits_same t.creases (locked_joints t) (locked_joints u) d.angles job (λ e. one_locked m d root t u e h k)
    ∙ ap (λ (cs : List EdgeId). task_of cs (locked_joints u) d.angles job)
    (one_creases d t.creases u.creases h.creases k.creases)

-- states are one where their stops and grids are
pub same_state : (a b : State) → a.stops ≡ b.stops → a.grid ≡ b.grid → a ≡ b
same_state a b p q = λ i. record {
  stops = p i;
  grid = q i;
  on_grid = is_prop→PathP (λ j. IsGrid (q j)) (λ j. hlevel (Bool-set)) a.on_grid b.on_grid i;
}

-- tasks with one outline are one
pub task_by_outline : (s u : Task) → outline s ≡ outline u → s ≡ u
task_by_outline s u o =
    let grid : s.start.grid ≡ u.start.grid = ap (λ (x : Outline). x.grid) o in
    let start : s.start ≡ u.start = same_state s.start u.start (ap (λ (x : Outline). x.start) o) grid in
    let target : s.target ≡ u.target =
    same_state s.target u.target (ap (λ (x : Outline). x.target) o)
    (s.one_grid ∙ grid ∙ sym u.one_grid) in
    λ i. record {
      creases = (o i).creases;
      start = start i;
      target = target i;
      teams = (o i).teams;
      slack = (o i).slack;
      turns = (o i).turns;
      stride = (o i).stride;
      one_grid =
          is_prop→PathP (λ j. (target j).grid ≡ (start j).grid)
          (λ j. ℕ_set (target j).grid (start j).grid) s.one_grid u.one_grid i;
    }
