-- The stops of a task lie on its grid.
use Rattle.std.proofs.Common.{◌≡◌, ℕ, ◌/◌, ◌≤◌, ℤ, pos, ◌*ℤ◌, unsigned_abs, Bool, true, false, cond, ◌||◌}
use Rattle.std.proofs.Common.{List, [], ◌∷◌, Option, Some, None, IfSome, option_map, option_and_then}
use Rattle.std.proofs.Common.{unwrap_or, ok_or, Ok, slice_get, refl, sym, subst, arith, lit≤, eqb, inl, inr}
use Rattle.std.specs.List.{AllByRecursion}
use Rattle.std.proofs.lemmas.Bool.{eqb-true}
use Rattle.std.proofs.lemmas.Int.{ints}
use Rattle.std.proofs.lemmas.Option.{slice_get_within, get_or_from_slice_get}
use Rattle.std.proofs.lemmas.List.Elements.{recursion_from_All}
use Rattle.carton_base.specs.declared.ids.EdgeId.{EdgeId}
use Rattle.carton_base.specs.declared.ids.Stop.{Stop}
use Rattle.carton_base.specs.Grid.{IsGrid}
use Rattle.carton_base.proofs.Steps.{both, same_ok, was_some}
use Rattle.carton_model.specs.Dielines.{IsRightAngled, AreAngles}
use Rattle.carton_model.specs.Moves.{IsStop}
use Rattle.carton_text.specs.declared.course.Course.{Course}
use Rattle.carton_text.specs.declared.job.Job.{Job}
use Rattle.carton_text.specs.declared.job.Setting.{Setting}
use Rattle.carton_text.specs.declared.job_error.JobError.TheVariants.{AngleNotExact}
use Rattle.carton_text.specs.Jobs.{is_same}
use Rattle.carton_text.specs.JobRules.{IsSetting, IsJob}
use Rattle.carton_text.specs.Tasks.{stop_set, flat, on_grid, file_stop, target_unset, target_or, course_of}

set_near : (grid : ℕ) (settings : List Setting) (e : EdgeId) → AllByRecursion (IsSetting grid) settings
    → IfSome (stop_set settings e) (λ t. IsStop grid t.0)
set_near grid [] e h = tt
set_near grid (s ∷ settings) e h = by_test (is_same s.edge e) (set_near grid settings e h.1)
  where
    by_test : (b : Bool) → IfSome (stop_set settings e) (λ t. IsStop grid t.0)
        → IfSome (cond b (Some s.stop) (stop_set settings e)) (λ t. IsStop grid t.0)
    by_test true rest = h.0.stop
    by_test false rest = rest

at_most_16 : (z w : ℤ) → z ≡ w → unsigned_abs w ≤ 16 → unsigned_abs z ≤ 16
at_most_16 z w e h = subst (λ x. unsigned_abs x ≤ 16) (sym e) h

small : (s : Stop) → IsRightAngled s → unsigned_abs s.0 ≤ 16
small s (inl e) = at_most_16 s.0 _ e (lit≤ tt)
small s (inr (inl e)) = at_most_16 s.0 _ e (lit≤ tt)
small s (inr (inr (inl e))) = at_most_16 s.0 _ e (lit≤ tt)
small s (inr (inr (inr (inl e)))) = at_most_16 s.0 _ e (lit≤ tt)
small s (inr (inr (inr (inr e)))) = at_most_16 s.0 _ e (lit≤ tt)

scaled_near : (grid : ℕ) (s : Stop) → IsGrid grid → unsigned_abs s.0 ≤ 16 → IsStop grid (on_grid grid s).0
scaled_near grid s g h = by_tests (eqb grid 8) (eqb grid 16) refl refl g
  where
    by_tests : (a b : Bool) → eqb grid 8 ≡ a → eqb grid 16 ≡ b → (a || b) ≡ true
        → IsStop grid (s.0 *ℤ pos (grid / 8))
    by_tests true b p q t = let is = eqb-true grid 8 p in
        subst (λ n. IsStop n (s.0 *ℤ pos (n / 8))) (sym is) (omega (arith, ints))
    by_tests false true p q t = let is = eqb-true grid 16 q in
        subst (λ n. IsStop n (s.0 *ℤ pos (n / 8))) (sym is) (omega (arith, ints))
    by_tests false false p q t = cc

file_near : (grid edges : ℕ) (angles : Option (List (Option Stop))) (e : EdgeId) → IsGrid grid
    → IfSome angles (AreAngles edges) → IfSome (file_stop grid angles e) (λ t. IsStop grid t.0)
file_near grid edges None e g h = tt
file_near grid edges (Some list) e g h = by_entry (slice_get list e.0) refl
  where
    by_stop : (o : Option Stop) → IfSome o IsRightAngled
        → IfSome (option_map (on_grid grid) o) (λ t. IsStop grid t.0)
    by_stop None r = tt
    by_stop (Some s) r = scaled_near grid s g (small s r)

    by_entry : (o : Option (Option Stop)) → slice_get list e.0 ≡ o
        → IfSome (option_map (on_grid grid) (option_and_then (λ x. x) o)) (λ t. IsStop grid t.0)
    by_entry None q = tt
    by_entry (Some o) q =
        by_stop o (subst (λ x. IfSome x IsRightAngled) (get_or_from_slice_get list e.0 o None q)
        (h.1 e.0 None (slice_get_within list e.0 o q)))

-- both stops of a course lie on the grid
pub record IsNearCourse (grid : ℕ) (c : Course) : Type 0 where
  pub start : IsStop grid c.start.0
  pub target : IsStop grid c.target.0

given : {A : Type 0} (P : A → Type 0) (o : Option A) (x : A) → o ≡ Some x → IfSome o P → P x
given P o x e h = subst (λ p. IfSome p P) e h

unset_near : (job : Job) (edges : ℕ) (angles : Option (List (Option Stop))) (e : EdgeId) (t : Stop)
    → IsJob job → IfSome angles (AreAngles edges) → target_unset job angles e ≡ Ok t → IsStop job.grid t.0
unset_near job edges angles e t j h told = by_test job.from_file told
  where
    by_test : (b : Bool) → cond b (ok_or (file_stop job.grid angles e) (AngleNotExact e)) (Ok flat) ≡ Ok t
        → IsStop job.grid t.0
    by_test true q =
        given (λ s. IsStop job.grid s.0) (file_stop job.grid angles e) t
        (was_some (file_stop job.grid angles e) (AngleNotExact e) t q)
        (file_near job.grid edges angles e j.on_grid h)
    by_test false q = subst (λ (s : Stop). IsStop job.grid s.0) (same_ok flat t _ refl q) (omega arith)

pub near_course : (job : Job) (edges : ℕ) (angles : Option (List (Option Stop))) → IsJob job
    → IfSome angles (AreAngles edges) → (i : ℕ) (e : EdgeId) (c : Course) → course_of job angles e ≡ Ok c
    → IsNearCourse job.grid c
unfolding course_of
near_course job edges angles j h i e c told =
    let t = both (target_or (target_unset job angles e) (stop_set job.targets e)) _ c told in
    let starts = set_near job.grid job.starts e
    (recursion_from_All (IsSetting job.grid) job.starts j.starts.each) in
    let targets = set_near job.grid job.targets e
    (recursion_from_All (IsSetting job.grid) job.targets j.targets.each) in
    subst (IsNearCourse job.grid) (same_ok _ c _ refl t.2)
    (record {
      start = or_flat (stop_set job.starts e) starts;
      target = by_line (stop_set job.targets e) t.0 targets t.1;
    })
  where
    or_flat : (o : Option Stop) → IfSome o (λ s. IsStop job.grid s.0) → IsStop job.grid (unwrap_or o flat).0
    or_flat None k = omega arith
    or_flat (Some s) k = k

    by_line : (o : Option Stop) (t : Stop) → IfSome o (λ s. IsStop job.grid s.0)
        → target_or (target_unset job angles e) o ≡ Ok t → IsStop job.grid t.0
    by_line None t k q = unset_near job edges angles e t j h q
    by_line (Some s) t k q = subst (λ (x : Stop). IsStop job.grid x.0) (same_ok s t _ refl q) k
