-- The members of the teams of a task.
use Rattle.std.proofs.Common.{◌≡◌, ◌≢◌, ℕ, zero, suc, ◌<◌, ◌⊎◌, inl, inr, List, [], ◌∷◌, ◌++◌, All, length}
use Rattle.std.proofs.Common.{get_or, slice_get, option_map, unwrap_or, false, refl, sym, subst, arith}
use Rattle.std.specs.List.{AllByRecursion}
use Rattle.std.proofs.lemmas.Bool.{ne_eqb}
use Rattle.std.proofs.lemmas.List.Elements.{recursion_from_All}
use Rattle.carton_base.specs.declared.limits.TheConstants.{MOST_JOINTS}
use Rattle.carton_text.specs.declared.task.Task.{Task}
use Rattle.carton_text.specs.declared.task.Team.{Team}
use Rattle.carton_text.specs.TaskRules.{all_places, IsTask}
use Rattle.carton_text.proofs.Apart.{Apart}
use Rattle.carton_steps.specs.Steps.{is_member, members_of}

abbrev pub IsIn : List ℕ → ℕ → Type 0
IsIn [] k = ⊥
IsIn (x ∷ xs) k = (x ≡ k) ⊎ IsIn xs k

pub in_front : (xs ys : List ℕ) (k : ℕ) → IsIn xs k → IsIn (xs ++ ys) k
in_front [] ys k h = absurd h
in_front (x ∷ xs) ys k (inl e) = inl e
in_front (x ∷ xs) ys k (inr h) = inr (in_front xs ys k h)

pub in_rest : (xs ys : List ℕ) (k : ℕ) → IsIn ys k → IsIn (xs ++ ys) k
in_rest [] ys k h = h
in_rest (x ∷ xs) ys k h = inr (in_rest xs ys k h)

-- what holds of each element holds of the members
of_each : (P : ℕ → Type 0) (xs : List ℕ) → AllByRecursion P xs → (k : ℕ) → IsIn xs k → P k
of_each P [] h k i = absurd i
of_each P (x ∷ xs) h k (inl e) = subst P e h.0
of_each P (x ∷ xs) h k (inr i) = of_each P xs h.1 k i

pub of_all : (P : ℕ → Type 0) (xs : List ℕ) → All P xs → (k : ℕ) → IsIn xs k → P k
of_all P xs h = of_each P xs (recursion_from_All P xs h)

-- and the other way round
pub to_all : (P : ℕ → Type 0) (xs : List ℕ) → ((k : ℕ) → IsIn xs k → P k) → All P xs
to_all P [] h i d lt = absurd (omega arith)
to_all P (x ∷ xs) h zero d lt = h x (inl refl)
to_all P (x ∷ xs) h (suc i) d lt = to_all P xs (λ k m. h k (inr m)) i d (omega arith)

pub apart_rest : (xs ys : List ℕ) → Apart (xs ++ ys) → Apart ys
apart_rest [] ys h = h
apart_rest (x ∷ xs) ys h = apart_rest xs ys h.1

-- each member of the first list differs from each of the second
pub apart_across : (xs ys : List ℕ) (k p : ℕ) → Apart (xs ++ ys) → IsIn xs k → IsIn ys p → k ≢ p
apart_across [] ys k p h i j = absurd i
apart_across (x ∷ xs) ys k p h (inl e) j =
    subst (λ z. z ≢ p) e (of_each (λ y. x ≢ y) (xs ++ ys) h.0 p (in_rest xs ys p j))
apart_across (x ∷ xs) ys k p h (inr i) j = apart_across xs ys k p h.1 i j

-- a place that differs from each member is none of them
pub no_member : (members : List ℕ) (k : ℕ) → ((p : ℕ) → IsIn members p → p ≢ k) → is_member members k ≡ false
no_member [] k h = refl
no_member (p ∷ members) k h =
    rw (ne_eqb p k (h p (inl refl))) (no_member members k (λ q i. h q (inr i)))

-- the places of the team of that number
abbrev pub places_at : List Team → ℕ → List ℕ
places_at teams team = unwrap_or (option_map (λ m. m.places) (slice_get teams team)) []

-- are among all places
pub in_team : (teams : List Team) (team k : ℕ) → IsIn (places_at teams team) k → IsIn (all_places teams) k
in_team [] team k h = absurd h
in_team (x ∷ teams) zero k h = in_front x.places (all_places teams) k h
in_team (x ∷ teams) (suc team) k h = in_rest x.places (all_places teams) k (in_team teams team k h)

pub places_of : (teams : List Team) (team : ℕ) (d : Team) → team < length teams
    → (get_or teams team d).places ≡ places_at teams team
places_of [] team d lt = absurd (omega arith)
places_of (x ∷ teams) zero d lt = refl
places_of (x ∷ teams) (suc team) d lt = places_of teams team d (omega arith)

-- a place of a team is a joint of the task
pub is_joint : (t : Task) → IsTask t → (k : ℕ) → IsIn (all_places t.teams) k → k < length t.creases
is_joint t rules = of_all (λ k. k < length t.creases) (all_places t.teams) rules.teams.each

-- and has a place in a state
pub each_has_places : (t : Task) → IsTask t → All (λ (x : Team). All (λ k. k < MOST_JOINTS) x.places) t.teams
each_has_places t rules i d lt = subst (All (λ k. k < MOST_JOINTS)) (sym (places_of t.teams i d lt))
    (to_all (λ k. k < MOST_JOINTS) (members_of t i)
    (λ k h. omega (arith, rules.few, is_joint t rules k (in_team t.teams i k h))))
