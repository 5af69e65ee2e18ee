-- The first element of joined lists that passes a test.
use Rattle.std.proofs.Common.{◌≡◌, Bool, true, false, cond, List, [], ◌∷◌, ◌++◌, Option, Some, None, refl}
use Rattle.std.proofs.Common.{sym, ap, ◌∙◌}
use Rattle.std.specs.List.{find}
use Rattle.carton_base.specs.declared.ids.EdgeId.{EdgeId}
use Rattle.carton_text.specs.declared.job.TeamLine.{TeamLine}
use Rattle.carton_text.specs.JobRules.{members}

-- it stands in the first list
pub in_first : {X : Type 0} (p : X → Bool) (xs ys : List X) (x : X) → find p xs ≡ Some x
    → find p (xs ++ ys) ≡ Some x
in_first p [] ys x h = cc
in_first p (y ∷ xs) ys x h = by_test (p y) (in_first p xs ys x) h
  where
    by_test : (b : Bool) → (find p xs ≡ Some x → find p (xs ++ ys) ≡ Some x) → cond b (Some y) (find p xs)
        ≡ Some x → cond b (Some y) (find p (xs ++ ys)) ≡ Some x
    by_test true later e = e
    by_test false later e = later e

-- the first list has none
pub in_second : {X : Type 0} (p : X → Bool) (xs ys : List X) → find p xs ≡ None
    → find p (xs ++ ys) ≡ find p ys
in_second p [] ys h = refl
in_second p (y ∷ xs) ys h = by_test (p y) (in_second p xs ys) h
  where
    by_test : (b : Bool) → (find p xs ≡ None → find p (xs ++ ys) ≡ find p ys) → cond b (Some y) (find p xs)
        ≡ None → cond b (Some y) (find p (xs ++ ys)) ≡ find p ys
    by_test true later e = cc
    by_test false later e = later e

-- the next team has it
pub in_team : (p : EdgeId → Bool) (teams : List TeamLine) (t : TeamLine) (rest : List TeamLine) (x : EdgeId)
    (total : Option EdgeId) → teams ≡ t ∷ rest → find p t.edges ≡ Some x → find p (members teams) ≡ total
    → Some x ≡ total
in_team p teams t rest x total e h so_far = sym (in_first p t.edges (members rest) x h)
    ∙ ap (λ (ts : List TeamLine). find p (members ts)) (sym e) ∙ so_far

-- the next team has none
pub past_team : (p : EdgeId → Bool) (teams : List TeamLine) (t : TeamLine) (rest : List TeamLine)
    (total : Option EdgeId) → teams ≡ t ∷ rest → find p t.edges ≡ None → find p (members teams) ≡ total
    → find p (members rest) ≡ total
past_team p teams t rest total e h so_far = sym (in_second p t.edges (members rest) h)
    ∙ ap (λ (ts : List TeamLine). find p (members ts)) (sym e) ∙ so_far
