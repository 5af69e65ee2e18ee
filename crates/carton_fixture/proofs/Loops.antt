-- The steps of the loops that choose.
use Rattle.std.proofs.Common.{◌≡◌, ◌≢◌, ℕ, zero, suc, ◌+◌, ◌<◌, Bool, true, false, cond, eqb, List, [], ◌∷◌}
use Rattle.std.proofs.Common.{◌++◌, length, length-append, get_or, take, drop, slice_get, slice_set, Some}
use Rattle.std.proofs.Common.{Any, refl, sym, ap, ◌∙◌, arith, inl, inr, pos}
use Rattle.std.proofs.lemmas.Bool.{eqb-true, eqb-false, cases_lt}
use Rattle.std.proofs.lemmas.List.{get_or_append_left}
use Rattle.std.proofs.lemmas.List.Elements.{All-nil, All-push, All-weaker}
use Rattle.std.proofs.lemmas.List.Quantifiers.{Any-push, all_pairs_push}
use Rattle.carton_base.specs.declared.bodies.Cuboid.{Cuboid}
use Rattle.carton_fixture_text.specs.declared.fixture.FixtureBody.{FixtureBody}
use Rattle.carton_guide.specs.Holding.{IsChosen}
use Rattle.carton_fixture.specs.Steps.{none_of, AreNamed, AreFirst}
use Rattle.carton_fixture.proofs.Writes.{get_same, get_other}

-- a box and a body that stand past the end of a list
abbrev pub no_box : Cuboid
no_box = record { x0 = pos 0; x1 = pos 0; y0 = pos 0; y1 = pos 0; z0 = pos 0; z1 = pos 0 }

abbrev pub no_body : FixtureBody
no_body = record { id = 0; shape = no_box }

-- one more of a list is written over another
pub written : (xs ys : List Bool) (k : ℕ) → length xs ≡ length ys → k < length xs
    → slice_set (take k xs ++ drop k ys) k (get_or xs k false) ≡ take (suc k) xs ++ drop (suc k) ys
written [] ys k e lt = absurd (omega arith)
written (x ∷ xs) [] k e lt = absurd (omega arith)
written (x ∷ xs) (y ∷ ys) zero e lt = refl
written (x ∷ xs) (y ∷ ys) (suc k) e lt =
    ap (λ (zs : List Bool). x ∷ zs) (written xs ys k (omega arith) (omega arith))

-- what holds of some element holds of some element of a longer list
any_more : {X : Type 0} (P : X → Type 0) (xs : List X) (y : X) → Any P xs → Any P (xs ++ y ∷ [])
any_more P xs y h = let lt = h.2 in (
  h.0,
  h.1,
  omega (arith, lt, length-append xs (y ∷ [])),
  get_or_append_left xs (y ∷ []) h.1 h.0 lt
      ∙ h.3,
  h.4,
)

pub none_chosen : (n k : ℕ) → slice_get (none_of n) k ≢ Some true
none_chosen zero k = λ h. cc
none_chosen (suc n) zero = λ h. cc
none_chosen (suc n) (suc k) = none_chosen n k

pub named_none : (chosen : List Bool) → ((k : ℕ) → slice_get chosen k ≢ Some true) → AreNamed chosen []
named_none chosen none = record {
  each = All-nil (λ b. slice_get chosen b.id ≡ Some true);
  every = λ k h. absurd (none k h);
}

-- the number of one more body is chosen
pub named_more : (chosen : List Bool) (bodies : List FixtureBody) (b : FixtureBody) → b.id < length chosen
    → AreNamed chosen bodies → AreNamed (slice_set chosen b.id true) (bodies ++ b ∷ [])
named_more chosen bodies b lt h = record {
  each = All-push (λ x. slice_get (slice_set chosen b.id true) x.id ≡ Some true) bodies b
      (All-weaker (λ x. slice_get chosen x.id ≡ Some true) (λ x. slice_get (slice_set chosen b.id true) x.id
      ≡ Some true) still bodies h.each) (get_same chosen b.id true lt);
  every = λ k is. by_place k (eqb k b.id) refl is;
}
  where
    still : (x : FixtureBody) → slice_get chosen x.id ≡ Some true
        → slice_get (slice_set chosen b.id true) x.id ≡ Some true
    still x is = by_test (eqb x.id b.id) refl
      where
        by_test : (t : Bool) → eqb x.id b.id ≡ t → slice_get (slice_set chosen b.id true) x.id ≡ Some true
        by_test true t = ap (slice_get (slice_set chosen b.id true)) (eqb-true x.id b.id t)
            ∙ get_same chosen b.id true lt
        by_test false t = get_other chosen b.id true x.id (eqb-false x.id b.id t) ∙ is

    by_place : (k : ℕ) (t : Bool) → eqb k b.id ≡ t → slice_get (slice_set chosen b.id true) k ≡ Some true
        → Any (λ x. x.id ≡ k) (bodies ++ b ∷ [])
    by_place k true t is = Any-push (λ x. x.id ≡ k) bodies b (sym (eqb-true k b.id t))
    by_place k false t is =
        any_more (λ x. x.id ≡ k) bodies b
        (h.every k (sym (get_other chosen b.id true k (eqb-false k b.id t)) ∙ is))

pub first_none : (candidates : List Cuboid) (chosen : List Bool) → AreFirst candidates chosen 0 []
first_none candidates chosen = record {
  each = All-nil (λ b. IsChosen candidates chosen b.id b.shape);
  below = All-nil (λ b. b.id < 0);
  rising = λ i j d less lt. absurd (omega arith);
  every = λ k lt is. absurd (omega arith);
}

-- candidate k as a body
abbrev pub body_of : ℕ → Cuboid → FixtureBody
body_of k shape = record { id = k; shape = shape }

chosen_one : (candidates : List Cuboid) (chosen : List Bool) (k : ℕ) (bodies : List FixtureBody)
    (shape : Cuboid) → slice_get candidates k ≡ Some shape → slice_get chosen k ≡ Some true
    → AreFirst candidates chosen k bodies
    → AreFirst candidates chosen (k + 1) (bodies ++ body_of k shape ∷ [])
chosen_one candidates chosen k bodies shape at marked h = record {
  each = All-push (λ b. IsChosen candidates chosen b.id b.shape) bodies (body_of k shape) h.each
      (record { at = at; marked = marked });
  below = All-push (λ b. b.id < k + 1) bodies (body_of k shape) (λ i d lt. let below = h.below i d lt in
      omega arith) (omega arith);
  rising = all_pairs_push (λ a b. a.id < b.id) bodies (body_of k shape) h.rising h.below;
  every = λ j lt is. elim (cases_lt j k) [
    | inl less ↦ any_more (λ b. b.id ≡ j) bodies (body_of k shape) (h.every j less is)
    | inr ge ↦ let same : k ≡ j = omega (arith, ge, lt) in
        Any-push (λ b. b.id ≡ j) bodies (body_of k shape) same
  ];
}

chosen_none : (candidates : List Cuboid) (chosen : List Bool) (k : ℕ) (bodies : List FixtureBody)
    → slice_get chosen k ≡ Some false → AreFirst candidates chosen k bodies
    → AreFirst candidates chosen (k + 1) bodies
chosen_none candidates chosen k bodies marked h = record {
  each = h.each;
  below = λ i d lt. let below = h.below i d lt in omega arith;
  rising = h.rising;
  every = λ j lt is. elim (cases_lt j k) [
    | inl less ↦ h.every j less is
    | inr ge ↦ let same : j ≡ k = omega (arith, ge, lt) in let here : slice_get chosen k ≡ Some true =
        ap (slice_get chosen) (sym same) ∙ is in cc
  ];
}

-- one more candidate, if it is chosen
pub first_more : (candidates : List Cuboid) (chosen : List Bool) (k : ℕ) (bodies : List FixtureBody)
    (shape : Cuboid) (b : Bool) → slice_get candidates k ≡ Some shape → slice_get chosen k ≡ Some b
    → AreFirst candidates chosen k bodies
    → AreFirst candidates chosen (k + 1) (cond b (bodies ++ body_of k shape ∷ []) bodies)
first_more candidates chosen k bodies shape true at marked h =
    chosen_one candidates chosen k bodies shape at marked h
first_more candidates chosen k bodies shape false at marked h =
    chosen_none candidates chosen k bodies marked h
