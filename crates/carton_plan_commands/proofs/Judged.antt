-- Pairs of panels judged one after the other.
use Rattle.std.proofs.Common.{◌≡◌, ℕ, ◌+◌, ◌≤◌, ◌⊎◌, inl, inr, List, [], ◌∷◌, ◌++◌, length, arith, sym, subst}
use Rattle.std.proofs.Common.{refl, Contains, length-append}
use Rattle.std.proofs.lemmas.Bool.{cases_lt}
use Rattle.std.proofs.lemmas.List.Elements.{All-push, All-weaker, All-nil, Contains-push}
use Rattle.std.proofs.lemmas.List.Elements.{Contains-append_left}
use Rattle.std.proofs.lemmas.List.Quantifiers.{all_pairs_push}
use Rattle.carton_base.specs.declared.dieline.RawDieline.{RawDieline}
use Rattle.carton_plan_commands.specs.Flat.{AreJudged, AreParted, IsBefore, IsAllPairs}
use Rattle.carton_plan_commands.specs.FlatPairs.{IsJudgedSoFar}

-- what is before (a, b) is before (a, b + 1)
before_next : (a b : ℕ) (p : ℕ × ℕ) → IsBefore p (a, b) → IsBefore p (a, b + 1)
before_next a b p h = elim h [ inl lt ↦ inl lt | inr e ↦ inr (e.0, omega (arith, e.1)) ]

-- what is before (a, b + 1) is before (a, b), or that pair
next_cases : (a b k l : ℕ) → IsBefore (k, l) (a, b + 1) → IsBefore (k, l) (a, b) ⊎ ((k ≡ a) × (l ≡ b))
next_cases a b k l h =
    elim h [
      | inl lt ↦ inl (inl lt)
      | inr e ↦ elim (cases_lt l b) [
        | inl lt ↦ inl (inr (e.0, lt))
        | inr le ↦
            inr (e.0, omega (arith, e.1, le))
      ]
    ]

judged_here : (d : RawDieline) (a b k l : ℕ) → k ≡ a → l ≡ b → AreJudged d k l → AreJudged d a b
judged_here d a b k l e f h = subst (λ x. AreJudged d x b) e (subst (λ y. AreJudged d k y) f h)

-- a pair that is not to be judged is passed over
pub skip : (m : ℕ) (d : RawDieline) (a b count : ℕ) → IsJudgedSoFar m d a b count → ¬ (AreJudged d a b)
    → IsJudgedSoFar m d a (b + 1) count
skip m d a b count h unjudged = record {
  pairs = h.pairs;
  ordered = h.ordered;
  judged = h.judged;
  early = All-weaker (λ p. IsBefore p (a, b)) (λ p. IsBefore p (a, b + 1)) (before_next a b) h.pairs h.early;
  whole = λ k l before j. elim (next_cases a b k l before) [
    | inl now ↦ h.whole k l now j
    | inr e ↦
        absurd (unjudged (judged_here d a b k l e.0 e.1 j))
  ];
  parted = λ k l before j. elim (next_cases a b k l before) [
    | inl now ↦ h.parted k l now j
    | inr e ↦
        absurd (unjudged (judged_here d a b k l e.0 e.1 j))
  ];
  count_is = h.count_is;
  bound = omega (arith, h.bound);
}

-- a pair that is parted is counted
pub add : (m : ℕ) (d : RawDieline) (a b count : ℕ) → IsJudgedSoFar m d a b count → AreJudged d a b
    → AreParted m d a b → IsJudgedSoFar m d a (b + 1) (count + 1)
add m d a b count h j p = record {
  pairs = h.pairs ++ (a, b) ∷ [];
  ordered = all_pairs_push IsBefore h.pairs (a, b) h.ordered (λ k x lt. h.early k x lt);
  judged = All-push (λ q. AreJudged d q.0 q.1) h.pairs (a, b) h.judged j;
  early =
      All-push (λ q. IsBefore q (a, b + 1)) h.pairs (a, b)
      (All-weaker (λ q. IsBefore q (a, b)) (λ q. IsBefore q (a, b + 1)) (before_next a b) h.pairs h.early)
      (inr (refl, omega arith));
  whole = λ k l before i. elim (next_cases a b k l before) [
    | inl now ↦ Contains-append_left h.pairs ((a, b) ∷ []) (k, l) (h.whole k l now i)
    | inr e ↦
        subst (λ x. Contains (h.pairs ++ (a, b) ∷ []) (x, l)) (sym e.0)
        (subst (λ y. Contains (h.pairs ++ (a, b) ∷ []) (a, y)) (sym e.1) (Contains-push h.pairs (a, b)))
  ];
  parted = λ k l before i. elim (next_cases a b k l before) [
    | inl now ↦ h.parted k l now i
    | inr e ↦ subst (λ x. AreParted m d x l) (sym e.0) (subst (λ y. AreParted m d a y) (sym e.1) p)
  ];
  count_is = omega (arith, h.count_is, length-append h.pairs ((a, b) ∷ []));
  bound = omega (arith, h.bound);
}

-- after a whole row comes the next one
pub next_row : (m : ℕ) (d : RawDieline) (a count : ℕ) → length d.faces ≤ 24
    → IsJudgedSoFar m d a (length d.faces) count → IsJudgedSoFar m d (a + 1) (a + 1 + 1) count
next_row m d a count few h =
    let earlier : (k l : ℕ) → IsBefore (k, l) (a + 1, a + 1 + 1) → AreJudged d k l
    → IsBefore (k, l) (a, length d.faces) =
    λ k l before j. elim before [
      | inl lt ↦ elim (cases_lt k a) [ inl less ↦ inl less | inr le ↦ inr (omega (arith, lt, le), j.1) ]
      | inr e ↦ absurd (omega (arith, e.0, e.1, j.0))
    ] in
    record {
      pairs = h.pairs;
      ordered = h.ordered;
      judged = h.judged;
      early = All-weaker (λ p. IsBefore p (a, length d.faces)) (λ p. IsBefore p (a + 1, a + 1 + 1))
          (λ p before. elim before [ inl lt ↦ inl (omega (arith, lt)) | inr e ↦ inl (omega (arith, e.0)) ])
          h.pairs h.early;
      whole = λ k l before j. h.whole k l (earlier k l before j) j;
      parted = λ k l before j. h.parted k l (earlier k l before j) j;
      count_is = h.count_is;
      bound = omega (arith, h.bound, few);
    }

-- before the first row no pair was judged
pub start : (m : ℕ) (d : RawDieline) → IsJudgedSoFar m d 0 1 0
start m d =
    let none : (k l : ℕ) → IsBefore (k, l) (0, 1) → AreJudged d k l
    → ⊥ = λ k l before j. elim before [
      | inl lt ↦ omega (arith, lt)
      | inr e ↦
          omega (arith, e.0, e.1, j.0)
    ] in
    record {
      pairs = [];
      ordered = λ i j x lt less. absurd (omega (arith, less));
      judged = All-nil (λ p. AreJudged d p.0 p.1);
      early = All-nil (λ p. IsBefore p (0, 1));
      whole = λ k l before j. absurd (none k l before j);
      parted = λ k l before j. absurd (none k l before j);
      count_is = refl;
      bound = omega arith;
    }

-- after the last row all pairs were judged
pub finish : (m : ℕ) (d : RawDieline) (a b count : ℕ) → length d.faces ≤ a → IsJudgedSoFar m d a b count
    → ((k l : ℕ) → AreJudged d k l → AreParted m d k l)
    × ((pairs : List (ℕ × ℕ)) × IsAllPairs d pairs × (count ≡ length pairs))
finish m d a b count all h =
    let before : (k l : ℕ) → AreJudged d k l → IsBefore (k, l) (a, b) =
    λ k l j. inl (omega (arith, all, j.0, j.1)) in (
      λ k l j. h.parted k l (before k l j) j,
      (
        h.pairs,
        record {
          ordered = h.ordered;
          judged = h.judged;
          whole = λ k l j. h.whole k l (before k l j) j;
        },
        h.count_is,
      ),
    )
