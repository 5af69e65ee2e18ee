-- Sides of a face among the edges of a dieline.
use Rattle.std.proofs.Common.{◌≡◌, ℕ, ◌<◌, inl, inr, Some, List, length, get_or, take, sym, ◌∙◌, ap, subst}
use Rattle.std.proofs.Common.{arith}
use Rattle.std.specs.Prelude.{Any}
use Rattle.std.proofs.lemmas.Option.{slice_get-get_or, get_or_from_slice_get}
use Rattle.std.proofs.lemmas.List.{get_or-take, length-take}
use Rattle.carton_base.specs.declared.dieline.Ends.{Ends}
use Rattle.carton_panels.specs.Around.{Step, around}
use Rattle.carton_panels.specs.Creases.{HasEnds, IsSideOf}

-- an edge between p and q has the ends that any other between them has
pub same_ends : (e f : Ends) (p q : ℕ) → HasEnds f p q → HasEnds e p q → HasEnds e f.p f.q
same_ends e f p q (inl u) (inl v) = inl (v.0 ∙ sym u.0, v.1 ∙ sym u.1)
same_ends e f p q (inl u) (inr v) = inr (v.0 ∙ sym u.1, v.1 ∙ sym u.0)
same_ends e f p q (inr u) (inl v) = inr (v.0 ∙ sym u.1, v.1 ∙ sym u.0)
same_ends e f p q (inr u) (inr v) = inl (v.0 ∙ sym u.0, v.1 ∙ sym u.1)

pub has_ends_too : (e f : Ends) (p q : ℕ) → HasEnds f p q → HasEnds e f.p f.q → HasEnds e p q
has_ends_too e f p q (inl u) (inl v) = inl (v.0 ∙ u.0, v.1 ∙ u.1)
has_ends_too e f p q (inl u) (inr v) = inr (v.0 ∙ u.1, v.1 ∙ u.0)
has_ends_too e f p q (inr u) (inl v) = inr (v.0 ∙ u.0, v.1 ∙ u.1)
has_ends_too e f p q (inr u) (inr v) = inl (v.0 ∙ u.1, v.1 ∙ u.0)

-- what the two tests of a side say together
pub side_from_tests : (edges : List Ends) (vertices : List ℕ) (k : ℕ) (d : Ends) → k < length edges
    → Any (λ (s : Step ℕ). HasEnds (get_or edges k d) s.from s.to) (around vertices)
    → ¬ (Any (λ e. HasEnds e (get_or edges k d).p (get_or edges k d).q) (take k edges))
    → IsSideOf edges vertices k
side_from_tests edges vertices k d h a n =
    let s = a.1 in
    let f = get_or edges k d in (
      s.from,
      s.to,
      (a.0, a.2, a.3),
      record {
        within = h;
        ends = λ e g. subst (λ x. HasEnds x s.from s.to) (get_or_from_slice_get edges k e d g) a.4;
        first = λ j e l g b.
            let m : j < length (take k edges) = omega (arith, length-take k edges) in
            let i : get_or (take k edges) j e ≡ e = get_or-take k edges j e l
            ∙ get_or_from_slice_get edges j e e g in
            n (j, e, m, i, same_ends e f s.from s.to a.4 b);
      },
    )

pub tests_from_side : (edges : List Ends) (vertices : List ℕ) (k : ℕ) (d : Ends) → k < length edges
    → IsSideOf edges vertices k
    → Any (λ (s : Step ℕ). HasEnds (get_or edges k d) s.from s.to) (around vertices)
    × ¬ (Any (λ e. HasEnds e (get_or edges k d).p (get_or edges k d).q) (take k edges))
tests_from_side edges vertices k d h s =
    let f = get_or edges k d in
    let b = s.3.ends f (slice_get-get_or edges k d h) in (
      (s.2.0, record { from = s.0; to = s.1 }, s.2.1, s.2.2, b),
      λ a.
          let j : a.0 < k = omega (arith, length-take k edges, a.2) in
          let l : a.0 < length edges = omega (arith, length-take k edges, a.2) in
          let i : get_or edges a.0 a.1 ≡ a.1 = sym (get_or-take k edges a.0 a.1 j) ∙ a.3 in
          s.3.first a.0 a.1 j (slice_get-get_or edges a.0 a.1 l ∙ ap Some i)
          (has_ends_too a.1 f s.0 s.1 b a.4),
    )
