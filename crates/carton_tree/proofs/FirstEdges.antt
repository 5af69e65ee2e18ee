-- Sides of panels among the edges: the first edge between two vertices, and the lists of edges that sides
-- are.
use Rattle.std.proofs.Common.{◌≡◌, ℕ, ◌<◌, ◌≤◌, inl, inr, List, [], ◌∷◌, ◌++◌, length, get_or, sym, ◌∙◌, ap}
use Rattle.std.proofs.Common.{subst, arith}
use Rattle.std.specs.Prelude.{Any, Contains}
use Rattle.std.proofs.lemmas.Bool.{cases_lt, cases_order}
use Rattle.std.proofs.lemmas.List.{get_or_append_left, get_or_push, get_or_default, length_push}
use Rattle.std.proofs.lemmas.Option.{slice_get-get_or}
use Rattle.carton_base.specs.declared.dieline.RawDieline.{RawDieline}
use Rattle.carton_base.specs.declared.dieline.Ends.{Ends}
use Rattle.carton_base.specs.declared.ids.EdgeId.{EdgeId}
use Rattle.carton_panels.specs.Around.{Step, around}
use Rattle.carton_panels.specs.Creases.{HasEnds, IsFirstEdge}
use Rattle.carton_tree.specs.Joints.{vertices_of, IsSide}
use Rattle.carton_tree.specs.Rules.{IsBare, IsSooner}
use Rattle.carton_tree.specs.Steps.{AreFirstSides, AreSides, AreAllSides}

-- two vertices have one first edge
pub first_unique : (edges : List Ends) (j k p q : ℕ) → IsFirstEdge edges j p q → IsFirstEdge edges k p q
    → j ≡ k
first_unique edges j k p q a b =
    let d : Ends = record { p = 0; q = 0 } in
    let at_j = slice_get-get_or edges j d a.within in
    let at_k = slice_get-get_or edges k d b.within in
    elim (cases_order j k) [
      | inl e ↦ e
      | inr (inl lt) ↦ absurd (b.first j (get_or edges j d) lt at_j (a.ends (get_or edges j d) at_j))
      | inr (inr gt) ↦ absurd (a.first k (get_or edges k d) gt at_k (b.ends (get_or edges k d) at_k))
    ]

-- no side yet
pub no_sides : (d : RawDieline) (f : ℕ) → AreFirstSides d f []
no_sides d f = record { few = omega arith; each = λ i s e lt. absurd (omega (arith, lt)) }

-- the edge of one side more
pub one_side_more : (d : RawDieline) (f : ℕ) (es : List EdgeId) (e : EdgeId) (s : Step ℕ)
    → AreFirstSides d f es → length es < length (around (vertices_of d f))
    → s ≡ get_or (around (vertices_of d f)) (length es) s → IsFirstEdge d.edges e.0 s.from s.to
    → AreFirstSides d f (es ++ e ∷ [])
one_side_more d f es e s h lt is first = record {
  few = omega (arith, length_push es e);
  each = λ i t x less. elim (cases_lt i (length es)) [
    | inl early ↦
        subst (λ y. IsFirstEdge d.edges y.0 (get_or (around (vertices_of d f)) i t).from
        (get_or (around (vertices_of d f)) i t).to) (sym (get_or_append_left es (e ∷ []) x i early))
        (h.each i t x early)
    | inr late ↦
        let here : length es ≡ i = omega (arith, length_push es e, less) in
        let side : s ≡ get_or (around (vertices_of d f)) i t =
        subst (λ k. s ≡ get_or (around (vertices_of d f)) k t) here
        (is ∙ get_or_default (around (vertices_of d f)) (length es) s t lt) in
        let edge : e ≡ get_or (es ++ e ∷ []) i x = sym (get_or_push es e x i here) in
        subst (λ (y : EdgeId). IsFirstEdge d.edges y.0 (get_or (around (vertices_of d f)) i t).from
        (get_or (around (vertices_of d f)) i t).to) edge
        (subst (λ (y : Step ℕ). IsFirstEdge d.edges e.0 y.from y.to) side first)
  ];
}

-- where the first edge between two vertices is known, some edge is between them
pub some_between : (edges : List Ends) (k p q : ℕ) → IsFirstEdge edges k p q → Any (λ e. HasEnds e p q) edges
some_between edges k p q h =
    let d : Ends = record { p = 0; q = 0 } in
    let x = get_or edges k d in (
      k,
      x,
      h.within,
      sym (get_or_default edges k d x h.within),
      h.ends x
          (slice_get-get_or edges k d h.within),
    )

-- a side whose edge is known isn't bare
pub not_bare : (d : RawDieline) (f i : ℕ) (es : List EdgeId) → AreFirstSides d f es → i < length es
    → ¬ (IsBare d f i)
not_bare d f i es h lt bare =
    let s : Step ℕ = record { from = 0; to = 0 } in
    let e : EdgeId = record { 0 = 0 } in
    let t = get_or (around (vertices_of d f)) i s in
    bare.bare s (some_between d.edges (get_or es i e).0 t.from t.to (h.each i s e lt))

-- so of the panels whose edges are all known no side is bare
pub none_bare : (d : RawDieline) (f i : ℕ) (all : List (List EdgeId)) → AreAllSides d all → f < length all
    → ¬ (IsBare d f i)
none_bare d f i all h lt bare =
    let es : List EdgeId = get_or all f [] in
    let is = h.each f [] lt in
    not_bare d f i es is.sides (omega (arith, is.whole, bare.side)) bare

pub none_sooner : (d : RawDieline) (f i g j : ℕ) (all : List (List EdgeId)) → AreAllSides d all
    → f ≤ length all → ((j : ℕ) → j < i → ¬ (IsBare d f j)) → IsSooner g j f i → ¬ (IsBare d g j)
none_sooner d f i g j all h le here (inl lt) = none_bare d g j all h (omega arith)
none_sooner d f i g j all h le here (inr e) = subst (λ x. ¬ (IsBare d x j)) (sym e.0) (here j e.1)

-- the edges of one panel more
pub one_panel_more : (d : RawDieline) (all : List (List EdgeId)) (es : List EdgeId) → AreAllSides d all
    → length all < length d.faces → AreSides d (length all) es → AreAllSides d (all ++ es ∷ [])
one_panel_more d all es h lt is = record {
  few = omega (arith, length_push all es);
  each = λ f x less. elim (cases_lt f (length all)) [
    | inl early ↦ subst (λ y. AreSides d f y) (sym (get_or_append_left all (es ∷ []) x f early))
        (h.each f x early)
    | inr late ↦
        let here : length all ≡ f = omega (arith, length_push all es, less) in
        subst (λ y. AreSides d f y) (sym (get_or_push all es x f here)) (subst (λ n. AreSides d n es) here is)
  ];
}

-- an edge is a side of a panel exactly where it is one of the panel's edges
pub side_from_edge : (d : RawDieline) (f : ℕ) (es : List EdgeId) (e : EdgeId) → f < length d.faces
    → AreSides d f es → Contains es e → IsSide d e.0 f
side_from_edge d f es e lt h has =
    let z : Step ℕ = record { from = 0; to = 0 } in
    let t : Step ℕ = get_or (around (vertices_of d f)) has.0 z in
    let side : has.0 < length (around (vertices_of d f)) = omega (arith, h.whole, has.1) in
    let first = subst (λ (y : EdgeId). IsFirstEdge d.edges y.0 t.from t.to) has.2
    (h.sides.each has.0 z e has.1) in
    record {
      panel = lt;
      side = (
        t.from,
        t.to,
        (has.0, side, sym (get_or_default (around (vertices_of d f)) has.0 z t side)),
        first,
      );
    }

pub edge_from_side : (d : RawDieline) (f : ℕ) (es : List EdgeId) (e : EdgeId) → AreSides d f es
    → IsSide d e.0 f → Contains es e
edge_from_side d f es e h s =
    let p = s.side.0 in
    let q = s.side.1 in
    let i = s.side.2.0 in
    let lt : i < length es = omega (arith, h.whole, s.side.2.1) in
    let here = h.sides.each i (record { from = p; to = q }) e lt in
    let same : (get_or es i e).0 ≡ e.0 =
    first_unique d.edges (get_or es i e).0 e.0 p q
    (subst (λ (y : Step ℕ). IsFirstEdge d.edges (get_or es i e).0 y.from y.to) s.side.2.2 here)
    s.side.3 in
    (i, lt, ap (λ n. record { 0 = n }) same)

-- a side between whose vertices no edge goes
pub bare_here : (d : RawDieline) (f i : ℕ) (s : Step ℕ) → f < length d.faces
    → i < length (around (vertices_of d f)) → s ≡ get_or (around (vertices_of d f)) i s
    → ¬ (Any (λ e. HasEnds e s.from s.to) d.edges) → IsBare d f i
bare_here d f i s fl lt is none = record {
  panel = fl;
  side = lt;
  bare = λ t. subst (λ (y : Step ℕ). ¬ (Any (λ e. HasEnds e y.from y.to) d.edges))
      (is ∙ get_or_default (around (vertices_of d f)) i s t lt) none;
}
