-- Panels along an edge: which way they go, and whether it joins them.
use Rattle.std.proofs.Common.{◌≡◌, ℕ, ◌<◌, ◌⊎◌, inl, inr, List, [], length, Option, Some, None, false, refl}
use Rattle.std.proofs.Common.{sym, ap, subst, arith}
use Rattle.std.proofs.lemmas.Bool.{cases_lt}
use Rattle.std.proofs.lemmas.List.{get_or_past}
use Rattle.carton_base.specs.declared.dieline.Face.{Face}
use Rattle.std.specs.Prelude.{Contains, is_some}
use Rattle.std.proofs.lemmas.Option.{slice_get-get_or}
use Rattle.carton_base.specs.declared.dieline.RawDieline.{RawDieline}
use Rattle.carton_base.specs.declared.dieline.Ends.{Ends}
use Rattle.carton_base.specs.declared.ids.PanelId.{PanelId}
use Rattle.carton_panels.specs.Around.{Step, around}
use Rattle.carton_panels.specs.Creases.{HasEnds, IsFirstEdge}
use Rattle.carton_tree.specs.declared.besides.Beside.{Beside}
use Rattle.carton_tree.specs.declared.besides.Beside.TheVariants.{Nobody, One, Two, More}
use Rattle.carton_tree.specs.Joints.{vertices_of, GoesFrom, GoesAlong, IsSide, IsJoint, edge_at}
use Rattle.carton_tree.specs.Rules.{IsThreefold, IsOneWay}
use Rattle.carton_tree.specs.Steps.{IsBeside, IsPairAnswer, GoBoth}
use Rattle.carton_tree.proofs.Gathering.{threefold, no_joint_of_nobody, no_joint_of_one}

other_way : (e : Ends) (p q : ℕ) → HasEnds e p q → HasEnds e q p
other_way e p q (inl b) = inr b
other_way e p q (inr b) = inl b

first_turned : (edges : List Ends) (k p q : ℕ) → IsFirstEdge edges k p q → IsFirstEdge edges k q p
first_turned edges k p q h = record {
  within = h.within;
  ends = λ e g. other_way e p q (h.ends e g);
  first = λ j e lt g b. h.first j e lt g (other_way e q p b);
}

-- an edge goes between its own ends
ends_of : (d : RawDieline) (k p q : ℕ) → IsFirstEdge d.edges k p q → HasEnds (edge_at d k) p q
ends_of d k p q h = h.ends (edge_at d k) (slice_get-get_or d.edges k (record { p = 0; q = 0 }) h.within)

first_by_ends : (d : RawDieline) (k p q : ℕ) → IsFirstEdge d.edges k p q
    → IsFirstEdge d.edges k (edge_at d k).p (edge_at d k).q
first_by_ends d k p q h = at (ends_of d k p q h)
  where
    at : HasEnds (edge_at d k) p q → IsFirstEdge d.edges k (edge_at d k).p (edge_at d k).q
    at (inl b) =
        subst (λ x. IsFirstEdge d.edges k x (edge_at d k).q) (sym b.0)
        (subst (λ y. IsFirstEdge d.edges k p y) (sym b.1) h)
    at (inr b) =
        subst (λ x. IsFirstEdge d.edges k x (edge_at d k).q) (sym b.0)
        (subst (λ y. IsFirstEdge d.edges k q y) (sym b.1) (first_turned d.edges k p q h))

-- two panels that go along the edge in one direction go both from the one end, or both from the other
go_both : (d : RawDieline) (k f g p q : ℕ) → GoesAlong d k f p q → GoesAlong d k g p q → GoBoth d k f g
go_both d k f g p q a b = at (ends_of d k p q a.edge)
  where
    at : HasEnds (edge_at d k) p q → GoBoth d k f g
    at (inl e) = inl (turn f a.side, turn g b.side)
      where
        turn : (x : ℕ) → GoesFrom d x p q → GoesFrom d x (edge_at d k).p (edge_at d k).q
        turn x h =
            subst (λ v. GoesFrom d x v (edge_at d k).q) (sym e.0) (subst (λ v. GoesFrom d x p v) (sym e.1) h)
    at (inr e) = inr (turn f a.side, turn g b.side)
      where
        turn : (x : ℕ) → GoesFrom d x p q → GoesFrom d x (edge_at d k).q (edge_at d k).p
        turn x h =
            subst (λ v. GoesFrom d x v (edge_at d k).p) (sym e.1) (subst (λ v. GoesFrom d x p v) (sym e.0) h)

-- only panels of the dieline have sides
some_side : (d : RawDieline) (f : ℕ) (s : Step ℕ) → Contains (around (vertices_of d f)) s → f < length d.faces
some_side d f s h = elim (cases_lt f (length d.faces)) [
  | inl l ↦ l
  | inr past ↦
      let none : vertices_of d f ≡ [] =
      ap (λ (x : Face). x.corners) (get_or_past d.faces f (record { corners = [] }) past) in
      let empty : h.0 < 0 = subst (λ (vs : List ℕ). h.0 < length (around vs)) none h.1 in
      absurd (omega (arith, empty))
]

side_of : (d : RawDieline) (k f p q : ℕ) → f < length d.faces → GoesAlong d k f p q → IsSide d k f
side_of d k f p q lt h = record { panel = lt; side = (p, q, h.side, h.edge) }

-- a panel that goes along an edge is one of the dieline
panel_of : (d : RawDieline) (k f p q : ℕ) → GoesAlong d k f p q → f < length d.faces
panel_of d k f p q h = some_side d f (record { from = p; to = q }) h.side

-- two panels go one way where both go from one end
pub one_way : (d : RawDieline) (k : ℕ) (f g : PanelId) → IsBeside (IsSide d k) (length d.faces) (Two f g)
    → GoBoth d k f.0 g.0 → IsOneWay d k
one_way d k f g b (inl h) = let e = first_by_ends d k b.2.side.0 b.2.side.1 b.2.side.3 in (
  f.0,
  g.0,
  (edge_at d k).p,
  (edge_at d k).q,
  b.0,
  record { side = h.0; edge = e },
  record {
    side = h.1;
    edge = e;
  },
)
one_way d k f g b (inr h) =
    let e = first_turned d.edges k (edge_at d k).p (edge_at d k).q
    (first_by_ends d k b.2.side.0 b.2.side.1 b.2.side.3) in (
      f.0,
      g.0,
      (edge_at d k).q,
      (edge_at d k).p,
      b.0,
      record { side = h.0; edge = e },
      record {
        side = h.1;
        edge = e;
      },
    )

pub not_one_way : (d : RawDieline) (k : ℕ) (b : Beside) → IsBeside (IsSide d k) (length d.faces) b
    → ¬ (IsThreefold d k) → ((f g : PanelId) → b ≡ Two f g → ¬ (GoBoth d k f.0 g.0)) → ¬ (IsOneWay d k)
not_one_way d k Nobody b few none w =
    b w.0 (panel_of d k w.0 w.2 w.3 w.5) (side_of d k w.0 w.2 w.3 (panel_of d k w.0 w.2 w.3 w.5) w.5)
not_one_way d k (One f) b few none w =
    let x = b.2 w.0 (panel_of d k w.0 w.2 w.3 w.5)
    (side_of d k w.0 w.2 w.3 (panel_of d k w.0 w.2 w.3 w.5) w.5) in
    let y = b.2 w.1 (panel_of d k w.1 w.2 w.3 w.6)
    (side_of d k w.1 w.2 w.3 (panel_of d k w.1 w.2 w.3 w.6) w.6) in
    omega (arith, w.4, x, y)
not_one_way d k (Two f g) b few none w =
    let x = b.4 w.0 (panel_of d k w.0 w.2 w.3 w.5)
    (side_of d k w.0 w.2 w.3 (panel_of d k w.0 w.2 w.3 w.5) w.5) in
    let y = b.4 w.1 (panel_of d k w.1 w.2 w.3 w.6)
    (side_of d k w.1 w.2 w.3 (panel_of d k w.1 w.2 w.3 w.6) w.6) in
    let both = go_both d k w.0 w.1 w.2 w.3 w.5 w.6 in
    at x y both
  where
    at : (w.0 ≡ f.0) ⊎ (w.0 ≡ g.0) → (w.1 ≡ f.0) ⊎ (w.1 ≡ g.0) → GoBoth d k w.0 w.1 → ⊥
    at (inl s) (inl t) both = omega (arith, w.4, s, t)
    at (inl s) (inr t) both =
        none f g refl (subst (λ z. GoBoth d k z g.0) s (subst (λ z. GoBoth d k w.0 z) t both))
    at (inr s) (inl t) both = omega (arith, w.4, s, t, b.0)
    at (inr s) (inr t) both = omega (arith, w.4, s, t)
not_one_way d k More b few none w = few (threefold d k b)

-- an edge with no two panels beside it joins none
pub no_joint : (d : RawDieline) (k : ℕ) (b : Beside) → IsBeside (IsSide d k) (length d.faces) b
    → ¬ (IsThreefold d k) → ((f g : PanelId) → ¬ (b ≡ Two f g)) → ¬ (IsJoint d k)
no_joint d k Nobody b few none = no_joint_of_nobody d k b
no_joint d k (One f) b few none = no_joint_of_one d k f b
no_joint d k (Two f g) b few none = absurd (none f g refl)
no_joint d k More b few none = absurd (few (threefold d k b))

pub no_pair : (d : RawDieline) (k : ℕ) (r : Option (PanelId × PanelId)) → IsPairAnswer d k r
    → is_some r ≡ false → ¬ (IsJoint d k)
no_pair d k None h e = h
no_pair d k (Some p) h e = absurd (cc)
