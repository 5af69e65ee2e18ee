-- The node that is taken from the queue.
use Rattle.std.proofs.Common.{◌≡◌, ℕ, ◌+◌, ◌<◌, ◌≤◌, Bool, true, false, List, Option, Some, None, slice_get}
use Rattle.std.proofs.Common.{inl, inr, refl, ap, sym, ◌∙◌, subst, arith}
use Rattle.carton_base.specs.declared.motion.State.{State}
use Rattle.carton_search.specs.declared.known.Entry.{Entry}
use Rattle.carton_search.specs.Known.{Reached, HasParent, IsTree, IsClosed, Stands, AllClosed, ClosedBut}
use Rattle.carton_search.specs.Known.{Queued, Changed}
use Rattle.carton_search.proofs.Lists.{same_get, which}
use Rattle.carton_search.proofs.Best.{changed_get, changed_kept}

apart_tried : (t : Bool) → t ≡ true → t ≡ false → ⊥
apart_tried t a b = cc

-- y is e, now tried
pub record IsMarked (es : List Entry) (place : ℕ) (e y : Entry) : Type 0 where
  pub there : slice_get es place ≡ Some e
  pub waits : e.tried ≡ false
  pub tried : y.tried ≡ true
  pub state : y.state ≡ e.state
  pub moves : y.moves ≡ e.moves
  pub parent : y.parent ≡ e.parent

module _ (es new : List Entry) (place : ℕ) (e y : Entry) (c : Changed es new place y)
    (is : IsMarked es place e y) where
  elsewhere : (i : ℕ) (x : Entry) → slice_get es i ≡ Some x → x.tried ≡ true → i ≡ place → ⊥
  elsewhere i x h tried same =
      apart_tried x.tried tried (ap (λ z. z.tried) (same_get es i place x e same h is.there) ∙ is.waits)

  pub reached_marked : (s : State) (m : ℕ) → Reached es s m → Reached new s m
  reached_marked s m r = elim (which r.place place) [
    | inl k ↦
        let same : r.entry ≡ e = same_get es r.place place r.entry e k r.there is.there in
        let few : r.entry.moves ≤ m = r.few in
        let em : r.entry.moves ≡ e.moves = ap (λ z. z.moves) same in
        let ym : y.moves ≡ e.moves = is.moves in
        record {
          place = place;
          entry = y;
          there = c.at;
          same = is.state ∙ sym (ap (λ z. z.state) same)
              ∙ r.same;
          few = omega (arith, few, em, ym);
        }
    | inr n ↦
        record {
          place = r.place;
          entry = r.entry;
          there = changed_kept es new place y c r.place r.entry n r.there;
          same = r.same;
          few = r.few;
        }
  ]

  pub closed_marked : (S : State → State → Type 0) (target : State) → AllClosed S target es
      → ClosedBut S target new place
  closed_marked S target k i x n h tried = elim (changed_get es new place y c i x h) [
    | inl a ↦ absurd (n a.0)
    | inr o ↦
        let d : IsClosed S target es x = k i x o.1 tried in
        record { other = d.other; onward = λ b s. reached_marked b (x.moves + 1) (d.onward b s) }
  ]

  -- the node at the place before
  was : (i : ℕ) (x : Entry) → slice_get new i ≡ Some x → (w : Entry) × (slice_get es i ≡ Some w)
      × (w.state ≡ x.state) × (w.moves ≡ x.moves) × (w.parent ≡ x.parent)
  was i x h = elim (changed_get es new place y c i x h) [
    | inl k ↦ (
      e,
      ap (slice_get es) k.0 ∙ is.there,
      sym is.state ∙ sym (ap (λ z. z.state) k.1),
      sym is.moves
          ∙ sym (ap (λ z. z.moves) k.1),
      sym is.parent ∙ sym (ap (λ z. z.parent) k.1),
    )
    | inr o ↦ (x, o.1, refl, refl, refl)
  ]

  module _ (C : State → State → Type 0) (start : State) (t : IsTree C start es) where
    first_of : (w : (x : Entry) × (slice_get new 0 ≡ Some x)) → (w.0.state ≡ start) × (w.0.moves ≡ 0)
    first_of (x, h) =
        let b = was 0 x h in
        let same : b.0 ≡ t.root = same_get es 0 0 b.0 t.root refl b.1 t.first in
        (sym b.2 ∙ ap (λ z. z.state) same ∙ t.begins, sym b.3 ∙ ap (λ z. z.moves) same ∙ t.no_moves)

    first_new : (x : Entry) × (slice_get new 0 ≡ Some x)
    first_new = elim (which 0 place) [
      | inl k ↦ (y, ap (slice_get new) k ∙ c.at)
      | inr n ↦ (t.root, changed_kept es new place y c 0 t.root n t.first)
    ]

    marked_parents : (i : ℕ) (x : Entry) → 0 < i → slice_get new i ≡ Some x → HasParent C new x
    marked_parents i x more h =
        let b = was i x h in
        let p : HasParent C es b.0 = t.parents i b.0 more b.1 in
        let there : slice_get es x.parent ≡ Some p.parent =
        subst (λ k. slice_get es k ≡ Some p.parent) b.4 p.there in record {
          parent = p.parent;
          there = changed_kept es new place y c x.parent p.parent (elsewhere x.parent p.parent there p.tried)
              there;
          tried = p.tried;
          clear = subst (C p.parent.state) b.2 p.clear;
          more = sym b.3 ∙ p.more;
        }

    pub tree_marked : IsTree C start new
    tree_marked = record {
      root = first_new.0;
      first = first_new.1;
      begins = (first_of first_new).0;
      no_moves = (first_of first_new).1;
      parents = marked_parents;
      apart = λ i k a b p q same. let u = was i a p in let v = was k b q in
          t.apart i k u.0 v.0 u.1 v.1 (u.2 ∙ same ∙ sym v.2);
    }

  module _ (C : State → State → Type 0) (h : State → ℕ) (start : State) (last p : ℕ) (q r : ℕ → Option ℕ)
      (dropped : Bool) (s : Stands C h start es last) (k : Queued C h start es q dropped)
      (taken : q place ≡ Some p) (gone : r place ≡ None) (others : (n : ℕ) → (n ≡ place → ⊥) → r n ≡ q n)
      (least : (n m : ℕ) → q n ≡ Some m → p ≤ m) where
    pub priority : (p ≡ e.moves + h e.state) × (p ≤ 4095)
    priority =
        let b = k.stands place p taken in
        let same : b.0 ≡ e = same_get es place place b.0 e refl b.1 is.there in
        (b.3 ∙ ap (λ z. z.moves + h z.state) same, b.4)

    pub stands_marked : Stands C h start new p
    stands_marked =
        let pe : p ≡ e.moves + h e.state = priority.0 in
        let few : p ≤ 4095 = priority.1 in
        let rise : last ≤ e.moves + h e.state = s.late place e is.there is.waits in record {
          tree = tree_marked C start s.tree;
          early = λ i x g tried. elim (changed_get es new place y c i x g) [
            | inl n ↦
                let m : x.moves ≡ e.moves = ap (λ z. z.moves) n.1 ∙ is.moves in
                let v : h x.state ≡ h e.state = ap h (ap (λ z. z.state) n.1 ∙ is.state) in
                omega (arith, pe, m, v)
            | inr o ↦
                let l : x.moves + h x.state ≤ last = s.early i x o.1 tried in
                omega (arith, l, rise, pe)
          ];
          late = λ i x g waits. elim (changed_get es new place y c i x g) [
            | inl n ↦ absurd (apart_tried x.tried (ap (λ z. z.tried) n.1 ∙ is.tried) waits)
            | inr o ↦ elim (k.waits i x o.1 waits) [
              | inl stays ↦ least i (x.moves + h x.state) stays
              | inr far ↦ let l : 4095 < x.moves + h x.state = far.2 in omega (arith, l, few)
            ]
          ];
        }

    pub queued_marked : Queued C h start new r dropped
    queued_marked = record {
      waits = λ i x g w. elim (changed_get es new place y c i x g) [
        | inl n ↦ absurd (apart_tried x.tried (ap (λ z. z.tried) n.1 ∙ is.tried) w)
        | inr o ↦ elim (k.waits i x o.1 w) [
          | inl stays ↦ inl (others i o.0 ∙ stays)
          | inr far ↦ inr (others i o.0 ∙ far.0, far.1, far.2)
        ]
      ];
      stands = λ i m g. elim (which i place) [
        | inl n ↦ absurd (let v : None ≡ Some m = sym gone ∙ ap r (sym n) ∙ g in cc)
        | inr n ↦
            let b = k.stands i m (sym (others i n) ∙ g) in
            (b.0, changed_kept es new place y c i b.0 n b.1, b.2, b.3, b.4)
      ];
      far = k.far;
    }
