-- A node that is new, or found again with fewer moves.
use Rattle.std.proofs.Common.{◌≡◌, ℕ, ◌+◌, ◌<◌, ◌≤◌, Bool, true, false, List, Option, Some, None, slice_get}
use Rattle.std.proofs.Common.{◌⊎◌, inl, inr, refl, ap, sym, ◌∙◌, subst, arith}
use Rattle.carton_base.specs.declared.motion.State.{State}
use Rattle.carton_search.specs.declared.known.Entry.{Entry}
use Rattle.carton_search.specs.Paths.{HasFarPath}
use Rattle.carton_search.specs.Known.{Reached, HasParent, IsTree, IsClosed, Stands, ClosedBut, Queued}
use Rattle.carton_search.specs.Known.{Changed}
use Rattle.carton_search.proofs.Lists.{same_get, which}

module _ (old new : List Entry) (j : ℕ) (y : Entry) (c : Changed old new j y) where
  pub changed_get : (i : ℕ) (x : Entry) → slice_get new i ≡ Some x → ((i ≡ j) × (x ≡ y))
      ⊎ ((i ≡ j → ⊥) × (slice_get old i ≡ Some x))
  changed_get i x h = elim (which i j) [
    | inl e ↦ inl (e, same_get new i j x y e h c.at)
    | inr n ↦ inr (n, sym (c.others i n) ∙ h)
  ]

  pub changed_kept : (i : ℕ) (x : Entry) → (i ≡ j → ⊥) → slice_get old i ≡ Some x → slice_get new i ≡ Some x
  changed_kept i x n h = c.others i n ∙ h

-- what stood at the place waits, with more moves; no other node has the state
pub record Fresh (es : List Entry) (j : ℕ) (y : Entry) : Type 0 where
  pub before : (u : Entry) → slice_get es j ≡ Some u → (u.state ≡ y.state) × (u.tried ≡ false)
      × (y.moves < u.moves)
  pub only : (i : ℕ) (e : Entry) → slice_get es i ≡ Some e → e.state ≡ y.state → i ≡ j

-- y comes from e, which is being tried
pub record IsNext (C : State → State → Type 0) (es : List Entry) (place : ℕ) (e y : Entry) : Type 0 where
  pub there : slice_get es place ≡ Some e
  pub tried : e.tried ≡ true
  pub parent : y.parent ≡ place
  pub moves : y.moves ≡ e.moves + 1
  pub waits : y.tried ≡ false
  pub clear : C e.state y.state

apart_tried : (t : Bool) → t ≡ true → t ≡ false → ⊥
apart_tried t a b = cc

module _ (es new : List Entry) (j : ℕ) (y : Entry) (c : Changed es new j y) (f : Fresh es j y) where
  -- a tried node stands elsewhere
  elsewhere : (i : ℕ) (x : Entry) → slice_get es i ≡ Some x → x.tried ≡ true → i ≡ j → ⊥
  elsewhere i x h tried same =
      apart_tried x.tried tried (f.before x (subst (λ k. slice_get es k ≡ Some x) same h)).1

  pub reached_changed : (s : State) (m : ℕ) → Reached es s m → Reached new s m
  reached_changed s m r = elim (which r.place j) [
    | inl e ↦
        let b = f.before r.entry (subst (λ k. slice_get es k ≡ Some r.entry) e r.there) in
        let l : y.moves < r.entry.moves = b.2 in
        let few : r.entry.moves ≤ m = r.few in
        record { place = j; entry = y; there = c.at; same = sym b.0 ∙ r.same; few = omega (arith, l, few) }
    | inr n ↦
        record {
          place = r.place;
          entry = r.entry;
          there = changed_kept es new j y c r.place r.entry n r.there;
          same = r.same;
          few = r.few;
        }
  ]

  pub closed_changed : (S : State → State → Type 0) (target : State) (place : ℕ) → y.tried ≡ false
      → ClosedBut S target es place → ClosedBut S target new place
  closed_changed S target place waits k i x n h tried = elim (changed_get es new j y c i x h) [
    | inl e ↦ absurd (apart_tried x.tried tried (ap (λ z. z.tried) e.1 ∙ waits))
    | inr o ↦
        let d : IsClosed S target es x = k i x n o.1 tried in
        record { other = d.other; onward = λ b s. reached_changed b (x.moves + 1) (d.onward b s) }
  ]

  module _ (C : State → State → Type 0) (place : ℕ) (e : Entry) (is : IsNext C es place e y) where
    parent_changed : (x : Entry) → HasParent C es x → HasParent C new x
    parent_changed x p =
        record {
          parent = p.parent;
          there = changed_kept es new j y c x.parent p.parent (elsewhere x.parent p.parent p.there p.tried)
              p.there;
          tried = p.tried;
          clear = p.clear;
          more = p.more;
        }

    pub place_kept : slice_get new place ≡ Some e
    place_kept = changed_kept es new j y c place e (elsewhere place e is.there is.tried) is.there

    new_parent : HasParent C new y
    new_parent =
        record {
          parent = e;
          there = subst (λ p. slice_get new p ≡ Some e) (sym is.parent) place_kept;
          tried = is.tried;
          clear = is.clear;
          more = is.moves;
        }

    not_first : (start : State) → IsTree C start es → 0 ≡ j → ⊥
    not_first start t same =
        let b = f.before t.root (subst (λ k. slice_get es k ≡ Some t.root) same t.first) in
        let l : y.moves < t.root.moves = b.2 in
        let z : t.root.moves ≡ 0 = t.no_moves in
        omega (arith, l, z)

    tree_parents : (start : State) → IsTree C start es → (i : ℕ) (x : Entry) → 0 < i
        → slice_get new i ≡ Some x → HasParent C new x
    tree_parents start t i x more h = elim (changed_get es new j y c i x h) [
      | inl k ↦ subst (HasParent C new) (sym k.1) new_parent
      | inr o ↦ parent_changed x (t.parents i x more o.1)
    ]

    tree_apart : (start : State) → IsTree C start es → (i k : ℕ) (a b : Entry) → slice_get new i ≡ Some a
        → slice_get new k ≡ Some b → a.state ≡ b.state → i ≡ k
    tree_apart start t i k a b p q same = elim (changed_get es new j y c i a p) [
      | inl na ↦ elim (changed_get es new j y c k b q) [
        | inl nb ↦ na.0 ∙ sym nb.0
        | inr ob ↦ na.0 ∙ sym (f.only k b ob.1 (sym same ∙ ap (λ z. z.state) na.1))
      ]
      | inr oa ↦ elim (changed_get es new j y c k b q) [
        | inl nb ↦ f.only i a oa.1 (same ∙ ap (λ z. z.state) nb.1) ∙ sym nb.0
        | inr ob ↦ t.apart i k a b oa.1 ob.1 same
      ]
    ]

    pub tree_changed : (start : State) → IsTree C start es → IsTree C start new
    tree_changed start t = record {
      root = t.root;
      first = changed_kept es new j y c 0 t.root (not_first start t) t.first;
      begins = t.begins;
      no_moves = t.no_moves;
      parents = tree_parents start t;
      apart = tree_apart start t;
    }

    module _ (h : State → ℕ) (start : State) (last : ℕ) (falls : h e.state ≤ h y.state + 1)
        (now : e.moves + h e.state ≡ last) where
      pub stands_changed : Stands C h start es last → Stands C h start new last
      stands_changed s = record {
        tree = tree_changed start s.tree;
        early = λ i x g tried. elim (changed_get es new j y c i x g) [
          | inl k ↦ absurd (apart_tried x.tried tried (ap (λ z. z.tried) k.1 ∙ is.waits))
          | inr o ↦ s.early i x o.1 tried
        ];
        late = λ i x g waits. elim (changed_get es new j y c i x g) [
          | inl k ↦
              let m : y.moves ≡ e.moves + 1 = is.moves in
              let v : last ≤ y.moves + h y.state = omega (arith, m, falls, now) in
              subst (λ z. last ≤ z.moves + h z.state) (sym k.1) v
          | inr o ↦ s.late i x o.1 waits
        ];
      }

  -- the queue, where the new priority is put or an old one lowered to it
  pub queued_put : (C : State → State → Type 0) (h : State → ℕ) (start : State) (q r : ℕ → Option ℕ)
      (dropped : Bool) (p : ℕ) → y.tried ≡ false → p ≡ y.moves + h y.state → p ≤ 4095
      → r j ≡ Some p → ((n : ℕ) → (n ≡ j → ⊥) → r n ≡ q n) → Queued C h start es q dropped
      → Queued C h start new r dropped
  queued_put C h start q r dropped p waits is few at others k = record {
    waits = λ i x g w. elim (changed_get es new j y c i x g) [
      | inl n ↦ inl (ap r n.0 ∙ at ∙ ap Some (is ∙ ap (λ z. z.moves + h z.state) (sym n.1)))
      | inr o ↦ elim (k.waits i x o.1 w) [
        | inl stays ↦ inl (others i o.0 ∙ stays)
        | inr gone ↦ inr (others i o.0 ∙ gone.0, gone.1, gone.2)
      ]
    ];
    stands = λ i s g. elim (which i j) [
      | inl e ↦ let same : p ≡ s = (let v : Some p ≡ Some s = sym at ∙ ap r (sym e) ∙ g in cc) in
          (y, ap (slice_get new) e ∙ c.at, waits, sym same ∙ is, subst (λ m. m ≤ 4095) same few)
      | inr n ↦
          let b = k.stands i s (sym (others i n) ∙ g) in
          (b.0, changed_kept es new j y c i b.0 n b.1, b.2, b.3, b.4)
    ];
    far = k.far;
  }

  -- the queue, where the new priority is too great
  pub queued_drop : (C : State → State → Type 0) (h : State → ℕ) (start : State) (q : ℕ → Option ℕ)
      (dropped : Bool) → y.tried ≡ false → 4095 < y.moves + h y.state
      → q j ≡ None → HasFarPath C start → Queued C h start es q dropped → Queued C h start new q true
  queued_drop C h start q dropped waits many none far k = record {
    waits = λ i x g w. elim (changed_get es new j y c i x g) [
      | inl n ↦ inr (ap q n.0 ∙ none, refl, subst (λ z. 4095 < z.moves + h z.state) (sym n.1) many)
      | inr o ↦ elim (k.waits i x o.1 w) [
        | inl stays ↦ inl stays
        | inr gone ↦ inr (gone.0, refl, gone.2)
      ]
    ];
    stands = λ i s g. elim (which i j) [
      | inl e ↦ absurd (let v : None ≡ Some s = sym none ∙ ap q (sym e) ∙ g in cc)
      | inr n ↦
          let b = k.stands i s g in
          (b.0, changed_kept es new j y c i b.0 n b.1, b.2, b.3, b.4)
    ];
    far = λ _. far;
  }

  -- a node whose new priority is too great was not in the queue
  pub not_queued : (C : State → State → Type 0) (h : State → ℕ) (start : State) (q : ℕ → Option ℕ)
      (dropped : Bool) → 4095 < y.moves + h y.state → Queued C h start es q dropped → q j ≡ None
  not_queued C h start q dropped many k = by (q j) refl
    where
      by : (o : Option ℕ) → q j ≡ o → o ≡ None
      by None e = refl
      by (Some p) e =
          let b = k.stands j p e in
          let u = f.before b.0 b.1 in
          let l : y.moves < b.0.moves = u.2 in
          let same : h b.0.state ≡ h y.state = ap h u.0 in
          let is : p ≡ b.0.moves + h b.0.state = b.3 in
          let few : p ≤ 4095 = b.4 in
          absurd (omega (arith, l, same, is, few, many))
