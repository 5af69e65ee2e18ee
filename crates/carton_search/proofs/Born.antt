-- The path by parents, without a word on what the moves are.
use Rattle.std.proofs.Common.{◌≡◌, ℕ, ◌+◌, ◌<◌, ◌≤◌, List, [], ◌∷◌, ◌++◌, Some, slice_get, length}
use Rattle.std.proofs.Common.{length-append, reverse, inl, inr, refl, ap, sym, ◌∙◌, subst, arith}
use Rattle.std.proofs.lemmas.List.{reverse-append, length-reverse}
use Rattle.carton_base.specs.declared.motion.State.{State}
use Rattle.carton_search.specs.declared.known.Entry.{Entry}
use Rattle.carton_search.specs.Known.{HasParent, IsTree, IsParent}
use Rattle.carton_search.specs.Paths.{Follows, last_of, IsPath}
use Rattle.carton_search.proofs.Lists.{same_get, split}

module _ (C : State → State → Type 0) (start : State) (es : List Entry) (t : IsTree C start es) where
  -- the parents alone make a tree
  pub parents_tree : IsTree (IsParent es) start es
  parents_tree = record {
    root = t.root;
    first = t.first;
    begins = t.begins;
    no_moves = t.no_moves;
    parents = λ i e more h.
        let p : HasParent C es e = t.parents i e more h in
        record {
          parent = p.parent;
          there = p.there;
          tried = p.tried;
          clear = (i, e, p.parent, more, h, p.there, refl, refl);
          more = p.more;
        };
    apart = t.apart;
  }

  -- and each of them is a move
  pub parent_clear : (a b : State) → IsParent es a b → C a b
  parent_clear a b (i, e, f, more, h, there, is_a, is_b) =
      let p : HasParent C es e = t.parents i e more h in
      let same : p.parent ≡ f = same_get es e.parent e.parent p.parent f refl p.there there in
      subst (λ x. C x b) (ap (λ x. x.state) same ∙ is_a) (subst (C p.parent.state) is_b p.clear)

  pub later_place : (i : ℕ) (e : Entry) → slice_get es i ≡ Some e → 0 < e.moves → 0 < i
  later_place i e h more = elim (split 0 i) [
    | inl k ↦ k
    | inr k ↦
        let zero_place : i ≡ 0 = omega (arith, k) in
        let m : e.moves ≡ t.root.moves = ap (λ x. x.moves) (same_get es i 0 e t.root zero_place h t.first) in
        let n : t.root.moves ≡ 0 = t.no_moves in
        absurd (omega (arith, more, m, n))
  ]

  pub first_place : (i : ℕ) (e : Entry) → slice_get es i ≡ Some e → e.moves ≤ 0 → i ≡ 0
  first_place i e h few = elim (split 0 i) [
    | inl k ↦
        let p : HasParent C es e = t.parents i e k h in
        let m : e.moves ≡ p.parent.moves + 1 = p.more in
        absurd (omega (arith, few, m))
    | inr k ↦ omega (arith, k)
  ]

module _ (es : List Entry) where
  -- the path from the node e on is the list that was collected, turned round
  pub record Behind (end e : Entry) (back : List State) : Type 0 where
    pub walk : Follows (IsParent es) e.state (reverse back)
    pub ends : last_of e.state (reverse back) ≡ end.state
    pub count : length back + e.moves ≡ end.moves

  pub behind_none : (end : Entry) → Behind end end []
  behind_none end = record { walk = tt; ends = refl; count = omega arith }

  module _ (s : State) (t : IsTree (IsParent es) s es) (end : Entry) where
    pub behind_more : (i : ℕ) (e f : Entry) (back : List State) → 0 < i → slice_get es i ≡ Some e
        → slice_get es e.parent ≡ Some f → Behind end e back → Behind end f (back ++ e.state ∷ [])
    behind_more i e f back more there parent b =
        let turned : reverse (back ++ e.state ∷ []) ≡ e.state ∷ reverse back =
        reverse-append back (e.state ∷ []) in
        let p : HasParent (IsParent es) es e = t.parents i e more there in
        let same : p.parent ≡ f = same_get es e.parent e.parent p.parent f refl p.there parent in
        let m : e.moves ≡ p.parent.moves + 1 = p.more in
        let n : p.parent.moves ≡ f.moves = ap (λ x. x.moves) same in
        let c : length back + e.moves ≡ end.moves = b.count in
        record {
          walk = subst (Follows (IsParent es) f.state) (sym turned)
              ((i, e, f, more, there, parent, refl, refl), b.walk);
          ends = subst (λ l. last_of f.state l ≡ end.state) (sym turned) b.ends;
          count = omega (arith, length-append back (e.state ∷ []), m, n, c);
        }

    pub behind_all : (e : Entry) (back : List State) → slice_get es 0 ≡ Some e → Behind end e back
        → IsPath (IsParent es) s end.state (reverse (back ++ e.state ∷ []))
        × (length (reverse (back ++ e.state ∷ [])) ≡ end.moves + 1)
    behind_all e back first b =
        let turned : reverse (back ++ e.state ∷ []) ≡ e.state ∷ reverse back =
        reverse-append back (e.state ∷ []) in
        let same : e ≡ t.root = same_get es 0 0 e t.root refl first t.first in
        let begins : e.state ≡ s = ap (λ x. x.state) same ∙ t.begins in
        let none : e.moves ≡ 0 = ap (λ x. x.moves) same ∙ t.no_moves in
        let c : length back + e.moves ≡ end.moves = b.count in (
          subst (IsPath (IsParent es) s end.state) (sym turned) (
            begins,
            subst (λ a. Follows (IsParent es) a (reverse back)) begins b.walk,
            subst (λ a. last_of a (reverse back) ≡ end.state) begins b.ends,
          ),
          omega (arith, length-reverse (back ++ e.state ∷ []), length-append back (e.state ∷ []), none, c),
        )
