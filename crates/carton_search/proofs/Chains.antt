-- A found state has a path of clear steps.
use Rattle.std.proofs.Common.{◌≡◌, ℕ, zero, suc, ◌+◌, ◌<◌, ◌≤◌, Bool, true, false, List, [], ◌∷◌, ◌++◌, Some}
use Rattle.std.proofs.Common.{slice_get, length, length-append, cond, inl, inr, refl, ap, sym, ◌∙◌, subst}
use Rattle.std.proofs.Common.{arith}
use Rattle.std.proofs.Math.ListN.{set}
use Rattle.carton_base.specs.declared.motion.State.{State}
use Rattle.carton_search.specs.declared.known.Entry.{Entry}
use Rattle.carton_search.specs.Known.{HasParent, IsTree, Stands, picked}
use Rattle.carton_search.specs.Paths.{Follows, last_of, IsPath, moves_of, AreDifferent, HasFarPath}
use Rattle.carton_search.specs.Paths.{AreManyWithin}
use Rattle.carton_search.proofs.Lists.{get_of_push, same_get}

module _ (R : State → State → Type 0) where
  follows_push : (a b c : State) (rest : List State) → Follows R a rest → last_of a rest ≡ b → R b c
      → Follows R a (rest ++ c ∷ [])
  follows_push a b c [] walk ends r = (subst (λ s. R s c) (sym ends) r, tt)
  follows_push a b c (s ∷ rest) walk ends r = (walk.0, follows_push s b c rest walk.1 ends r)

  last_push : (a c : State) (rest : List State) → last_of a (rest ++ c ∷ []) ≡ c
  last_push a c [] = refl
  last_push a c (s ∷ rest) = last_push s c rest

  pub path_push : (a b c : State) (p : List State) → IsPath R a b p → R b c → IsPath R a c (p ++ c ∷ [])
  path_push a b c [] h r = absurd h
  path_push a b c (s ∷ rest) h r = (h.0, follows_push a b c rest h.1 h.2 r, last_push a c rest)

-- the path to a node: the state at k was found with k moves
pub record Chain (C : State → State → Type 0) (start : State) (es : List Entry) (e : Entry) : Type 0 where
  pub path : List State
  pub is : IsPath C start e.state path
  pub long : length path ≡ e.moves + 1
  pub among : (k : ℕ) (s : State) → slice_get path k ≡ Some s → (j : ℕ) × (f : Entry)
      × (slice_get es j ≡ Some f) × (f.state ≡ s) × (f.moves ≡ k)

module _ (C : State → State → Type 0) (start : State) (es : List Entry) (t : IsTree C start es) where
  one : (s : State) → (k : ℕ) (x : State) → slice_get (s ∷ []) k ≡ Some x → (k ≡ 0) × (s ≡ x)
  one s zero x h = (refl, cc)
  one s (suc k) x h = cc

  first_chain : (e : Entry) → slice_get es 0 ≡ Some e → Chain C start es e
  first_chain e there =
      let same : e ≡ t.root = same_get es 0 0 e t.root refl there t.first in
      let none : e.moves ≡ 0 = ap (λ z. z.moves) same ∙ t.no_moves in
      let begins : e.state ≡ start = ap (λ z. z.state) same ∙ t.begins in record {
        path = e.state ∷ [];
        is = (begins, tt, sym begins);
        long = omega (arith, none);
        among = λ k s h. (0, e, there, (one e.state k s h).1, none ∙ sym (one e.state k s h).0);
      }

  next_chain : (i : ℕ) (e : Entry) → slice_get es i ≡ Some e → (p : HasParent C es e)
      → Chain C start es p.parent → Chain C start es e
  next_chain i e there p c =
      let m : e.moves ≡ p.parent.moves + 1 = p.more in
      let l : length c.path ≡ p.parent.moves + 1 = c.long in record {
        path = c.path ++ e.state ∷ [];
        is = path_push C start p.parent.state e.state c.path c.is p.clear;
        long = omega (arith, length-append c.path (e.state ∷ []), m, l);
        among = λ k s h. elim (get_of_push c.path e.state k s h) [
          | inl before ↦ c.among k s before
          | inr new ↦ let at : k ≡ length c.path = new.0 in (i, e, there, sym new.1, omega (arith, m, l, at))
        ];
      }

  chain_within : (fuel i : ℕ) (e : Entry) → e.moves < fuel → slice_get es i ≡ Some e → Chain C start es e
  chain_within zero i e less there = absurd (omega arith)
  chain_within (suc fuel) zero e less there = first_chain e there
  chain_within (suc fuel) (suc i) e less there =
      let p : HasParent C es e = t.parents (suc i) e (omega arith) there in
      let m : e.moves ≡ p.parent.moves + 1 = p.more in
      next_chain (suc i) e there p (chain_within fuel e.parent p.parent (omega (arith, m, less)) p.there)

  pub chain : (i : ℕ) (e : Entry) → slice_get es i ≡ Some e → Chain C start es e
  chain i e there = chain_within (e.moves + 1) i e (omega arith) there

  pub chain_different : (e : Entry) (c : Chain C start es e) → AreDifferent c.path
  chain_different e c k l s p q =
      let a = c.among k s p in
      let b = c.among l s q in
      let same : a.0 ≡ b.0 = t.apart a.0 b.0 a.1 b.1 a.2 b.2 (a.3 ∙ sym b.3) in
      let node : a.1 ≡ b.1 = same_get es a.0 b.0 a.1 b.1 same a.2 b.2 in
      sym a.4 ∙ ap (λ z. z.moves) node ∙ b.4

  -- a node of more than 3000 moves makes a path of that many different states
  pub far_path : (i : ℕ) (e : Entry) → slice_get es i ≡ Some e → 3000 ≤ e.moves → HasFarPath C start
  far_path i e there many =
      let c : Chain C start es e = chain i e there in
      let l : length c.path ≡ e.moves + 1 = c.long in
      (c.path, e.state, omega (arith, l, many), chain_different e c, c.is)

moves_long : (p : List State) → 0 < length p → moves_of p + 1 ≡ length p
moves_long [] h = absurd (omega arith)
moves_long (s ∷ rest) h = omega arith

-- a picked state's node
abbrev Pick : List Entry → List State → Type 0
Pick es xs = (i : ℕ) (s : State) → slice_get xs i ≡ Some s → (j : ℕ) × (f : Entry) × (slice_get es j ≡ Some f)
    × (f.state ≡ s) × (f.tried ≡ true)

pick_more : (e : Entry) (es : List Entry) (t : Bool) → e.tried ≡ t → Pick es (picked es)
    → Pick (e ∷ es) (cond t (e.state ∷ picked es) (picked es))
pick_more e es true is rest = λ i s h. first i s h
  where
    first : (i : ℕ) (s : State) → slice_get (e.state ∷ picked es) i ≡ Some s → (j : ℕ) × (f : Entry)
        × (slice_get (e ∷ es) j ≡ Some f) × (f.state ≡ s) × (f.tried ≡ true)
    first zero s h = (0, e, refl, cc, is)
    first (suc i) s h = let r = rest i s h in (suc r.0, r.1, r.2, r.3, r.4)
pick_more e es false is rest = λ i s h. let r = rest i s h in (suc r.0, r.1, r.2, r.3, r.4)

picked_get : (es : List Entry) → Pick es (picked es)
picked_get [] = λ i s h. cc
picked_get (e ∷ es) = pick_more e es e.tried refl (picked_get es)

abbrev AreApart : List Entry → Type 0
AreApart es = (i j : ℕ) (a b : Entry) → slice_get es i ≡ Some a → slice_get es j ≡ Some b → a.state ≡ b.state
    → i ≡ j

different_more : (e : Entry) (es : List Entry) (t : Bool) → AreApart (e ∷ es) → AreDifferent (picked es)
    → AreDifferent (cond t (e.state ∷ picked es) (picked es))
different_more e es true apart rest = both
  where
    later : (i : ℕ) (s : State) → e.state ≡ s → slice_get (picked es) i ≡ Some s → ⊥
    later i s same h = let r = picked_get es i s h in
        let k : 0 ≡ suc r.0 = apart 0 (suc r.0) e r.1 refl r.2 (same ∙ sym r.3) in omega (arith, k)

    both : AreDifferent (e.state ∷ picked es)
    both zero zero s p q = refl
    both zero (suc j) s p q = absurd (later j s (cc) q)
    both (suc i) zero s p q = absurd (later i s (cc) p)
    both (suc i) (suc j) s p q = ap suc (rest i j s p q)
different_more e es false apart rest = rest

picked_different : (es : List Entry) → AreApart es → AreDifferent (picked es)
picked_different [] apart = λ i j s p q. cc
picked_different (e ∷ es) apart =
    different_more e es e.tried apart
    (picked_different es (λ i j a b p q same. let k : suc i ≡ suc j = apart (suc i) (suc j) a b p q same in
    omega (arith, k)))

-- one more is tried
pub picked_set : (es : List Entry) (i : ℕ) (e y : Entry) → slice_get es i ≡ Some e → e.tried ≡ false
    → y.tried ≡ true → length (picked (set es i y)) ≡ length (picked es) + 1
picked_set [] i e y h w t = cc
picked_set (x ∷ es) zero e y h w t =
    let same : x ≡ e = cc in
    let wx : x.tried ≡ false = ap (λ z. z.tried) same ∙ w in
    let a : length (picked (y ∷ es)) ≡ suc (length (picked es)) =
    ap (λ b. length (cond b (y.state ∷ picked es) (picked es))) t in
    let b : length (picked (x ∷ es)) ≡ length (picked es) =
    ap (λ b. length (cond b (x.state ∷ picked es) (picked es))) wx in
    omega (arith, a, b)
picked_set (x ∷ es) (suc i) e y h w t = more x.tried (picked_set es i e y h w t)
  where
    more : (b : Bool) → length (picked (set es i y)) ≡ length (picked es) + 1
        → length (cond b (x.state ∷ picked (set es i y)) (picked (set es i y)))
        ≡ length (cond b (x.state ∷ picked es) (picked es)) + 1
    more true k = omega (arith, k)
    more false k = k

-- a node that waits is written, or pushed
pub picked_write : (es : List Entry) (i : ℕ) (e y : Entry) → slice_get es i ≡ Some e → e.tried ≡ false
    → y.tried ≡ false → length (picked (set es i y)) ≡ length (picked es)
picked_write [] i e y h w t = cc
picked_write (x ∷ es) zero e y h w t =
    let same : x ≡ e = cc in
    let wx : x.tried ≡ false = ap (λ z. z.tried) same ∙ w in
    let a : length (picked (y ∷ es)) ≡ length (picked es) =
    ap (λ b. length (cond b (y.state ∷ picked es) (picked es))) t in
    let b : length (picked (x ∷ es)) ≡ length (picked es) =
    ap (λ b. length (cond b (x.state ∷ picked es) (picked es))) wx in
    omega (arith, a, b)
picked_write (x ∷ es) (suc i) e y h w t = more x.tried (picked_write es i e y h w t)
  where
    more : (b : Bool) → length (picked (set es i y)) ≡ length (picked es)
        → length (cond b (x.state ∷ picked (set es i y)) (picked (set es i y)))
        ≡ length (cond b (x.state ∷ picked es) (picked es))
    more true k = omega (arith, k)
    more false k = k

pub picked_push : (es : List Entry) (y : Entry) → y.tried ≡ false → length (picked (es ++ y ∷ []))
    ≡ length (picked es)
picked_push [] y t = ap (λ b. length (cond b (y.state ∷ []) [])) t
picked_push (x ∷ es) y t = more x.tried (picked_push es y t)
  where
    more : (b : Bool) → length (picked (es ++ y ∷ [])) ≡ length (picked es)
        → length (cond b (x.state ∷ picked (es ++ y ∷ [])) (picked (es ++ y ∷ [])))
        ≡ length (cond b (x.state ∷ picked es) (picked es))
    more true k = omega (arith, k)
    more false k = k

-- where more than `turns` nodes are tried, none of which is the target, all of them are that near
pub out_of_turns : (C : State → State → Type 0) (h : State → ℕ) (start target : State) (es : List Entry)
    (last turns : ℕ) → Stands C h start es last
    → ((j : ℕ) (f : Entry) → slice_get es j ≡ Some f → f.tried ≡ true → f.state ≡ target → ⊥)
    → turns < length (picked es) → AreManyWithin C h start target turns last
out_of_turns C h start target es last turns s others many = (
  picked es,
  many,
  picked_different es s.tree.apart,
  (λ i x g.
      let r = picked_get es i x g in
      let c : Chain C start es r.1 = chain C start es s.tree r.0 r.1 r.2 in
      let l : length c.path ≡ r.1.moves + 1 = c.long in
      let m : moves_of c.path + 1 ≡ length c.path = moves_long c.path (omega (arith, l)) in
      let k : r.1.moves + h r.1.state ≤ last = s.early r.0 r.1 r.2 r.4 in
      let v : h r.1.state ≡ h x = ap h r.3 in (
        (λ t. others r.0 r.1 r.2 r.4 (r.3 ∙ t)),
        (c.path, subst (λ b. IsPath C start b c.path) r.3 c.is, omega (arith, l, m, k, v)),
      )),
)
