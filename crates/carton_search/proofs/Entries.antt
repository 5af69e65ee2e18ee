-- The list of entries, from the two lists that make it.
use Rattle.std.proofs.Common.{◌≡◌, ℕ, zero, suc, ◌<◌, Bool, true, false, List, [], ◌∷◌, ◌++◌, Some, None}
use Rattle.std.proofs.Common.{slice_get, length, length-append, refl, ap, sym, ◌∙◌, cond, arith, subst, ◌+◌}
use Rattle.std.proofs.Common.{◌||◌, if◌then◌else◌}
use Rattle.std.proofs.Math.ListN.{set}
use Rattle.std.specs.List.{position, position_from, list_any}
use Rattle.std.proofs.lemmas.Iterator.Adapters.{position_from-zero}
use Rattle.indexmap.specs.IndexSet.{insert_key}
use Rattle.carton_base.specs.declared.motion.State.{State}
use Rattle.carton_search.specs.declared.known.Entry.{Entry}
use Rattle.carton_search.specs.declared.known.Node.{Node}
use Rattle.carton_search.specs.Knowledge.{Knowledge, entry_of, entries_of}
use Rattle.carton_search.specs.Known.{Has, IsNumberOf}
use Rattle.carton_text.proofs.Compared.{state_eq-Decides}
use Rattle.carton_search.proofs.Keys.{state_eq}
use Rattle.carton_search.proofs.Lists.{get_within}

pub long_entries : (ss : List State) (ns : List Node) → length ss ≡ length ns → length (entries_of ss ns)
    ≡ length ns
long_entries [] [] e = refl
long_entries [] (n ∷ ns) e = absurd (omega (arith, e))
long_entries (s ∷ ss) [] e = absurd (omega (arith, e))
long_entries (s ∷ ss) (n ∷ ns) e = ap suc (long_entries ss ns (omega (arith, e)))

pub entry_there : (ss : List State) (ns : List Node) (i : ℕ) (s : State) (n : Node) → slice_get ss i ≡ Some s
    → slice_get ns i ≡ Some n → slice_get (entries_of ss ns) i ≡ Some (entry_of s n)
entry_there [] ns i s n p q = cc
entry_there (t ∷ ss) [] i s n p q = cc
entry_there (t ∷ ss) (m ∷ ns) zero s n p q = let a : t ≡ s = cc in let b : m ≡ n = cc in
    λ j. Some (entry_of (a j) (b j))
entry_there (t ∷ ss) (m ∷ ns) (suc i) s n p q = entry_there ss ns i s n p q

pub state_there : (ss : List State) (ns : List Node) (i : ℕ) (e : Entry) → slice_get (entries_of ss ns) i
    ≡ Some e → slice_get ss i ≡ Some e.state
state_there [] ns i e p = cc
state_there (t ∷ ss) [] i e p = cc
state_there (t ∷ ss) (m ∷ ns) zero e p = let a : entry_of t m ≡ e = cc in ap (λ z. Some z.state) a
state_there (t ∷ ss) (m ∷ ns) (suc i) e p = state_there ss ns i e p

pub push_entries : (ss : List State) (ns : List Node) (s : State) (n : Node) → length ss ≡ length ns
    → entries_of (ss ++ s ∷ []) (ns ++ n ∷ []) ≡ entries_of ss ns ++ entry_of s n ∷ []
push_entries [] [] s n e = refl
push_entries [] (m ∷ ns) s n e = absurd (omega (arith, e))
push_entries (t ∷ ss) [] s n e = absurd (omega (arith, e))
push_entries (t ∷ ss) (m ∷ ns) s n e = ap (λ l. entry_of t m ∷ l) (push_entries ss ns s n (omega (arith, e)))

pub set_entries : (ss : List State) (ns : List Node) (i : ℕ) (s : State) (n : Node) → slice_get ss i ≡ Some s
    → entries_of ss (set ns i n) ≡ set (entries_of ss ns) i (entry_of s n)
set_entries [] ns i s n p = cc
set_entries (t ∷ ss) [] i s n p = refl
set_entries (t ∷ ss) (m ∷ ns) zero s n p = let a : t ≡ s = cc in ap (λ z. entry_of z n ∷ entries_of ss ns) a
set_entries (t ∷ ss) (m ∷ ns) (suc i) s n p = ap (λ l. entry_of t m ∷ l) (set_entries ss ns i s n p)

module _ {X : Type 0} (t : X → Bool) where
  -- the place where a test passes first
  found_from : (o i : ℕ) (xs : List X) → position_from t o xs ≡ Some i → (j : ℕ) × (x : X) × (i ≡ o + j)
      × (slice_get xs j ≡ Some x) × (t x ≡ true)
  found_from o i [] p = cc
  found_from o i (x ∷ xs) p = by (t x) refl p (λ q. found_from (o + 1) i xs q)
    where
      by : (b : Bool) → t x ≡ b → cond b (Some o) (position_from t (o + 1) xs) ≡ Some i
          → (position_from t (o + 1) xs ≡ Some i → (j : ℕ) × (y : X) × (i ≡ o + 1 + j)
          × (slice_get xs j ≡ Some y) × (t y ≡ true))
          → (j : ℕ) × (y : X) × (i ≡ o + j) × (slice_get (x ∷ xs) j ≡ Some y) × (t y ≡ true)
      by true is q later = let e : o ≡ i = cc in (0, x, omega (arith, e), refl, is)
      by false is q later = let r = later q in let e : i ≡ o + 1 + r.0 = r.2 in
          (suc r.0, r.1, omega (arith, e), r.3, r.4)

  none_from : (o : ℕ) (xs : List X) → position_from t o xs ≡ None → (j : ℕ) (x : X) → slice_get xs j ≡ Some x
      → t x ≡ false
  none_from o [] p j x h = cc
  none_from o (y ∷ xs) p j x h = by (t y) refl p (none_from (o + 1) xs) j h
    where
      by : (b : Bool) → t y ≡ b → cond b (Some o) (position_from t (o + 1) xs) ≡ None
          → (position_from t (o + 1) xs ≡ None → (i : ℕ) (z : X) → slice_get xs i ≡ Some z → t z ≡ false)
          → (i : ℕ) → slice_get (y ∷ xs) i ≡ Some x → t x ≡ false
      by true is q later i g = cc
      by false is q later zero g = let e : y ≡ x = cc in ap t (sym e) ∙ is
      by false is q later (suc i) g = later q i x g

some_node : (ns : List Node) (i : ℕ) → i < length ns → (n : Node) × (slice_get ns i ≡ Some n)
some_node [] i l = absurd (omega (arith, l))
some_node (n ∷ ns) zero l = (n, refl)
some_node (n ∷ ns) (suc i) l = some_node ns i (omega (arith, l))

-- a state's place among the states is its number
pub number_there : (s : State) (ss : List State) (ns : List Node) (i : ℕ) → length ss ≡ length ns
    → position (state_eq s) ss ≡ Some i → IsNumberOf (entries_of ss ns) s (Some i)
number_there s ss ns i long p =
    let r = found_from (state_eq s) 0 i ss (sym (position_from-zero (state_eq s) ss) ∙ p) in
    let e : i ≡ r.0 = (let z : i ≡ 0 + r.0 = r.2 in omega (arith, z)) in
    let there : slice_get ss i ≡ Some r.1 = subst (λ j. slice_get ss j ≡ Some r.1) (sym e) r.3 in
    let l : i < length ss = get_within ss i r.1 there in
    let n = some_node ns i (omega (arith, l, long)) in
    (entry_of r.1 n.0, entry_there ss ns i r.1 n.0 there n.1, sym ((state_eq-Decides s r.1).0 r.4))

pub no_number : (s : State) (ss : List State) (ns : List Node) → position (state_eq s) ss ≡ None
    → IsNumberOf (entries_of ss ns) s None
no_number s ss ns p (i, e, there, same) =
    let f = none_from (state_eq s) 0 ss (sym (position_from-zero (state_eq s) ss) ∙ p) i e.state
    (state_there ss ns i e there) in
    let v : false ≡ true = sym f ∙ (state_eq-Decides s e.state).1 (sym same) in cc

-- a new state isn't among the states
pub absent : (s : State) (ss : List State) (ns : List Node) → length ss ≡ length ns
    → (Has (entries_of ss ns) s → ⊥) → list_any (state_eq s) ss ≡ false
absent s [] ns e n = refl
absent s (t ∷ ss) [] e n = absurd (omega (arith, e))
absent s (t ∷ ss) (m ∷ ns) e n =
    either (state_eq s t) refl (absent s ss ns (omega (arith, e)) (λ h. n (suc h.0, h.1, h.2, h.3)))
  where
    either : (b : Bool) → state_eq s t ≡ b → list_any (state_eq s) ss ≡ false
        → (b || list_any (state_eq s) ss) ≡ false
    either true is rest = absurd (n (0, entry_of t m, refl, sym ((state_eq-Decides s t).0 is)))
    either false is rest = rest

-- so it goes last
pub goes_last : (s : State) (ss : List State) (ns : List Node) (es : List Entry) → length ss ≡ length ns
    → entries_of ss ns ≡ es → (Has es s → ⊥) → insert_key state_eq ss s ≡ ss ++ s ∷ []
goes_last s ss ns es long is new =
    ap (λ b. if b then ss else ss ++ s ∷ []) (absent s ss ns long (subst (λ l. Has l s → ⊥) (sym is) new))

-- as many states are seen as nodes are kept
pub long_known : (ss : List State) (ns : List Node) (k seen : Knowledge) → k.entries ≡ entries_of ss ns
    → k ≡ seen → length ss ≡ length ns → length seen.entries ≡ length ns
long_known ss ns k seen is e long = ap (λ (x : Knowledge). length x.entries) (sym e) ∙ ap length is
    ∙ long_entries ss ns long

-- an entry is added: its state goes last, and so does its node
pub entry_added : (ss keys : List State) (ns reserved nodes : List Node) (k seen : Knowledge) (s : State)
    (n : Node) → k.entries ≡ entries_of ss ns → k ≡ seen → length ss ≡ length ns
    → (Has seen.entries s → ⊥) → keys ≡ insert_key state_eq ss s → reserved ≡ ns → nodes ≡ reserved ++ n ∷ []
    → (length keys ≡ length nodes) × (entries_of keys nodes ≡ seen.entries ++ entry_of s n ∷ [])
entry_added ss keys ns reserved nodes k seen s n is e long new put same pushed =
    let v : entries_of ss ns ≡ seen.entries = sym is ∙ ap (λ (x : Knowledge). x.entries) e in
    let last : keys ≡ ss ++ s ∷ [] = put ∙ goes_last s ss ns seen.entries long v new in
    let grown : nodes ≡ ns ++ n ∷ [] = pushed ∙ ap (λ (l : List Node). l ++ n ∷ []) same in
    let more : length (ss ++ s ∷ []) ≡ length (ns ++ n ∷ []) =
    omega (arith, long, length-append ss (s ∷ []), length-append ns (n ∷ [])) in (
      ap length last ∙ more ∙ sym (ap length grown),
      ap (λ (l : List State). entries_of l nodes) last
          ∙ ap (λ (l : List Node). entries_of (ss ++ s ∷ []) l) grown ∙ push_entries ss ns s n long
          ∙ ap (λ (l : List Entry). l ++ entry_of s n ∷ []) v,
    )
