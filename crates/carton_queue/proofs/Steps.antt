-- The same on the lists.
use Rattle.std.proofs.Common.{◌≡◌, ℕ, ◌+◌, ◌<◌, ◌≤◌, ◌^◌, min, List, Option, Some, None, length, inl, inr}
use Rattle.std.proofs.Common.{refl, ap, sym, ◌∙◌, subst, arith}
use Rattle.std.proofs.lemmas.Bool.{cases_eq}
use Rattle.std.proofs.Math.ListN.{set, length-set}
use Rattle.carton_queue.specs.Waits.{Waiting, priority_at, with_entry}
use Rattle.carton_queue.specs.Linked.{next_of, previous_of, IsSet, AreSet, InRing, IsRing, IsLinked, IsKept}
use Rattle.carton_queue.specs.declared.links.Link.{Link}
use Rattle.carton_queue.proofs.Places.{at_set, at_others, at_within, set_same}
use Rattle.carton_queue.proofs.Ways.{IsEntry, apart, ring_added, ring_removed, none_there, first_there}
use Rattle.carton_queue.proofs.Ways.{ring_empty}

pub entry : (xs : List (Option ℕ)) (n : ℕ) (x : Option ℕ) → n < length xs
    → IsEntry (priority_at xs) (priority_at (set xs n x)) n x
entry xs n x l = record { here = at_set xs n x l; rest = λ i o. at_others xs n x i o }

-- a slot of a ring is a place in the links
pub in_links : (xs : List (Option ℕ)) (links : List Link) (buckets b i : ℕ) → b < buckets
    → IsLinked xs links buckets → InRing (length xs) (priority_at xs) b i → i < length links
in_links xs links buckets b i l k w =
    let e : length links ≡ length xs + buckets = k.long in
    elim w [
      | inl p ↦ (let m : i < length xs = at_within xs i b p in omega (arith, e, m))
      | inr q ↦
          omega (arith, e, l, q)
    ]

-- so are the neighbours of a node
pub neighbours : (xs : List (Option ℕ)) (links : List Link) (buckets b n : ℕ) → IsLinked xs links buckets
    → priority_at xs n ≡ Some b → (next_of links n < length links) × (previous_of links n < length links)
neighbours xs links buckets b n k is =
    let l = k.ring.below n b is in (
      in_links xs links buckets b _ l k (k.ring.forth.goes b n l (inl is)),
      in_links xs links buckets b _ l k (k.ring.back.goes b n l (inl is)),
    )

-- what follows a bucket's slot
pub head_in : (xs : List (Option ℕ)) (links : List Link) (buckets b a : ℕ) → a ≡ length xs + b → b < buckets
    → IsLinked xs links buckets → InRing (length xs) (priority_at xs) b (next_of links a)
head_in xs links buckets b a e l k = k.ring.forth.goes b a l (inr e)

pub head_apart : (xs : List (Option ℕ)) (links : List Link) (buckets b a n : ℕ) → a ≡ length xs + b
    → b < buckets → n < length xs → priority_at xs n ≡ None → IsLinked xs links buckets → n ≡ next_of links a
    → ⊥
head_apart xs links buckets b a n e l m none k q =
    apart (length xs) (priority_at xs) n b (next_of links a) m none (head_in xs links buckets b a e l k)
    (sym q)

pub added : (xs : List (Option ℕ)) (links now : List Link) (buckets b a n : ℕ) → a ≡ length xs + b
    → b < buckets → n < length xs → priority_at xs n ≡ None → IsLinked xs links buckets
    → length now ≡ length links → AreSet (next_of links) (next_of now) n (next_of links a) a n
    → AreSet (previous_of links) (previous_of now) n a (next_of links a) n
    → IsLinked (set xs n (Some b)) now buckets
added xs links now buckets b a n e l m none k len sn sp = record {
  long = omega (arith, len, k.long, length-set xs n (Some b));
  ring = subst (λ (j : ℕ). IsRing j buckets (priority_at (set xs n (Some b))) (next_of now) (previous_of now))
      (sym (length-set xs n (Some b)))
      (ring_added (length xs) buckets (priority_at xs) (priority_at (set xs n (Some b))) (next_of links)
      (previous_of links) (next_of now) (previous_of now) n b m l none (entry xs n (Some b) m)
      (subst (λ (j : ℕ). AreSet (next_of links) (next_of now) n (next_of links j) j n) e sn)
      (subst (λ (j : ℕ). AreSet (previous_of links) (previous_of now) n j (next_of links j) n) e sp)
      k.ring);
}

pub removed : (xs : List (Option ℕ)) (links now : List Link) (buckets b n : ℕ) → priority_at xs n ≡ Some b
    → IsLinked xs links buckets
    → length now ≡ length links → IsSet (next_of links) (next_of now) (previous_of links n) (next_of links n)
    → IsSet (previous_of links) (previous_of now) (next_of links n) (previous_of links n)
    → IsLinked (set xs n None) now buckets
removed xs links now buckets b n is k len sn sp = record {
  long = omega (arith, len, k.long, length-set xs n None);
  ring = subst (λ (j : ℕ). IsRing j buckets (priority_at (set xs n None)) (next_of now) (previous_of now))
      (sym (length-set xs n None))
      (ring_removed (length xs) buckets (priority_at xs) (priority_at (set xs n None)) (next_of links)
      (previous_of links) (next_of now) (previous_of now) n b is (entry xs n None (at_within xs n b is))
      sn sp k.ring);
}

pub first_some : (xs : List (Option ℕ)) (links : List Link) (buckets b a v : ℕ) → a ≡ length xs + b
    → b < buckets → IsLinked xs links buckets → v ≡ next_of links a → (v ≡ a → ⊥) → priority_at xs v ≡ Some b
first_some xs links buckets b a v e l k is o =
    ap (priority_at xs) (is ∙ ap (next_of links) e)
    ∙ first_there (length xs) buckets (priority_at xs) (next_of links) (previous_of links) b l k.ring
    (λ q. o (is ∙ ap (next_of links) e ∙ q ∙ sym e))

pub first_none : (xs : List (Option ℕ)) (links : List Link) (buckets b a v : ℕ) → a ≡ length xs + b
    → b < buckets → IsLinked xs links buckets → v ≡ next_of links a → v ≡ a → (n : ℕ)
    → priority_at xs n ≡ Some b → ⊥
first_none xs links buckets b a v e l k is same n =
    none_there (length xs) buckets (priority_at xs) (next_of links) (previous_of links) b l k.ring
    (sym (is ∙ ap (next_of links) e) ∙ same ∙ e) n

-- one bucket further
pub further : (xs : List (Option ℕ)) (links : List Link) (buckets b a v : ℕ) → a ≡ length xs + b → b < buckets
    → IsLinked xs links buckets → v ≡ next_of links a → v ≡ a
    → ((n p : ℕ) → priority_at xs n ≡ Some p → b ≤ p) → (n p : ℕ) → priority_at xs n ≡ Some p → b + 1 ≤ p
further xs links buckets b a v e l k is same h n p t =
    let m : b ≤ p = h n p t in
    elim (cases_eq p b) [
      | inl q ↦
          absurd (first_none xs links buckets b a v e l k is same n (t ∙ ap (λ (j : ℕ). Some j) q))
      | inr o ↦
          omega (arith, m, o)
    ]

-- past the last bucket
pub nothing : (xs : List (Option ℕ)) (links : List Link) (buckets b : ℕ) → buckets ≤ b
    → IsLinked xs links buckets → ((n p : ℕ) → priority_at xs n ≡ Some p → b ≤ p) → (n : ℕ)
    → priority_at xs n ≡ None
nothing xs links buckets b l k h n = by (priority_at xs n) refl
  where
    by : (o : Option ℕ) → priority_at xs n ≡ o → o ≡ None
    by None e = refl
    by (Some p) e = absurd (let m : b ≤ p = h n p e in let j : p < buckets = k.ring.below n p e in
        omega (arith, l, m, j))

pub empty_linked : (xs : List (Option ℕ)) (links : List Link) (buckets : ℕ)
    → length links ≡ length xs + buckets → ((n : ℕ) → priority_at xs n ≡ None)
    → ((b : ℕ) → b < buckets → next_of links (length xs + b) ≡ length xs + b)
    → ((b : ℕ) → b < buckets → previous_of links (length xs + b) ≡ length xs + b)
    → IsLinked xs links buckets
empty_linked xs links buckets e none f g =
    record {
      long = e;
      ring = ring_empty (length xs) buckets (priority_at xs) (next_of links)
          (previous_of links) none f g;
    }

-- what is kept where a node is put
pub kept_put : (xs ys : List (Option ℕ)) (links : List Link) (buckets n b least now : ℕ)
    → IsLinked ys links buckets → ys ≡ set xs n (Some b) → n < length xs → length xs < 2 ^ 32
    → ((k p : ℕ) → priority_at xs k ≡ Some p → least ≤ p) → now ≡ min least b → IsKept ys links buckets now
kept_put xs ys links buckets n b least now linked e l short h m = record {
  linked = linked;
  short = omega (arith, short, ap length e, length-set xs n (Some b));
  below = λ k p t. below k p (sym (ap (λ (zs : List (Option ℕ)). priority_at zs k) e) ∙ t);
}
  where
    below : (k p : ℕ) → priority_at (set xs n (Some b)) k ≡ Some p → now ≤ p
    below k p t = elim (cases_eq k n) [
      | inl q ↦
          (let r : b ≡ p = (let u : priority_at (set xs n (Some b)) n ≡ Some b = at_set xs n (Some b) l in
          let v : priority_at (set xs n (Some b)) n ≡ Some p = sym (ap (priority_at (set xs n (Some b))) q)
          ∙ t in cc) in omega (arith, r, m))
      | inr o ↦ (let r : least ≤ p = h k p (sym (at_others xs n (Some b) k o) ∙ t) in omega (arith, r, m))
    ]

pub below_taken : (xs ys : List (Option ℕ)) (n least : ℕ) → ys ≡ set xs n None → n < length xs
    → ((k p : ℕ) → priority_at xs k ≡ Some p → least ≤ p) → (k p : ℕ) → priority_at ys k ≡ Some p → least ≤ p
below_taken xs ys n least e l h k p t = elim (cases_eq k n) [
  | inl q ↦ absurd (let u : priority_at (set xs n None) n ≡ None = at_set xs n None l in
      let v : priority_at (set xs n None) n ≡ Some p = sym (ap (priority_at (set xs n None)) q) ∙ w in cc)
  | inr o ↦ h k p (sym (at_others xs n None k o) ∙ w)
]
  where
    w : priority_at (set xs n None) k ≡ Some p
    w = sym (ap (λ (zs : List (Option ℕ)). priority_at zs k) e) ∙ t

-- what is kept where a node is taken
pub kept_taken : (xs ys : List (Option ℕ)) (links : List Link) (buckets n least : ℕ)
    → IsLinked ys links buckets → ys ≡ set xs n None → n < length xs → length xs < 2 ^ 32
    → ((k p : ℕ) → priority_at xs k ≡ Some p → least ≤ p) → IsKept ys links buckets least
kept_taken xs ys links buckets n least linked e l short h = record {
  linked = linked;
  short = omega (arith, short, ap length e, length-set xs n None);
  below = below_taken xs ys n least e l h;
}

pub alike : (xs ys : List (Option ℕ)) (b c : ℕ) → xs ≡ ys → b ≡ c
    → (let q : Waiting = record { priorities = xs; buckets = b } in
    let r : Waiting = record { priorities = ys; buckets = c } in q ≡ r)
alike xs ys b c p q = λ i. record { priorities = p i; buckets = q i }

pub unchanged : (q : Waiting) (n : ℕ) → priority_at q.priorities n ≡ None → with_entry q n None ≡ q
unchanged q n h =
    alike (set q.priorities n None) q.priorities q.buckets q.buckets (set_same q.priorities n None h) refl
