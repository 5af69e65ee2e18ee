-- When a list has each direction and nothing else: where it passes two tests.
use Rattle.std.proofs.Common.{◌≡◌, zero, suc, ◌≤◌, leb, List, [], ◌∷◌, Bool, true, false, not, ◌&&◌, ◌||◌}
use Rattle.std.proofs.Common.{refl, sym, subst, arith, ℤ, pos, negsuc, unsigned_abs, All, Contains, IsTrue}
use Rattle.std.proofs.Common.{slice_index_or}
use Rattle.std.specs.Ordering.{int_eq}
use Rattle.std.specs.List.{list_all, list_any}
use Rattle.std.specs.Cmp.Lexicographic.{pointwise}
use Rattle.std.proofs.lemmas.Bool.{leb-true}
use Rattle.std.proofs.lemmas.Bool.Decides.{Decides-int_eq}
use Rattle.std.proofs.lemmas.List.Folds.{Any-from_list_any}
use Rattle.std.proofs.lemmas.List.Sums.{AllPass-from_list_all}
use Rattle.std.proofs.lemmas.Slice.Eq.{slice_eq-Decides}
use Rattle.std.proofs.lemmas.Int.{ints}
use Rattle.carton_base.specs.Directions.{IsSign, IsDirection}

-- the three parts are 0
abbrev pub are_zeros : ℤ → ℤ → ℤ → Bool
are_zeros u v t = int_eq u (pos 0) && (int_eq v (pos 0) && int_eq t (pos 0))

abbrev pub is_part : ℤ → Bool
is_part z = leb (unsigned_abs z) 1

abbrev pub is_direction : ℤ → ℤ → ℤ → Bool
is_direction u v t = is_part u && (is_part v && (is_part t && not (are_zeros u v t)))

-- each row of the list is a direction
abbrev pub has_directions : List (List ℤ) → Bool
has_directions list =
    list_all (λ d. is_direction (slice_index_or d 0 (pos 0)) (slice_index_or d 1 (pos 0))
    (slice_index_or d 2 (pos 0))) list

abbrev pub signs : List ℤ
signs = negsuc 0 ∷ pos 0 ∷ pos 1 ∷ []

-- each row of three signs but that of zeros stands in the list
abbrev pub has_each : List (List ℤ) → Bool
has_each list =
    list_all
    (λ u. list_all (λ v. list_all (λ t. are_zeros u v t || list_any (pointwise int_eq (u ∷ v ∷ t ∷ [])) list)
    signs) signs) signs

and_parts : (a b : Bool) → (a && b) ≡ true → (a ≡ true) × (b ≡ true)
and_parts true b h = (refl, h)
and_parts false b h = cc

zeros : (u v t : ℤ) → are_zeros u v t ≡ true → (u ≡ pos 0) × (v ≡ pos 0) × (t ≡ pos 0)
zeros u v t h =
    let x = and_parts (int_eq u (pos 0)) _ h in
    let y = and_parts (int_eq v (pos 0)) _ x.1 in
    ((Decides-int_eq u (pos 0)).0 x.0, (Decides-int_eq v (pos 0)).0 y.0, (Decides-int_eq t (pos 0)).0 y.1)

is_sign : (z : ℤ) → is_part z ≡ true → IsSign z
is_sign (pos n) h = let few : n ≤ 1 = leb-true _ _ h in
    record { from = omega (arith, ints); upto = omega (arith, ints, few) }
is_sign (negsuc n) h = let few : suc n ≤ 1 = leb-true _ _ h in
    record { from = omega (arith, ints, few); upto = omega (arith, ints) }

-- a test that is false where its negation passes
untrue : (b : Bool) → not b ≡ true → ¬ (b ≡ true)
untrue true h = cc
untrue false h = λ e. absurd (cc)

direction : (u v t : ℤ) → is_direction u v t ≡ true → IsDirection u v t
direction u v t h =
    let x = and_parts (is_part u) _ h in
    let y = and_parts (is_part v) _ x.1 in
    let z = and_parts (is_part t) _ y.1 in
    record {
      x = is_sign u x.0;
      y = is_sign v y.0;
      z = is_sign t z.0;
      some = λ n. untrue (are_zeros u v t) z.1 (rw (n.0, n.1, n.2) refl);
    }

pub each_direction : (list : List (List ℤ)) → IsTrue (has_directions list)
    → All (λ d. IsDirection (slice_index_or d 0 (pos 0)) (slice_index_or d 1 (pos 0))
    (slice_index_or d 2 (pos 0))) list
each_direction list h = λ k d l. direction _ _ _ (AllPass-from_list_all _ list h k d l)

-- a test that all signs pass, at a sign
at_sign : (p : ℤ → Bool) → list_all p signs ≡ true → (z : ℤ) → IsSign z → p z ≡ true
at_sign p h z s = by_value z s
  where
    minus : (p (negsuc 0) ≡ true) × (list_all p (pos 0 ∷ pos 1 ∷ []) ≡ true)
    minus = and_parts _ _ h

    nought : (p (pos 0) ≡ true) × (list_all p (pos 1 ∷ []) ≡ true)
    nought = and_parts _ _ minus.1

    by_value : (z : ℤ) → IsSign z → p z ≡ true
    by_value (pos zero) s = nought.0
    by_value (pos (suc zero)) s = (and_parts _ _ nought.1).0
    by_value (pos (suc (suc n))) s = absurd (omega (arith, ints, s.upto))
    by_value (negsuc zero) s = minus.0
    by_value (negsuc (suc n)) s = absurd (omega (arith, ints, s.from))

-- what passes one of two tests and not the first passes the second
or_else : (a b : Bool) → (a || b) ≡ true → ¬ (a ≡ true) → b ≡ true
or_else true b h n = absurd (n refl)
or_else false b h n = h

pub all_directions : (list : List (List ℤ)) → IsTrue (has_each list) → (u v t : ℤ) → IsDirection u v t
    → Contains list (u ∷ v ∷ t ∷ [])
all_directions list h u v t d =
    let row : List ℤ = u ∷ v ∷ t ∷ [] in
    let rows = λ (a b c : ℤ). are_zeros a b c || list_any (pointwise int_eq (a ∷ b ∷ c ∷ [])) list in
    let one =
    at_sign (rows u v)
    (at_sign (λ b. list_all (rows u b) signs)
    (at_sign (λ a. list_all (λ b. list_all (rows a b) signs) signs) h u d.x) v d.y) t d.z in
    let found = Any-from_list_any (pointwise int_eq row) list
    (or_else (are_zeros u v t) _ one (λ e. d.some (zeros u v t e))) in
    let same : row ≡ found.1 = (slice_eq-Decides Decides-int_eq row found.1 _ refl).0 found.4 in
    (found.0, found.2, subst (λ r. slice_index_or list found.0 r ≡ r) (sym same) found.3)
