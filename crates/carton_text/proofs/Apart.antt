-- Lists whose elements all differ, told one after the other.
use Rattle.std.specs.Prelude.{⊤}
use Rattle.std.proofs.Common.{◌≡◌, ◌≢◌, zero, suc, List, [], ◌∷◌, ◌++◌, Option, Some, None, filter_map}
use Rattle.std.proofs.Common.{AllPairs, refl, sym, ap, ◌∙◌, arith}
use Rattle.std.specs.List.{AllByRecursion, cons_option}
use Rattle.std.proofs.lemmas.List.Elements.{All-from_recursion, recursion_from_All}

-- each element differs from all that come after it
abbrev pub Apart : {X : Type 0} → List X → Type 0
Apart [] = ⊤
Apart (x ∷ xs) = AllByRecursion (λ y. x ≢ y) xs × Apart xs

pub apart_from_pairs : {X : Type 0} (xs : List X) → AllPairs ◌≢◌ xs → Apart xs
apart_from_pairs [] h = tt
apart_from_pairs (x ∷ xs) h = (
  recursion_from_All (λ y. x ≢ y) xs (λ k d lt. h 0 (suc k) d (omega arith) (omega arith)),
  apart_from_pairs xs (λ i j d lt less. h (suc i) (suc j) d (omega arith) (omega arith)),
)

pub pairs_from_apart : {X : Type 0} (xs : List X) → Apart xs → AllPairs ◌≢◌ xs
pairs_from_apart [] h i j d lt less = absurd (omega arith)
pairs_from_apart (x ∷ xs) h zero zero d lt less = absurd (omega arith)
pairs_from_apart (x ∷ xs) h zero (suc j) d lt less = All-from_recursion (λ y. x ≢ y) xs h.0 j d (omega arith)
pairs_from_apart (x ∷ xs) h (suc i) zero d lt less = absurd (omega arith)
pairs_from_apart (x ∷ xs) h (suc i) (suc j) d lt less =
    pairs_from_apart xs h.1 i j d (omega arith) (omega arith)

pub all_joined : {X : Type 0} (P : X → Type 0) (xs ys : List X) → AllByRecursion P xs → AllByRecursion P ys
    → AllByRecursion P (xs ++ ys)
all_joined P [] ys a b = b
all_joined P (x ∷ xs) ys a b = (a.0, all_joined P xs ys a.1 b)

pub apart_joined : {X : Type 0} (xs ys : List X) → Apart xs → Apart ys
    → AllByRecursion (λ x. AllByRecursion (λ y. x ≢ y) ys) xs → Apart (xs ++ ys)
apart_joined [] ys a b c = b
apart_joined (x ∷ xs) ys a b c = (all_joined (λ y. x ≢ y) xs ys a.0 c.0, apart_joined xs ys a.1 b c.1)

pub all_of : {X : Type 0} (P Q : X → Type 0) (xs : List X) → ((x : X) → P x → Q x) → AllByRecursion P xs
    → AllByRecursion Q xs
all_of P Q [] f h = tt
all_of P Q (x ∷ xs) f h = (f x h.0, all_of P Q xs f h.1)

-- what follows of each element holds of what is found of it
pub found : {X Y : Type 0} (P : X → Type 0) (Q : Y → Type 0) (f : X → Option Y) (xs : List X)
    → ((x : X) (y : Y) → P x → f x ≡ Some y → Q y) → AllByRecursion P xs → AllByRecursion Q (filter_map f xs)
found P Q f [] follows h = tt
found {X} {Y} P Q f (x ∷ xs) follows h = by_value (f x) refl (found P Q f xs follows h.1)
  where
    by_value : (o : Option Y) → f x ≡ o → AllByRecursion Q (filter_map f xs)
        → AllByRecursion Q (cons_option o (filter_map f xs))
    by_value None e rest = rest
    by_value (Some y) e rest = (follows x y h.0 e, rest)

-- what is found of different elements differs, where no two elements give one
pub found_apart : {X Y : Type 0} (f : X → Option Y) (xs : List X)
    → ((x z : X) (y : Y) → f x ≡ Some y → f z ≡ Some y → x ≡ z) → Apart xs → Apart (filter_map f xs)
found_apart f [] one h = tt
found_apart {X} {Y} f (x ∷ xs) one h = by_value (f x) refl (found_apart f xs one h.1)
  where
    by_value : (o : Option Y) → f x ≡ o → Apart (filter_map f xs) → Apart (cons_option o (filter_map f xs))
    by_value None e rest = rest
    by_value (Some y) e rest = (
      found (λ z. x ≢ z) (λ w. y ≢ w) f xs
          (λ z w differs q same. differs (one x z y e (q ∙ ap (λ (v : Y). Some v) (sym same)))) h.0,
      rest,
    )
