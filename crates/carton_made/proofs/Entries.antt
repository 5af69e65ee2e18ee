-- Entries of lists that are written one by one.
use Rattle.std.proofs.Common.{◌≡◌, ℕ, ◌+◌, ◌-◌, ◌≤◌, suc, List, [], ◌∷◌, ◌++◌, map, append_assoc, refl, sym}
use Rattle.std.proofs.Common.{ap, ◌∙◌, arith}
use Rattle.std.specs.Prelude.{Result, Ok, Err, OnOk, is_ok, if◌then◌else◌}
use Rattle.std.specs.List.{flat_map, range_with_len}
use Rattle.std.specs.Fmt.{decimal, signed_decimal}
use Rattle.std.proofs.lemmas.List.{append-nil, map-id}
use Rattle.std.proofs.lemmas.List.FromFn.{map-range_with_len_more}
use Rattle.std.proofs.lemmas.Grind.{flat_map-append}
use Rattle.carton_made.specs.Drawings.{two, four, at}
use Rattle.carton_made.specs.Made.{listed, following}

-- a piece more at the end of a text
pub joined : (old now new a b : List ℕ) → now ≡ old ++ a → new ≡ now ++ b → new ≡ old ++ (a ++ b)
joined old now new a b p q = q ∙ ap (λ (bs : List ℕ). bs ++ b) p ∙ append_assoc old a b

-- what follows of a text that was pushed, where memory sufficed
pub at_ok : {T E Q : Type 0} {new : List ℕ} (done left : List ℕ) (r : Result T E) → (new ≡ done → Q)
    → new ≡ (if is_ok r then done else left) → OnOk r Q
at_ok done left (Ok x) f e = f e
at_ok done left (Err x) f e = tt

-- one more text, where texts of a list were written
pub more : {X : Type 0} (f : X → List ℕ) (xs ys : List X) (x : X) (old now new : List ℕ) → ys ≡ xs ++ x ∷ []
    → now ≡ old ++ flat_map f xs → new ≡ now ++ f x → new ≡ old ++ flat_map f ys
more f xs ys x old now new grew wrote writes =
    writes ∙ ap (λ (bs : List ℕ). bs ++ f x) wrote ∙ append_assoc old (flat_map f xs) (f x)
    ∙ ap (λ (bs : List ℕ). old ++ (flat_map f xs ++ bs)) (sym (append-nil (f x)))
    ∙ ap (λ (bs : List ℕ). old ++ bs) (sym (flat_map-append f xs (x ∷ [])) ∙ ap (flat_map f) (sym grew))

pub counted : {X : Type 0} (g : ℕ → X) (first i : ℕ) → first ≤ i
    → map g (range_with_len first (i + 1 - first)) ≡ map g (range_with_len first (i - first)) ++ g i ∷ []
counted g first i le = let e : i + 1 - first ≡ i - first + 1 = omega (arith, le) in
    ap (λ n. map g (range_with_len first n)) e
    ∙ map-range_with_len_more g first (i - first) i (omega (arith, le))

pub range_more : (first i : ℕ) → first ≤ i → range_with_len first (i + 1 - first)
    ≡ range_with_len first (i - first) ++ i ∷ []
range_more first i le = sym (map-id (range_with_len first (i + 1 - first))) ∙ counted (λ k. k) first i le
    ∙ ap (λ (ks : List ℕ). ks ++ i ∷ []) (map-id (range_with_len first (i - first)))

-- one line or word more for a crease
pub one_crease : (f : ℕ → List ℕ) (first i : ℕ) (old now new : List ℕ) → first ≤ i
    → now ≡ old ++ flat_map f (range_with_len first (i - first))
    → new ≡ now ++ f i → new ≡ old ++ flat_map f (range_with_len first (i + 1 - first))
one_crease f first i old now new le wrote writes =
    more f (range_with_len first (i - first)) _ i old now new (range_more first i le) wrote writes

-- one entry more of a list
pub one_more : {X : Type 0} (f : X → List ℕ) (g : ℕ → X) (first i : ℕ) (old now new t : List ℕ) → first ≤ i
    → now ≡ old ++ following f (map g (range_with_len first (i - first))) → new ≡ now ++ 44 ∷ t → t ≡ f (g i)
    → new ≡ old ++ following f (map g (range_with_len first (i + 1 - first)))
one_more f g first i old now new t le wrote writes is =
    more (λ x. 44 ∷ f x) (map g (range_with_len first (i - first))) _ (g i) old now new (counted g first i le)
    wrote (writes ∙ ap (λ (bs : List ℕ). now ++ 44 ∷ bs) is)

-- what follows the first entry, up to the end and the rest
abbrev pub tail_on : {X : Type 0} → (X → List ℕ → List ℕ) → List X → List ℕ → List ℕ
tail_on g [] rest = 93 ∷ rest
tail_on g (x ∷ xs) rest = 44 ∷ g x (tail_on g xs rest)

-- a list and the rest, where g writes an entry before its rest
abbrev pub listed_on : {X : Type 0} → (X → List ℕ → List ℕ) → List X → List ℕ → List ℕ
listed_on g [] rest = 91 ∷ 93 ∷ rest
listed_on g (x ∷ xs) rest = 91 ∷ g x (tail_on g xs rest)

module _ {X : Type 0} (f : X → List ℕ) (g : X → List ℕ → List ℕ)
    (same : (x : X) (rest : List ℕ) → f x ++ rest ≡ g x rest) where
  following_is : (xs : List X) (rest : List ℕ) → following f xs ++ 93 ∷ rest ≡ tail_on g xs rest
  following_is [] rest = refl
  following_is (x ∷ xs) rest =
      ap (λ (bs : List ℕ). 44 ∷ bs) (append_assoc (f x) (following f xs) (93 ∷ rest)
      ∙ same x (following f xs ++ 93 ∷ rest) ∙ ap (g x) (following_is xs rest))

  pub listed_is : (xs : List X) (rest : List ℕ) → listed f xs ++ rest ≡ listed_on g xs rest
  unfolding listed
  listed_is [] rest = refl
  listed_is (x ∷ xs) rest = ap (λ (bs : List ℕ). 91 ∷ bs)
      (append_assoc (f x ++ following f xs) (93 ∷ []) rest ∙ append_assoc (f x) (following f xs) (93 ∷ rest)
      ∙ same x (following f xs ++ 93 ∷ rest) ∙ ap (g x) (following_is xs rest))

-- a list of numbers and the rest
abbrev pub numbers_on : {X : Type 0} → (X → List ℕ) → List X → List ℕ → List ℕ
numbers_on f = listed_on (λ x rest. f x ++ rest)

pub numbers_are : {X : Type 0} (f : X → List ℕ) (xs : List X) (rest : List ℕ) → listed f xs ++ rest
    ≡ numbers_on f xs rest
numbers_are f = listed_is f (λ x rest. f x ++ rest) (λ x rest. refl)

pub numbers_alone : {X : Type 0} (f : X → List ℕ) (xs : List X) → listed f xs ≡ numbers_on f xs []
numbers_alone f xs = sym (append-nil (listed f xs)) ∙ numbers_are f xs []

pub lists_alone : {X : Type 0} (f : X → List ℕ) (xs : List (List X)) → listed (listed f) xs
    ≡ listed_on (numbers_on f) xs []
lists_alone f xs = sym (append-nil (listed (listed f) xs))
    ∙ listed_is (listed f) (numbers_on f) (numbers_are f) xs []

pub vertex_text : (x y : ℕ) → listed signed_decimal (at x y) ≡ 91 ∷ (decimal x ++ 44 ∷ (decimal y ++ 93 ∷ []))
vertex_text x y = numbers_alone signed_decimal (at x y)

pub two_text : (a b : ℕ) → listed decimal (two a b) ≡ 91 ∷ (decimal a ++ 44 ∷ (decimal b ++ 93 ∷ []))
two_text a b = numbers_alone decimal (two a b)

pub four_text : (a b c d : ℕ) → listed decimal (four a b c d)
    ≡ 91 ∷ (decimal a ++ 44 ∷ (decimal b ++ 44 ∷ (decimal c ++ 44 ∷ (decimal d ++ 93 ∷ []))))
four_text a b c d = numbers_alone decimal (four a b c d)

-- a list whose first entry, other entries and end were written
pub list_of : {X : Type 0} (f : X → List ℕ) (x : X) (xs : List X) (old now all new : List ℕ)
    → now ≡ old ++ 91 ∷ f x → all ≡ now ++ following f xs → new ≡ all ++ 93 ∷ []
    → new ≡ old ++ listed f (x ∷ xs)
unfolding listed
list_of f x xs old now all new begun wrote ended =
    ended ∙ ap (λ (bs : List ℕ). bs ++ 93 ∷ []) (wrote ∙ ap (λ (bs : List ℕ). bs ++ following f xs) begun)
    ∙ simp append_assoc

pub from_first : {X : Type 0} (g : ℕ → X) (n m : ℕ) → n ≡ m + 1 → map g (range_with_len 0 n)
    ≡ g 0 ∷ map g (range_with_len 1 m)
from_first g n m e = let f : n ≡ suc m = omega (arith, e) in ap (λ k. map g (range_with_len 0 k)) f
