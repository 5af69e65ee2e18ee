-- The lists of a row, of which the first entry stands apart.
use Rattle.std.proofs.Common.{◌≡◌, ℕ, ◌+◌, ◌-◌, ◌*◌, ◌<◌, ℤ, List, [], ◌∷◌, ◌++◌, map, append_assoc, refl}
use Rattle.std.proofs.Common.{sym, ap, ◌∙◌, arith, codes, false, nat_lt}
use Rattle.std.proofs.lemmas.Bool.{lt-leb}
use Rattle.std.specs.List.{range_with_len}
use Rattle.std.specs.Fmt.{decimal, signed_decimal}
use Rattle.std.proofs.lemmas.Grind.{flat_map-append}
use Rattle.carton_made.specs.Drawings.{at, side_vertex, row_vertices, along, across, row_edges, letter_b}
use Rattle.carton_made.specs.Drawings.{row_letter, row_letters, row_face, row_faces}
use Rattle.carton_made.specs.Made.{listed, listed_texts, following}
use Rattle.carton_made.proofs.Entries.{list_of, from_first, vertex_text, two_text, four_text}
use Rattle.carton_made.proofs.Small.{text_0, text_1}

-- a list of two runs of entries after the first
two_runs : {X : Type 0} (f : X → List ℕ) (xs ys : List X) (t0 t1 t2 : List ℕ) → t1 ≡ t0 ++ following f xs
    → t2 ≡ t1 ++ following f ys → t2 ≡ t0 ++ following f (xs ++ ys)
two_runs f xs ys t0 t1 t2 p q =
    q ∙ ap (λ (bs : List ℕ). bs ++ following f ys) p ∙ append_assoc t0 (following f xs) (following f ys)
    ∙ ap (λ (bs : List ℕ). t0 ++ bs) (sym (flat_map-append (λ x. codes "," ++ f x) xs ys))

first_vertex : (s : ℕ) → listed signed_decimal (side_vertex s 0 0) ≡ codes "[0,0]"
first_vertex s = let zero : 0 * s ≡ 0 = omega arith in ap (λ x. listed signed_decimal (at x 0)) zero
    ∙ vertex_text 0 0 ∙ ap (λ (z : List ℕ). 91 ∷ (z ++ 44 ∷ (z ++ 93 ∷ []))) text_0

first_edge : listed decimal (along 0) ≡ codes "[0,1]"
first_edge = two_text 0 1 ∙ (λ i. 91 ∷ (text_0 i ++ 44 ∷ (text_1 i ++ 93 ∷ [])))

first_letter : (n : ℕ) → row_letter n 0 ≡ letter_b
first_letter n = let no : nat_lt (2 * n) 0 ≡ false = lt-leb _ _ (omega arith) in rw no refl

first_face : (n : ℕ) → listed decimal (row_face n 0) ≡ 91 ∷ 48 ∷ 44 ∷ 49 ∷ 44
    ∷ (decimal (n + 2) ++ 44 ∷ (decimal (n + 1) ++ 93 ∷ []))
first_face n =
    let beyond : n + 2 + 0 ≡ n + 2 = omega arith in
    let opposite : n + 1 + 0 ≡ n + 1 = omega arith in
    four_text 0 1 (n + 2 + 0) (n + 1 + 0)
    ∙ (λ i. 91
    ∷ (text_0 i ++ 44
    ∷ (text_1 i ++ 44 ∷ (decimal (beyond i) ++ 44 ∷ (decimal (opposite i) ++ 93 ∷ [])))))

pub vertices_of : (n s : ℕ) (old t0 t1 t2 new : List ℕ) → t0 ≡ old ++ codes "[[0,0]"
    → t1 ≡ t0 ++ following (listed signed_decimal) (map (side_vertex s 0) (range_with_len 1 (n + 1 - 1)))
    → t2 ≡ t1 ++ following (listed signed_decimal) (map (side_vertex s 100) (range_with_len 0 (n + 1 - 0)))
    → new ≡ t2 ++ codes "]" → new ≡ old ++ listed (listed signed_decimal) (row_vertices n s)
vertices_of n s old t0 t1 t2 new begun low high ended =
    let f : List ℤ → List ℕ = listed signed_decimal in
    let first : t0 ≡ old ++ 91 ∷ f (side_vertex s 0 0) = begun
    ∙ ap (λ (bs : List ℕ). old ++ 91 ∷ bs) (sym (first_vertex s)) in
    let count : n + 1 - 0 ≡ n + 1 = omega arith in
    let high' : t2 ≡ t1 ++ following f (map (side_vertex s 100) (range_with_len 0 (n + 1))) = high
    ∙ ap (λ k. t1 ++ following f (map (side_vertex s 100) (range_with_len 0 k))) count in
    list_of f (side_vertex s 0 0)
    (map (side_vertex s 0) (range_with_len 1 (n + 1 - 1))
    ++ map (side_vertex s 100) (range_with_len 0 (n + 1))) old t0 t2 new first
    (two_runs f _ _ t0 t1 t2 low high') ended
    ∙ ap (λ (vs : List (List ℤ)). old ++ listed f (vs ++ map (side_vertex s 100) (range_with_len 0 (n + 1))))
    (sym (from_first (side_vertex s 0) (n + 1) (n + 1 - 1) (omega arith)))

pub edges_of : (n : ℕ) (old t0 t1 t2 t3 new : List ℕ) → 0 < n → t0 ≡ old ++ codes "[[0,1]"
    → t1 ≡ t0 ++ following (listed decimal) (map along (range_with_len 1 (n - 1)))
    → t2 ≡ t1 ++ following (listed decimal) (map along (range_with_len (n + 1) (2 * n + 1 - (n + 1))))
    → t3 ≡ t2 ++ following (listed decimal) (map (across n) (range_with_len 0 (n + 1)))
    → new ≡ t3 ++ codes "]" → new ≡ old ++ listed (listed decimal) (row_edges n)
edges_of n old t0 t1 t2 t3 new some begun near far over ended =
    let f : List ℕ → List ℕ = listed decimal in
    let first : t0 ≡ old ++ 91 ∷ f (along 0) = begun
    ∙ ap (λ (bs : List ℕ). old ++ 91 ∷ bs) (sym first_edge) in
    let count : 2 * n + 1 - (n + 1) ≡ n = omega arith in
    let far' : t2 ≡ t1 ++ following f (map along (range_with_len (n + 1) n)) = far
    ∙ ap (λ k. t1 ++ following f (map along (range_with_len (n + 1) k))) count in
    let rest : List (List ℕ) = map along (range_with_len (n + 1) n)
    ++ map (across n) (range_with_len 0 (n + 1)) in
    list_of f (along 0) (map along (range_with_len 1 (n - 1)) ++ rest) old t0 t3 new first
    (two_runs f _ _ t0 t1 t3 near (two_runs f _ _ t1 t2 t3 far' over)) ended
    ∙ ap (λ (es : List (List ℕ)). old ++ listed f (es ++ rest))
    (sym (from_first along n (n - 1) (omega (arith, some))))

pub letters_of : (n : ℕ) (old t0 t1 new : List ℕ) → t0 ≡ old ++ codes "[\"B\""
    → t1 ≡ t0 ++ following (λ letter. letter) (map (row_letter n) (range_with_len 1 (3 * n)))
    → new ≡ t1 ++ codes "]" → new ≡ old ++ listed_texts (row_letters n)
letters_of n old t0 t1 new begun more ended =
    let f : List ℕ → List ℕ = λ letter. letter in
    list_of f (row_letter n 0) (map (row_letter n) (range_with_len 1 (3 * n))) old t0 t1 new
    (begun ∙ ap (λ (bs : List ℕ). old ++ 91 ∷ bs) (sym (first_letter n))) more ended
    ∙ ap (λ (ls : List (List ℕ)). old ++ listed f ls) (sym (from_first (row_letter n) (3 * n + 1) (3 * n)
    (omega arith)))

pub faces_of : (n : ℕ) (old t0 t1 new : List ℕ) → 0 < n
    → t0 ≡ old ++ 91 ∷ 91 ∷ 48 ∷ 44 ∷ 49 ∷ 44 ∷ (decimal (n + 2) ++ 44 ∷ (decimal (n + 1) ++ 93 ∷ []))
    → t1 ≡ t0 ++ following (listed decimal) (map (row_face n) (range_with_len 1 (n - 1)))
    → new ≡ t1 ++ codes "]" → new ≡ old ++ listed (listed decimal) (row_faces n)
faces_of n old t0 t1 new some begun more ended =
    let f : List ℕ → List ℕ = listed decimal in
    list_of f (row_face n 0) (map (row_face n) (range_with_len 1 (n - 1))) old t0 t1 new
    (begun ∙ ap (λ (bs : List ℕ). old ++ 91 ∷ bs) (sym (first_face n))) more ended
    ∙ ap (λ (fs : List (List ℕ)). old ++ listed f fs)
    (sym (from_first (row_face n) n (n - 1) (omega (arith, some))))
