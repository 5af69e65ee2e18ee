-- Texts of one piece for each element of a list, made piece by piece.
use Rattle.std.proofs.Common.{◌≡◌, ℕ, ◌+◌, ◌≤◌, ◌<◌, List, [], ◌∷◌, ◌++◌, refl, sym, ap, ◌∙◌, subst, length}
use Rattle.std.proofs.Common.{take, get_or, arith}
use Rattle.std.proofs.lemmas.List.{append-nil, append_assoc, take_more, take_all, length-take-le}
use Rattle.carton_text.specs.Poses.{ArePieces}

-- a piece for one element more
piece_more : {A : Type 0} (IsPiece : ℕ → A → List ℕ → Type 0) (k : ℕ) (xs : List A) (x : A)
    (text piece : List ℕ) → ArePieces IsPiece k xs text → IsPiece (k + length xs) x piece
    → ArePieces IsPiece k (xs ++ x ∷ []) (text ++ piece)
piece_more {A} IsPiece k [] x text piece h p =
    let here : k + 0 ≡ k = omega arith in
    (piece, [], subst (λ n. IsPiece n x piece) here p, ap (λ t. t ++ piece) h ∙ sym (append-nil piece), refl)
piece_more {A} IsPiece k (y ∷ ys) x text piece h p =
    let here : k + length (y ∷ ys) ≡ k + 1 + length ys = omega arith in (
      h.0,
      h.1 ++ piece,
      h.2,
      ap (λ t. t ++ piece) h.3
          ∙ append_assoc h.0 h.1 piece,
      piece_more IsPiece (k + 1) ys x h.1 piece h.4
          (subst (λ n. IsPiece n x piece) here p),
    )

-- a loop wrote the pieces of the first elements, and writes the next one
pub next_piece : {A : Type 0} (IsPiece : ℕ → A → List ℕ → Type 0) (xs : List A) (i : ℕ) (x : A)
    (text piece : List ℕ) → i < length xs → x ≡ get_or xs i x → IsPiece i x piece
    → ArePieces IsPiece 0 (take i xs) text
    → ArePieces IsPiece 0 (take (i + 1) xs) (text ++ piece)
next_piece {A} IsPiece xs i x text piece lt is p so_far =
    let count : i ≡ 0 + length (take i xs) = omega (arith, length-take-le i xs (omega (arith, lt))) in
    let more : take (i + 1) xs ≡ take i xs ++ x ∷ [] = take_more xs i x lt
    ∙ ap (λ (y : A). take i xs ++ y ∷ []) (sym is) in
    subst (λ ys. ArePieces IsPiece 0 ys (text ++ piece)) (sym more)
    (piece_more IsPiece 0 (take i xs) x text piece so_far (subst (λ n. IsPiece n x piece) count p))

-- it wrote those of all
pub all_pieces : {A : Type 0} (IsPiece : ℕ → A → List ℕ → Type 0) (xs : List A) (i : ℕ) (text : List ℕ)
    → length xs ≤ i → ArePieces IsPiece 0 (take i xs) text → ArePieces IsPiece 0 xs text
all_pieces IsPiece xs i text le h = subst (λ ys. ArePieces IsPiece 0 ys text) (take_all i xs le) h
