-- Loops over places, over numbers two by two, and over boxes that are added.
use Rattle.std.proofs.Common.{◌≡◌, ℕ, suc, ◌+◌, ◌-◌, ◌*◌, ◌≤◌, ◌<◌, ℤ, List, [], ◌∷◌, ◌++◌, length, drop}
use Rattle.std.proofs.Common.{get_or, drop-cons, add-one, refl, sym, ap, ◌∙◌, append_assoc, arith}
use Rattle.std.specs.List.{range_with_len}
use Rattle.std.proofs.lemmas.List.{append-nil, length-drop}
use Rattle.carton_base.specs.declared.dieline.Point.{Point}
use Rattle.carton_catalogue.specs.CatalogueLines.{points_of}

-- the places from k on begin with k
pub next_place : (k n : ℕ) → k < n → range_with_len k (n - k) ≡ k ∷ range_with_len (k + 1) (n - (k + 1))
next_place k n lt = by_rest (n - k) (n - (k + 1)) (omega (arith, lt))
  where
    by_rest : (r s : ℕ) → r ≡ s + 1 → range_with_len k r ≡ k ∷ range_with_len (k + 1) s
    by_rest r s e = ap (λ (m : ℕ). range_with_len k m) (e ∙ add-one s)

pub no_place : (k n : ℕ) → n ≤ k → range_with_len k (n - k) ≡ []
no_place k n le =
    let e : n - k ≡ 0 = omega (arith, le) in
    rw e refl

-- the numbers from place 2k on begin with two
pub next_two : (zs : List ℤ) (k : ℕ) (d e : ℤ) → 2 * k + 1 < length zs
    → drop (2 * k) zs ≡ get_or zs (2 * k) d ∷ get_or zs (2 * k + 1) e ∷ drop (2 * (k + 1)) zs
next_two zs k d e lt =
    let first : drop (2 * k) zs ≡ get_or zs (2 * k) d ∷ drop (suc (2 * k)) zs =
    drop-cons zs (2 * k) d (omega (arith, lt)) in
    let second : drop (suc (2 * k)) zs ≡ get_or zs (suc (2 * k)) e ∷ drop (suc (suc (2 * k))) zs =
    drop-cons zs (suc (2 * k)) e (omega (arith, lt)) in
    let one : suc (2 * k) ≡ 2 * k + 1 = omega arith in
    let two : suc (suc (2 * k)) ≡ 2 * (k + 1) = omega arith in
    first ∙ ap (λ (ys : List ℤ). get_or zs (2 * k) d ∷ ys) (second
    ∙ ap (λ (i : ℕ). get_or zs i e ∷ drop (suc (suc (2 * k))) zs) one
    ∙ ap (λ (i : ℕ). get_or zs (2 * k + 1) e ∷ drop i zs) two)

short : (zs : List ℤ) → length zs < 2 → points_of zs ≡ []
short [] lt = refl
short (x ∷ []) lt = refl
short (x ∷ y ∷ zs) lt = absurd (omega (arith, lt))

-- and where fewer than two are left there is no point
pub no_two : (zs : List ℤ) (k : ℕ) → length zs < 2 * k + 2 → points_of (drop (2 * k) zs) ≡ []
no_two zs k lt = short (drop (2 * k) zs) (omega (arith, length-drop (2 * k) zs, lt))

-- one point more
pub more_points : (front : List Point) (zs total : List ℤ) (k : ℕ) (d e : ℤ) → 2 * k + 1 < length zs
    → front ++ points_of (drop (2 * k) zs) ≡ points_of total
    → (front ++ (record { x = get_or zs (2 * k) d; y = get_or zs (2 * k + 1) e }) ∷ [])
    ++ points_of (drop (2 * (k + 1)) zs) ≡ points_of total
more_points front zs total k d e lt so_far =
    let p : Point = record { x = get_or zs (2 * k) d; y = get_or zs (2 * k + 1) e } in
    append_assoc front (p ∷ []) (points_of (drop (2 * (k + 1)) zs))
    ∙ ap (λ (ys : List ℤ). front ++ points_of ys) (sym (next_two zs k d e lt)) ∙ so_far

pub all_points : (front : List Point) (zs total : List ℤ) (k : ℕ) → length zs < 2 * k + 2
    → front ++ points_of (drop (2 * k) zs) ≡ points_of total → front ≡ points_of total
all_points front zs total k lt so_far = sym (append-nil front)
    ∙ ap (λ (ps : List Point). front ++ ps) (sym (no_two zs k lt)) ∙ so_far
