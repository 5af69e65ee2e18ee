-- The lists of a tray.
use Rattle.std.proofs.Common.{◌≡◌, ℕ, ◌+◌, List, ◌++◌, codes, pos, unsigned_abs, refl, append_assoc, ap, sym}
use Rattle.std.proofs.Common.{◌∙◌}
use Rattle.std.specs.Fmt.{decimal, digits, signed_decimal}
use Rattle.carton_made.specs.declared.kinds.Kind.TheVariants.{Tray}
use Rattle.carton_made.specs.Drawings.{resized, vertices, edges, letters, faces}
use Rattle.carton_made.specs.Made.{listed, listed_texts}
use Rattle.carton_made.proofs.Entries.{lists_alone, numbers_alone, joined}
use Rattle.carton_made.proofs.Small.{text_0, text_60}

pub edges_text : listed (listed decimal) (edges Tray)
    ≡ codes
    "[[0,1],[1,2],[2,3],[3,0],[0,4],[4,5],[5,1],[1,6],[6,7],[7,2],[2,8],[8,9],[9,3],[3,10],[10,11],[11,0]]"
unfolding edges listed digits
edges_text = refl

pub faces_text : listed (listed decimal) (faces Tray)
    ≡ codes "[[0,1,2,3],[4,5,1,0],[1,6,7,2],[3,2,8,9],[11,0,3,10]]"
unfolding faces listed digits
faces_text = refl

pub letters_text : listed_texts (letters Tray)
    ≡ codes
    "[\"V\",\"V\",\"V\",\"V\",\"B\",\"B\",\"B\",\"B\",\"B\",\"B\",\"B\",\"B\",\"B\",\"B\",\"B\",\"B\"]"
unfolding letters
letters_text = numbers_alone (λ text. text) (letters Tray)

-- the corners of the base
abbrev pub base : ℕ → List ℕ
base s =
    codes "[[0,0],["
    ++ (decimal s
    ++ (codes ",0],["
    ++ (decimal s ++ (codes "," ++ (decimal s ++ (codes "],[0," ++ (decimal s ++ codes "]")))))))

-- the ends of the flap at smaller y
abbrev pub low : ℕ → List ℕ
low s = codes ",[0,-60],[" ++ (decimal s ++ codes ",-60]")

-- at greater x
abbrev pub right : ℕ → ℕ → List ℕ
right s far =
    codes ",[" ++ (decimal far ++ (codes ",0],[" ++ (decimal far ++ (codes "," ++ (decimal s ++ codes "]")))))

-- at greater y
abbrev pub high : ℕ → ℕ → List ℕ
high s far =
    codes ",[" ++ (decimal s ++ (codes "," ++ (decimal far ++ (codes "],[0," ++ (decimal far ++ codes "]")))))

-- at smaller x
abbrev pub left : ℕ → List ℕ
left s = codes ",[-60," ++ (decimal s ++ codes "],[-60,0]]")

vertices_text : (s : ℕ) → listed (listed signed_decimal) (vertices Tray s)
    ≡ base s ++ (low s ++ (right s (s + 60) ++ (high s (s + 60) ++ left s)))
unfolding vertices
vertices_text s =
    rw (lists_alone signed_decimal (vertices Tray s)) (simp (text_0, text_60, append_assoc) refl)

pub vertices_of : (s side far : ℕ) (old t0 t1 t2 t3 new : List ℕ) → pos side ≡ resized s (pos 100)
    → pos far ≡ resized s (pos 160)
    → t0 ≡ old ++ base side → t1 ≡ t0 ++ low side → t2 ≡ t1 ++ right side far → t3 ≡ t2 ++ high side far
    → new ≡ t3 ++ left side
    → new ≡ old ++ listed (listed signed_decimal) (vertices Tray s)
vertices_of s side far old t0 t1 t2 t3 new is_side is_far e0 e1 e2 e3 e4 =
    let e : side ≡ s = ap unsigned_abs is_side in
    let f : far ≡ s + 60 = ap unsigned_abs is_far in
    joined old t0 new _ _ e0 (joined t0 t1 new _ _ e1 (joined t1 t2 new _ _ e2 (joined t2 t3 new _ _ e3 e4)))
    ∙ (λ i. old ++ (base (e i) ++ (low (e i) ++ (right (e i) (f i) ++ (high (e i) (f i) ++ left (e i))))))
    ∙ ap (λ (bs : List ℕ). old ++ bs) (sym (vertices_text s))
