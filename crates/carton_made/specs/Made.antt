-- The texts of the made dielines and of their jobs.
use Rattle.std.specs.Prelude.{ℕ, List, ◌++◌, flat_map, codes}
use Rattle.std.specs.List.{join_by}
use Rattle.std.specs.Fmt.{decimal, signed_decimal}
use Rattle.carton_made.specs.declared.kinds.Kind.{Kind}
use Rattle.carton_made.specs.Kinds.{kind_of, size_of, creases, target}
use Rattle.carton_made.specs.Drawings.{vertices, edges, letters, faces}

-- a list as it is written: in brackets, with commas between its entries
unfoldable pub listed : {X : Type 0} → (X → List ℕ) → List X → List ℕ
listed f xs = codes "[" ++ (join_by f (codes ",") xs ++ codes "]")

-- entries that follow others in a list
abbrev pub following : {X : Type 0} → (X → List ℕ) → List X → List ℕ
following f xs = flat_map (λ x. codes "," ++ f x) xs

-- a list of texts
abbrev pub listed_texts : List (List ℕ) → List ℕ
listed_texts = listed (λ text. text)

-- the text of the dieline of a kind and a size
unfoldable pub dieline_of : Kind → ℕ → List ℕ
dieline_of kind s = codes "{\"vertices_coords\":" ++ (listed (listed signed_decimal) (vertices kind s)
    ++ (codes ",\"edges_vertices\":" ++ (listed (listed decimal) (edges kind)
    ++ (codes ",\"edges_assignment\":" ++ (listed_texts (letters kind)
    ++ (codes ",\"faces_vertices\":" ++ (listed (listed decimal) (faces kind) ++ codes "}")))))))

-- the text of the dieline of number k
abbrev pub dieline_text : ℕ → List ℕ
dieline_text k = dieline_of (kind_of k) (size_of k)

-- the line of a crease's target
abbrev pub target_line : Kind → ℕ → List ℕ
target_line kind edge =
    codes "target " ++ (decimal edge ++ (codes " " ++ (signed_decimal (target kind edge) ++ codes "\n")))

-- a crease in the line of the team
abbrev pub member : ℕ → List ℕ
member edge = codes " " ++ decimal edge

-- the text of the job of a kind: all creases go to their targets together
unfoldable pub job_of : Kind → List ℕ
job_of kind = codes "carton job 1\nmargin 4\n" ++ (flat_map (target_line kind) (creases kind)
    ++ (codes "team" ++ (flat_map member (creases kind) ++ codes "\nend\n")))

-- the text of the job of number k
abbrev pub job_text : ℕ → List ℕ
job_text k = job_of (kind_of k)
