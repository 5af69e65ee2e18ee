-- A dieline's text of its pieces.
use Rattle.std.proofs.Common.{◌≡◌, ℕ, List, ◌++◌, ap, ◌∙◌, codes}
use Rattle.std.specs.Fmt.{decimal, signed_decimal}
use Rattle.carton_made.specs.declared.kinds.Kind.{Kind}
use Rattle.carton_made.specs.Drawings.{vertices, edges, letters, faces}
use Rattle.carton_made.specs.Made.{listed, listed_texts, dieline_of}
use Rattle.carton_made.proofs.Entries.{joined}

pub text_is : (kind : Kind) (s : ℕ) (t0 t1 t2 t3 t4 t5 t6 t7 new : List ℕ)
    → t0 ≡ codes "{\"vertices_coords\":" → t1 ≡ t0 ++ listed (listed signed_decimal) (vertices kind s)
    → t2 ≡ t1 ++ codes ",\"edges_vertices\":"
    → t3 ≡ t2 ++ listed (listed decimal) (edges kind) → t4 ≡ t3 ++ codes ",\"edges_assignment\":"
    → t5 ≡ t4 ++ listed_texts (letters kind) → t6 ≡ t5 ++ codes ",\"faces_vertices\":"
    → t7 ≡ t6 ++ listed (listed decimal) (faces kind) → new ≡ t7 ++ codes "}" → new ≡ dieline_of kind s
unfolding dieline_of
text_is kind s t0 t1 t2 t3 t4 t5 t6 t7 new e0 e1 e2 e3 e4 e5 e6 e7 e8 =
    joined t0 t1 new _ _ e1
    (joined t1 t2 new _ _ e2
    (joined t2 t3 new _ _ e3
    (joined t3 t4 new _ _ e4
    (joined t4 t5 new _ _ e5 (joined t5 t6 new _ _ e6 (joined t6 t7 new _ _ e7 e8))))))
    ∙ ap (λ (bs : List ℕ). bs
    ++ (listed (listed signed_decimal) (vertices kind s)
    ++ (codes ",\"edges_vertices\":" ++ (listed (listed decimal) (edges kind)
    ++ (codes ",\"edges_assignment\":"
    ++ (listed_texts (letters kind)
    ++ (codes ",\"faces_vertices\":" ++ (listed (listed decimal) (faces kind) ++ codes "}")))))))) e0
