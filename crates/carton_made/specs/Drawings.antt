-- What the four keys of a made dieline hold.
use Rattle.std.specs.Prelude.{ℕ, ◌+◌, ◌*◌, ℤ, pos, neg_ℤ, List, [], ◌∷◌, ◌++◌, map, nat_lt, ◌&&◌}
use Rattle.std.specs.Prelude.{if◌then◌else◌, codes}
use Rattle.std.specs.List.{range_with_len}
use Rattle.std.specs.Ordering.{int_eq}
use Rattle.carton_made.specs.declared.kinds.Kind.{Kind}
use Rattle.carton_made.specs.declared.kinds.Kind.TheVariants.{Tray, Strip, Tube}
use Rattle.carton_made.specs.Kinds.{strip_panels, tube_panels}

-- the vertex at x, y
abbrev pub at : ℕ → ℕ → List ℤ
at x y = pos x ∷ pos y ∷ []

-- the vertices of the tray of size 100
abbrev pub tray_vertices : List (List ℤ)
tray_vertices = at 0 0 ∷ at 100 0 ∷ at 100 100 ∷ at 0 100
    ∷ (pos 0 ∷ neg_ℤ (pos 60) ∷ []) ∷ (pos 100 ∷ neg_ℤ (pos 60) ∷ []) ∷ at 160 0 ∷ at 160 100
    ∷ at 100 160 ∷ at 0 160 ∷ (neg_ℤ (pos 60) ∷ pos 100 ∷ []) ∷ (neg_ℤ (pos 60) ∷ pos 0 ∷ []) ∷ []

-- a coordinate of the tray of size 100, in the tray of size s
abbrev pub resized : ℕ → ℤ → ℤ
resized s z = if int_eq z (pos 100) then pos s else (if int_eq z (pos 160) then pos (s + 60) else z)

-- vertex i of a side of a row of panels of size s, at height y
abbrev pub side_vertex : ℕ → ℕ → ℕ → List ℤ
side_vertex s y i = at (i * s) y

abbrev pub row_vertices : ℕ → ℕ → List (List ℤ)
row_vertices n s =
    map (side_vertex s 0) (range_with_len 0 (n + 1)) ++ map (side_vertex s 100) (range_with_len 0 (n + 1))

unfoldable pub vertices : Kind → ℕ → List (List ℤ)
vertices Tray s = map (map (resized s)) tray_vertices
vertices Strip s = row_vertices strip_panels s
vertices Tube s = row_vertices tube_panels s

abbrev pub two : ℕ → ℕ → List ℕ
two a b = a ∷ b ∷ []

abbrev pub tray_edges : List (List ℕ)
tray_edges = two 0 1 ∷ two 1 2 ∷ two 2 3 ∷ two 3 0 ∷ two 0 4 ∷ two 4 5 ∷ two 5 1 ∷ two 1 6
    ∷ two 6 7 ∷ two 7 2 ∷ two 2 8 ∷ two 8 9 ∷ two 9 3 ∷ two 3 10 ∷ two 10 11 ∷ two 11 0 ∷ []

-- the edge along a side, to the next vertex
abbrev pub along : ℕ → List ℕ
along v = two v (v + 1)

-- the edge across a row of n panels
abbrev pub across : ℕ → ℕ → List ℕ
across n i = two i (n + 1 + i)

abbrev pub row_edges : ℕ → List (List ℕ)
row_edges n =
    map along (range_with_len 0 n)
    ++ (map along (range_with_len (n + 1) n) ++ map (across n) (range_with_len 0 (n + 1)))

unfoldable pub edges : Kind → List (List ℕ)
edges Tray = tray_edges
edges Strip = row_edges strip_panels
edges Tube = row_edges tube_panels

abbrev pub letter_b : List ℕ
letter_b = codes "\"B\""

abbrev pub letter_v : List ℕ
letter_v = codes "\"V\""

-- V for the edges between panels, and B for all others
abbrev pub row_letter : ℕ → ℕ → List ℕ
row_letter n edge = if nat_lt (2 * n) edge && nat_lt edge (3 * n) then letter_v else letter_b

abbrev pub row_letters : ℕ → List (List ℕ)
row_letters n = map (row_letter n) (range_with_len 0 (3 * n + 1))

unfoldable pub letters : Kind → List (List ℕ)
letters Tray = letter_v ∷ letter_v ∷ letter_v ∷ letter_v ∷ letter_b ∷ letter_b ∷ letter_b ∷ letter_b
    ∷ letter_b ∷ letter_b ∷ letter_b ∷ letter_b ∷ letter_b ∷ letter_b ∷ letter_b ∷ letter_b ∷ []
letters Strip = row_letters strip_panels
letters Tube = row_letters tube_panels

abbrev pub four : ℕ → ℕ → ℕ → ℕ → List ℕ
four a b c d = a ∷ b ∷ c ∷ d ∷ []

abbrev pub tray_faces : List (List ℕ)
tray_faces = four 0 1 2 3 ∷ four 4 5 1 0 ∷ four 1 6 7 2 ∷ four 3 2 8 9 ∷ four 11 0 3 10 ∷ []

-- panel i of a row of n
abbrev pub row_face : ℕ → ℕ → List ℕ
row_face n i = four i (i + 1) (n + 2 + i) (n + 1 + i)

abbrev pub row_faces : ℕ → List (List ℕ)
row_faces n = map (row_face n) (range_with_len 0 n)

unfoldable pub faces : Kind → List (List ℕ)
faces Tray = tray_faces
faces Strip = row_faces strip_panels
faces Tube = row_faces tube_panels
