-- The rules of faces_vertices.
use Rattle.std.specs.Prelude.{ℕ, List, length, nat_lt, nat_eq, not, ◌||◌, is_some, option_and_then, Bool}
use Rattle.std.specs.Prelude.{Result, Ok, ok_or}
use Rattle.std.specs.List.{list_all}
use Rattle.serde_json.specs.Data.{Data}
use Rattle.carton_base.specs.declared.dieline.Face.{Face}
use Rattle.carton_base.specs.declared.limits.TheConstants.{MOST_PANELS, LEAST_CORNERS, MOST_CORNERS}
use Rattle.carton_fold.specs.declared.error.Key.TheVariants.{Faces}
use Rattle.carton_fold.specs.declared.error.FoldError.{FoldError}
use Rattle.carton_fold.specs.declared.error.FoldError.TheVariants.{BadShape, TooMany, NotWhole, BadVertex}
use Rattle.carton_base.specs.Steps.{◌>>=◌, refuse_if, entries_from}
use Rattle.carton_fold.specs.Values.{list_in, is_number, whole, list_at}
use Rattle.carton_fold.specs.Edges.{vertex_among}

-- a corner of face i, whatever its place in the face
abbrev pub corner_of : ℕ → ℕ → ℕ → Data → Result ℕ FoldError
corner_of vertices i place d = ok_or (option_and_then (vertex_among vertices) (whole d)) (BadVertex Faces i)

-- whether it is a whole number as it is written
abbrev pub is_whole : Data → Bool
is_whole d = is_some (whole d)

-- face i of its numbers
unfoldable pub face_of_parts : ℕ → ℕ → List Data → Result Face FoldError
face_of_parts vertices i parts = do
  fine ← refuse_if (nat_lt (length parts) LEAST_CORNERS || not (list_all is_number parts)) (BadShape Faces)
  fine ← refuse_if (nat_lt MOST_CORNERS (length parts)) (TooMany Faces)
  fine ← refuse_if (not (list_all is_whole parts)) (NotWhole Faces i)
  corners ← entries_from (corner_of vertices i) 0 parts
  Ok (record { corners = corners })

-- face i
abbrev pub face_of : ℕ → ℕ → Data → Result Face FoldError
face_of vertices i d = ok_or (list_in d) (BadShape Faces) >>= face_of_parts vertices i

-- the faces of a file with so many vertices
unfoldable pub faces_in : ℕ → Data → Result (List Face) FoldError
faces_in vertices d = do
  list ← list_at Faces MOST_PANELS d
  fine ← refuse_if (nat_eq (length list) 0) (BadShape Faces)
  entries_from (face_of vertices) 0 list
