-- What the rules ask of a JSON value.
use Rattle.std.specs.Prelude.{ℕ, ℤ, List, [], ◌∷◌, length, nat_lt, Bool, if◌then◌else◌, Option, None}
use Rattle.std.specs.Prelude.{option_map, option_and_then, is_some, Result, Ok, codes, ok_or}
use Rattle.std.specs.Str.{is_utf8}
use Rattle.serde_json.specs.Data.{Data, Items, no_items, item}
use Rattle.serde_json.specs.Find.{get, as_array, as_number, as_integer}
use Rattle.serde_json.specs.Read.{read}
use Rattle.carton_fold.specs.declared.error.Key.{Key}
use Rattle.carton_fold.specs.declared.error.Key.TheVariants.{Vertices, Edges, Assignment, Faces}
use Rattle.carton_fold.specs.declared.error.FoldError.{FoldError}
use Rattle.carton_fold.specs.declared.error.FoldError.TheVariants.{NotJson, Missing, BadShape, TooMany}
use Rattle.carton_base.specs.Steps.{◌>>=◌, refuse_if}

-- the JSON value of bytes that are UTF-8
unfoldable pub value_in : List ℕ → Result Data FoldError
value_in bytes = ok_or (if is_utf8 bytes then read bytes else None) NotJson

-- the items as a list
abbrev pub elements : Items → List Data
elements no_items = []
elements (item d ds) = d ∷ elements ds

-- the entries of a list
abbrev pub list_in : Data → Option (List Data)
list_in d = option_map elements (as_array d)

abbrev pub is_number : Data → Bool
is_number d = is_some (as_number d)

-- a whole number as it is written: without fraction or exponent, not -0, and within 64 bits
abbrev pub whole : Data → Option ℤ
whole d = option_and_then as_integer (as_number d)

-- the key's name in a file
abbrev pub name_of : Key → List ℕ
name_of Vertices = codes "vertices_coords"
name_of Edges = codes "edges_vertices"
name_of Assignment = codes "edges_assignment"
name_of Faces = codes "faces_vertices"

-- the value of a key that a file must have
abbrev pub needed : Key → Data → Result Data FoldError
needed key d = ok_or (get (name_of key) d) (Missing key)

-- the entries of a key's list, of which there are at most so many
unfoldable pub list_at : Key → ℕ → Data → Result (List Data) FoldError
list_at key most d = do
  list ← ok_or (list_in d) (BadShape key)
  fine ← refuse_if (nat_lt most (length list)) (TooMany key)
  Ok list
