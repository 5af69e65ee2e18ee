-- The rules of vertices_coords.
use Rattle.std.specs.Prelude.{ℕ, ℤ, pos, unsigned_abs, List, [], ◌∷◌, nat_lt, Bool, not, ◌&&◌, ◌||◌}
use Rattle.std.specs.Prelude.{if◌then◌else◌, Result, Ok, Err, ok_or}
use Rattle.std.specs.Ordering.{int_eq}
use Rattle.serde_json.specs.Data.{Data}
use Rattle.carton_base.specs.declared.dieline.Point.{Point}
use Rattle.carton_base.specs.declared.limits.TheConstants.{MOST_VERTICES, FARTHEST}
use Rattle.carton_fold.specs.declared.error.Key.TheVariants.{Vertices}
use Rattle.carton_fold.specs.declared.error.FoldError.{FoldError}
use Rattle.carton_fold.specs.declared.error.FoldError.TheVariants.{BadShape, NotWhole, TooFar, NotFlat}
use Rattle.carton_base.specs.Steps.{◌>>=◌, refuse_if, entries_from}
use Rattle.carton_fold.specs.Values.{list_in, is_number, whole, list_at}

-- outside -8191..8191
abbrev pub is_far : ℤ → Bool
is_far z = nat_lt FARTHEST (unsigned_abs z)

-- vertex i at its two coordinates
abbrev pub vertex_at : ℕ → ℤ → ℤ → Result Point FoldError
vertex_at i x y = if is_far x || is_far y then Err (TooFar i) else Ok (record { x = x; y = y })

-- vertex i of two numbers
unfoldable pub point_in_plane : ℕ → Data → Data → Result Point FoldError
point_in_plane i a b = do
  fine ← refuse_if (not (is_number a && is_number b)) (BadShape Vertices)
  x ← ok_or (whole a) (NotWhole Vertices i)
  y ← ok_or (whole b) (NotWhole Vertices i)
  vertex_at i x y

-- vertex i of three numbers, the last of which must be 0
unfoldable pub point_in_space : ℕ → Data → Data → Data → Result Point FoldError
point_in_space i a b c = do
  fine ← refuse_if (not (is_number a && is_number b && is_number c)) (BadShape Vertices)
  x ← ok_or (whole a) (NotWhole Vertices i)
  y ← ok_or (whole b) (NotWhole Vertices i)
  z ← ok_or (whole c) (NotWhole Vertices i)
  point ← vertex_at i x y
  if int_eq z (pos 0) then Ok point else Err (NotFlat i)

-- vertex i of its numbers
abbrev pub point_of_parts : ℕ → List Data → Result Point FoldError
point_of_parts i (a ∷ b ∷ []) = point_in_plane i a b
point_of_parts i (a ∷ b ∷ c ∷ []) = point_in_space i a b c
point_of_parts i _ = Err (BadShape Vertices)

-- vertex i
abbrev pub point_of : ℕ → Data → Result Point FoldError
point_of i d = ok_or (list_in d) (BadShape Vertices) >>= point_of_parts i

-- the vertices of a file
abbrev pub vertices_in : Data → Result (List Point) FoldError
vertices_in d = list_at Vertices MOST_VERTICES d >>= entries_from point_of 0
