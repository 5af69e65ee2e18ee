-- The rules of edges_vertices.
use Rattle.std.specs.Prelude.{ℕ, ℤ, pos, negsuc, List, [], ◌∷◌, nat_lt, nat_eq, not, ◌&&◌, if◌then◌else◌}
use Rattle.std.specs.Prelude.{Option, Some, None, Result, Ok, Err, ok_or}
use Rattle.serde_json.specs.Data.{Data}
use Rattle.carton_base.specs.declared.dieline.Ends.{Ends}
use Rattle.carton_base.specs.declared.limits.TheConstants.{MOST_EDGES}
use Rattle.carton_fold.specs.declared.error.Key.TheVariants.{Edges}
use Rattle.carton_fold.specs.declared.error.FoldError.{FoldError}
use Rattle.carton_fold.specs.declared.error.FoldError.TheVariants.{BadShape, NotWhole, BadVertex}
use Rattle.carton_base.specs.Steps.{◌>>=◌, refuse_if, entries_from}
use Rattle.carton_fold.specs.Values.{list_in, is_number, whole, list_at}

-- the number of one of so many vertices, if it is one
abbrev pub vertex_among : ℕ → ℤ → Option ℕ
vertex_among vertices (pos n) = if nat_lt n vertices then Some n else None
vertex_among vertices (negsuc n) = None

-- edge i of two numbers: two different vertices
unfoldable pub edge_between : ℕ → ℕ → Data → Data → Result Ends FoldError
edge_between vertices i a b = do
  fine ← refuse_if (not (is_number a && is_number b)) (BadShape Edges)
  from ← ok_or (whole a) (NotWhole Edges i)
  to ← ok_or (whole b) (NotWhole Edges i)
  p ← ok_or (vertex_among vertices from) (BadVertex Edges i)
  q ← ok_or (vertex_among vertices to) (BadVertex Edges i)
  if nat_eq p q then Err (BadVertex Edges i) else Ok (record { p = p; q = q })

-- edge i of its numbers
abbrev pub edge_of_parts : ℕ → ℕ → List Data → Result Ends FoldError
edge_of_parts vertices i (a ∷ b ∷ []) = edge_between vertices i a b
edge_of_parts vertices i _ = Err (BadShape Edges)

-- edge i
abbrev pub edge_of : ℕ → ℕ → Data → Result Ends FoldError
edge_of vertices i d = ok_or (list_in d) (BadShape Edges) >>= edge_of_parts vertices i

-- the edges of a file with so many vertices
abbrev pub edges_in : ℕ → Data → Result (List Ends) FoldError
edges_in vertices d = list_at Edges MOST_EDGES d >>= entries_from (edge_of vertices) 0
