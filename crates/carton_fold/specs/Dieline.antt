-- The dieline of a FOLD file, or the first rule that fails.
use Rattle.std.specs.Prelude.{ℕ, List, length, Result, Ok, codes, ok_or}
use Rattle.serde_json.specs.Data.{Data}
use Rattle.serde_json.specs.Find.{get, as_object}
use Rattle.carton_base.specs.declared.dieline.RawDieline.{RawDieline}
use Rattle.carton_fold.specs.declared.error.Key.TheVariants.{Vertices, Edges, Assignment, Faces}
use Rattle.carton_fold.specs.declared.error.FoldError.{FoldError}
use Rattle.carton_fold.specs.declared.error.FoldError.TheVariants.{NotObject}
use Rattle.carton_base.specs.Steps.{◌>>=◌}
use Rattle.carton_fold.specs.Values.{value_in, needed, name_of}
use Rattle.carton_fold.specs.Vertices.{vertices_in}
use Rattle.carton_fold.specs.Edges.{edges_in}
use Rattle.carton_fold.specs.Letters.{letters_in}
use Rattle.carton_fold.specs.Faces.{faces_in}
use Rattle.carton_fold.specs.Angles.{angles_in}

-- the dieline of a JSON value
unfoldable pub dieline_in : Data → Result RawDieline FoldError
dieline_in d = do
  members ← ok_or (as_object d) NotObject
  vertices_value ← needed Vertices d
  edges_value ← needed Edges d
  faces_value ← needed Faces d
  vertices ← vertices_in vertices_value
  edges ← edges_in (length vertices) edges_value
  letters ← letters_in (length edges) (get (name_of Assignment) d)
  faces ← faces_in (length vertices) faces_value
  Ok (record {
    vertices = vertices;
    edges = edges;
    letters = letters;
    faces = faces;
    angles = angles_in (length edges) (get (codes "edges_foldAngle") d);
  })

-- the dieline of the bytes of a file
unfoldable pub dieline_of : List ℕ → Result RawDieline FoldError
dieline_of bytes = value_in bytes >>= dieline_in
