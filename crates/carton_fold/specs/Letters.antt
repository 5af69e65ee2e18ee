-- The rules of edges_assignment.
use Rattle.std.specs.Prelude.{ℕ, List, length, nat_eq, not, bytes_eq, replicate, if◌then◌else◌, Option, Some}
use Rattle.std.specs.Prelude.{None, Result, Ok, Err, codes, ok_or}
use Rattle.serde_json.specs.Data.{Data}
use Rattle.serde_json.specs.Find.{as_str}
use Rattle.carton_base.specs.declared.dieline.Letter.{Letter}
use Rattle.carton_base.specs.declared.dieline.Letter.TheVariants.{Boundary, Mountain, Valley, Flat}
use Rattle.carton_base.specs.declared.dieline.Letter.TheVariants.{Unassigned, Cut}
use Rattle.carton_base.specs.declared.limits.TheConstants.{MOST_EDGES}
use Rattle.carton_fold.specs.declared.error.Key.TheVariants.{Assignment}
use Rattle.carton_fold.specs.declared.error.FoldError.{FoldError}
use Rattle.carton_fold.specs.declared.error.FoldError.TheVariants.{BadShape, BadLetter, JoinEdge}
use Rattle.carton_base.specs.Steps.{◌>>=◌, refuse_if, entries_from}
use Rattle.carton_fold.specs.Values.{list_at}

-- the letter of edge i by its text
unfoldable pub letter_of_text : ℕ → List ℕ → Result Letter FoldError
letter_of_text i text =
    if bytes_eq text (codes "B") then Ok Boundary else (
    if bytes_eq text (codes "M") then Ok Mountain else (
    if bytes_eq text (codes "V") then Ok Valley else (
    if bytes_eq text (codes "F") then Ok Flat else (
    if bytes_eq text (codes "U") then Ok Unassigned else (
    if bytes_eq text (codes "C") then Ok Cut else (
    if bytes_eq text (codes "J") then Err (JoinEdge i) else Err (BadLetter i)))))))

-- the letter of edge i
abbrev pub letter_of : ℕ → Data → Result Letter FoldError
letter_of i d = ok_or (as_str d) (BadShape Assignment) >>= letter_of_text i

-- the letters of a list that a file with so many edges has
unfoldable pub letters_told : ℕ → Data → Result (List Letter) FoldError
letters_told edges d = do
  list ← list_at Assignment MOST_EDGES d
  fine ← refuse_if (not (nat_eq (length list) edges)) (BadShape Assignment)
  entries_from letter_of 0 list

-- the letters of a file with so many edges, which may tell none
abbrev pub letters_in : ℕ → Option Data → Result (List Letter) FoldError
letters_in edges None = Ok (replicate edges Unassigned)
letters_in edges (Some d) = letters_told edges d
