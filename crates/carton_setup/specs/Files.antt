-- The bytes of a command's files, which stand in the order of reading.
use Rattle.std.specs.Prelude.{ℕ, List, [], slice_index_or}

-- the bytes of the file at a place; none where there is no such file
abbrev pub file_at : ℕ → List (List ℕ) → List ℕ
file_at place files = slice_index_or files place []
