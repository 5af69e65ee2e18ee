-- Named files in memory, and what the shelves and sinks over memory show.
use Rattle.std.specs.Prelude.{◌≡◌, ◌⊎◌, ℕ, Contains, List, [], ◌∷◌, Option, Some, None, string_bytes}
use Rattle.std.specs.Prelude.{if◌then◌else◌}
use Rattle.std.specs.Str.{bytes_eq}
use Rattle.carton_io.specs.declared.memory_shelf.NamedFile.{NamedFile}

-- the bytes of the first file of that name
abbrev pub content_of : List NamedFile → List ℕ → Option (List ℕ)
content_of [] name = None
content_of (f ∷ fs) name = if bytes_eq (string_bytes f.name) name then Some f.bytes.items else content_of fs
    name

-- files, the numbers of the reads that fail, the number of the next read, the faults so far, the name that
-- failed last, and the bytes of the last read
pub record ShelfView : Type 0 where
  pub files : List NamedFile
  pub failing : List ℕ
  pub reads : ℕ
  pub faults : ℕ
  pub last : Option (List ℕ)
  pub had : ℕ

pub record SteadyView : Type 0 where
  pub files : List NamedFile
  pub had : ℕ

-- what is kept, the most that may be kept, and the faults so far
pub record SinkView : Type 0 where
  pub kept : List ℕ
  pub limit : ℕ
  pub faults : ℕ

-- the next read fails: its number is in the list, or no file has the name
abbrev pub IsDue : ShelfView → List ℕ → Type 0
IsDue s name = Contains s.failing s.reads ⊎ (content_of s.files name ≡ None)
