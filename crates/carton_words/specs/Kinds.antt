-- The kinds of files, and a file that a command names.
use Rattle.std.specs.Prelude.{ℕ, List, codes}
use Rattle.carton_base.specs.declared.limits.TheConstants.{MOST_BYTES}
use Rattle.carton_words.specs.declared.kinds.FileKind.{FileKind}
use Rattle.carton_words.specs.declared.kinds.FileKind.TheVariants.{Dieline, Job, Plan, Catalogue, Fixture}

-- a file that a command names
pub record Named : Type 0 where
  pub kind : FileKind
  pub name : List ℕ

-- the kind of a file, as it is printed
abbrev pub kind_text : FileKind → List ℕ
kind_text Dieline = codes "dieline"
kind_text Job = codes "job"
kind_text Plan = codes "plan"
kind_text Catalogue = codes "catalogue"
kind_text Fixture = codes "fixture"

-- the most bytes that a file of a kind may have
abbrev pub most_bytes : FileKind → ℕ
most_bytes Dieline = MOST_BYTES
most_bytes Job = MOST_BYTES
most_bytes Plan = MOST_BYTES
most_bytes Catalogue = MOST_BYTES
most_bytes Fixture = MOST_BYTES
