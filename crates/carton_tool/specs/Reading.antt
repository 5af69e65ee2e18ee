-- What came of reading the files of a command.
use Rattle.std.specs.Prelude.{◌≡◌, ⊤, ℕ, List, Option, Some, None}
use Rattle.carton_tool.specs.Files.{AreTold, IsAsHad, first_long}
use Rattle.carton_words.specs.Kinds.{Named}
use Rattle.carton_words.specs.declared.kinds.FileKind.{FileKind}
use Rattle.carton_tool.specs.declared.files.Unread.{Unread}
use Rattle.carton_tool.specs.declared.files.Unread.TheVariants.{TooLong, Failed, NoMemory}

-- these may be all the files: they have the told bytes, and of these the first that is too long has this kind
pub record AreRead (holds : List ℕ → Option (List ℕ)) (had : ℕ) (named : List Named) (first : Option FileKind)
    (files : List (List ℕ)) : Type 0 where
  pub told : AreTold holds named files
  pub long : IsAsHad had named files
  pub first_is : first_long named files ≡ first

-- all files were read, and none is too long
abbrev pub AreAllRead : (List ℕ → Option (List ℕ)) → ℕ → List Named → List (List ℕ) → Type 0
AreAllRead holds had named files = AreRead holds had named None files

-- not all were read: the first that is too long has the kind that is told, or nothing is told of the files
abbrev pub IsUnread : (List ℕ → Option (List ℕ)) → ℕ → List Named → Unread → Type 0
IsUnread holds had named (TooLong kind) = (files : List (List ℕ)) × AreRead holds had named (Some kind) files
IsUnread holds had named Failed = ⊤
IsUnread holds had named NoMemory = ⊤
