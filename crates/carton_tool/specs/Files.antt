-- The files that a command names, and what was read of them.
use Rattle.std.specs.Prelude.{◌≡◌, ◌⊎◌, ⊤, ℕ, ◌<◌, ◌≤◌, nat_lt, List, [], ◌∷◌, length, Option, Some, None}
use Rattle.std.specs.Prelude.{IfSome, MatchOption, if◌then◌else◌}
use Rattle.carton_words.specs.Kinds.{Named, most_bytes}
use Rattle.carton_words.specs.declared.kinds.FileKind.{FileKind}

-- each file has the told bytes of its name, where they are told
abbrev pub AreTold : (List ℕ → Option (List ℕ)) → List Named → List (List ℕ) → Type 0
AreTold holds [] [] = ⊤
AreTold holds [] (file ∷ files) = ⊥
AreTold holds (f ∷ named) [] = ⊥
AreTold holds (f ∷ named) (file ∷ files) = IfSome (holds f.name) (λ bytes. file ≡ bytes)
    × AreTold holds named files

-- the kind of the first file that has more bytes than its kind may have
abbrev pub first_long : List Named → List (List ℕ) → Option FileKind
first_long [] files = None
first_long (f ∷ named) [] = None
first_long (f ∷ named) (file ∷ files) = if nat_lt (most_bytes f.kind) (length file) then Some f.kind else
    first_long named files

-- so many bytes has the last file, if there is one
abbrev pub IsLengthOfLast : ℕ → List (List ℕ) → Type 0
IsLengthOfLast n [] = ⊤
IsLengthOfLast n (file ∷ []) = n ≡ length file
IsLengthOfLast n (file ∷ more ∷ files) = IsLengthOfLast n (more ∷ files)

-- the last read had these bytes: too many where a file is too long, and else those of the last file
abbrev pub IsAsHad : ℕ → List Named → List (List ℕ) → Type 0
IsAsHad had named files =
    MatchOption (first_long named files) (IsLengthOfLast had files) (λ kind. most_bytes kind < had)

-- one of the files has this name, and none before it is told to be too long
abbrev pub Reaches : (List ℕ → Option (List ℕ)) → List Named → List ℕ → Type 0
Reaches holds [] name = ⊥
Reaches holds (f ∷ named) name =
    (f.name ≡ name) ⊎ (IfSome (holds f.name) (λ bytes. length bytes ≤ most_bytes f.kind)
    × Reaches holds named name)

-- a read has failed, at the name of one of these files
abbrev pub IsReached : (List ℕ → Option (List ℕ)) → List Named → Option (List ℕ) → Type 0
IsReached holds named None = ⊥
IsReached holds named (Some name) = Reaches holds named name
