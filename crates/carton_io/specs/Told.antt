-- What a shelf and a sink tell, and when they may fail.
use Rattle.std.specs.Prelude.{ℕ, ◌+◌, ◌-◌, ◌<◌, ◌≤◌, ◌^◌, min, List, length, take, Option}
use Rattle.std.specs.Io.KnownBytes.{Appends}

-- one more; a count at the end of its type stands still
abbrev pub raised : ℕ → ℕ
raised count = min (count + 1) (2 ^ 64 - 1)

-- A count of faults rose, or stands at the end of its type.
abbrev pub Rose : ℕ → ℕ → Type 0
Rose before now = raised before ≤ now

-- what was written grew by a front of the piece, and not by all of it
abbrev pub GrewInPart : Option (List ℕ) → Option (List ℕ) → List ℕ → Type 0
GrewInPart before now piece = (k : ℕ) × (k < length piece) × Appends before now (take k piece)
