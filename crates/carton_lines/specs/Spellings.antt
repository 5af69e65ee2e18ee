-- The lines of which a strict text that tells something is made.
use Rattle.std.specs.Prelude.{◌≡◌, ◌↔◌, ℕ, ◌++◌, List, [], ◌∷◌, map, true, false, Result, Ok, codes}
use Rattle.std.specs.List.{AllByRecursion}
use Rattle.bstr.specs.Text.{lines_of}
use Rattle.carton_base.specs.Steps.{◌>>=◌}
use Rattle.carton_lines.specs.declared.fault.Fault.{Fault}
use Rattle.carton_lines.specs.Lines.{next_number}
use Rattle.carton_lines.specs.Grammars.{Grammar}
use Rattle.carton_lines.specs.Readings.{is_end, strictly_read}

-- a line with its line feed
abbrev pub fed : List ℕ → List ℕ
fed line = line ++ codes "\n"

-- what the lines after line n, by themselves, add to what the earlier ones told
unfoldable pub take_all : {D : Type 0} → Grammar D → D → ℕ → List (List ℕ) → Result D Fault
take_all g d n [] = Ok d
take_all g d n (line ∷ lines) = g.take d (next_number n) line >>= λ e. take_all g e (next_number n) lines

-- the bytes are a first line, lines after it and `end`, each with its line feed, and these lines tell d
pub record IsSpelled {D : Type 0} (g : Grammar D) (bytes : List ℕ) (d : D) : Type 0 where
  pub first : List ℕ
  pub between : List (List ℕ)
  pub begun : D
  pub lines : lines_of bytes ≡ map fed (first ∷ between ++ codes "end" ∷ [])
  pub begins : g.begin first ≡ Ok begun
  pub none_ends : AllByRecursion (λ line. is_end line ≡ false) between
  pub told : take_all g begun (next_number 0) between ≡ Ok d
  pub ends : g.may_end d ≡ true

-- a strict text tells d exactly where it is spelled so
abbrev pub HasOneSpelling : {D : Type 0} → Grammar D → List ℕ → Type 0
HasOneSpelling {D} g bytes = (d : D) → (strictly_read g bytes ≡ Ok d) ↔ IsSpelled g bytes d
