-- A free text in lines that are spelled tells what these lines tell.
use Rattle.std.proofs.Common.{◌≡◌, ℕ, ◌+◌, ◌-◌, ◌<◌, ◌&&◌, false, cond, eqb, ltb, List, [], ◌∷◌, ◌++◌, length}
use Rattle.std.proofs.Common.{length-append, map, take, get_or, slice_index, Result, Ok, refl, sym, ap, subst}
use Rattle.std.proofs.Common.{◌∙◌, arith, codes, true, suc, zero}
use Rattle.std.specs.List.{AllByRecursion, concat}
use Rattle.std.proofs.lemmas.Bool.{lt-ltb}
use Rattle.std.proofs.lemmas.List.Elements.{All-get_or}
use Rattle.bstr.specs.Text.{lines_of, without_terminator, no_cr}
use Rattle.carton_base.specs.Steps.{◌>>=◌}
use Rattle.carton_base.proofs.Steps.{both, same_ok}
use Rattle.carton_lines.specs.declared.reading.Reading.{Reading}
use Rattle.carton_lines.specs.declared.reading.Reading.TheVariants.{Before, Within}
use Rattle.carton_lines.specs.declared.fault.LineError.{LineError}
use Rattle.carton_lines.specs.declared.way.Way.TheVariants.{Free}
use Rattle.carton_lines.specs.Lines.{is_passed_over, next_number}
use Rattle.carton_lines.specs.Grammars.{Grammar}
use Rattle.carton_lines.specs.Readings.{is_end, step, read_lines, finished, freely_read}
use Rattle.carton_lines.specs.Spellings.{fed, take_all}
use Rattle.carton_lines.proofs.SpelledLines.{Lacks, lacks, take_left, index_left}
use Rattle.carton_lines.proofs.Spellings.{lines_of_fed, text_more}

-- a line that tells something, and ends where its line feed stands
pub record IsTelling (line : List ℕ) : Type 0 where
  pub feed : Lacks 10 line
  pub return : Lacks 13 line
  pub told : is_passed_over line ≡ false

-- and isn't the end
pub record IsFree (line : List ℕ) : Type 0 where
  pub telling : IsTelling line
  pub between : is_end line ≡ false

-- free lines, and more of them
pub both_free : (xs ys : List (List ℕ)) → AllByRecursion IsFree xs → AllByRecursion IsFree ys
    → AllByRecursion IsFree (xs ++ ys)
both_free [] ys h k = k
both_free (x ∷ xs) ys h k = (h.0, both_free xs ys h.1 k)

-- a free line for each of some things
pub each_free : {X : Type 0} (line_of : X → List ℕ) (P : X → Type 0) → ((x : X) → P x → IsFree (line_of x))
    → (xs : List X) → AllByRecursion P xs → AllByRecursion IsFree (map line_of xs)
each_free line_of P fine [] h = tt
each_free line_of P fine (x ∷ xs) h = (fine x h.0, each_free line_of P fine xs h.1)

no_return : (line : List ℕ) → Lacks 13 line → no_cr line ≡ line
no_return [] h = refl
no_return (b ∷ bs) h =
    let last = All-get_or (λ c. eqb c 13 ≡ false) (b ∷ bs) (length bs) 0 (omega arith) h in
    let less : length (b ∷ bs) - 1 ≡ length bs = omega arith in
    let some = lt-ltb 0 (length (b ∷ bs)) (omega arith) in
    rw (less, last, some) refl

-- a line without its line feed
cut_line : (line : List ℕ) → Lacks 13 line → without_terminator (fed line) ≡ line
cut_line line h =
    let size : length (fed line) ≡ length line + 1 = length-append line (codes "\n") in
    let less : length line + 1 - 1 ≡ length line = omega arith in
    let some : ltb 0 (length line + 1) ≡ true = lt-ltb 0 (length line + 1) (omega arith) in
    rw (size, less, some, index_left line [] 10, take_left line (codes "\n")) (no_return line h)

module _ {D : Type 0} (g : Grammar D) where
  abbrev rest_read : Reading D → ℕ → List (List ℕ) → Result D LineError
  rest_read r n pieces = read_lines (step g Free) r n pieces >>= finished

  rest_told : (d e : D) (n : ℕ) (between : List (List ℕ)) → AllByRecursion IsFree between
      → take_all g d n between ≡ Ok e → g.may_end e ≡ true
      → rest_read (Within d) n (map fed (between ++ codes "end" ∷ [])) ≡ Ok e
  unfolding read_lines take_all
  rest_told d e n [] free told may =
      let same : d ≡ e = same_ok d e _ refl told in
      let may_here : g.may_end d ≡ true = subst (λ x. g.may_end x ≡ true) (sym same) may in
      rw may_here (ap (λ (x : D). Ok x) same)
  rest_told d e n (line ∷ between) free told may =
      let f = both (g.take d (next_number n) line) _ e told in
      let more = rest_told f.0 e (next_number n) between free.1 f.2 may in
      let is = free.0.telling in
      rw (cut_line line is.return, is.told, free.0.between, f.1) more

  -- the text of a first line, lines after it and the end is read as what these lines tell
  pub freely_told : (first : List ℕ) (between : List (List ℕ)) (d e : D) → IsTelling first
      → AllByRecursion IsFree between → g.begin first ≡ Ok d → take_all g d (next_number 0) between ≡ Ok e
      → g.may_end e ≡ true
      → freely_read g (concat (map fed (first ∷ between)) ++ codes "end\n") ≡ Ok e
  unfolding read_lines freely_read
  freely_told first between d e is free begins told may =
      let all = first ∷ between ++ codes "end" ∷ [] in
      let lines : lines_of (concat (map fed (first ∷ between)) ++ codes "end\n") ≡ map fed all =
      ap lines_of (sym (text_more (first ∷ between) (codes "end")))
      ∙ lines_of_fed all (is.feed, all_lack between free) in
      rw (lines, cut_line first is.return, is.told, begins)
      (rest_told d e (next_number 0) between free told may)
    where
      all_lack : (ls : List (List ℕ)) → AllByRecursion IsFree ls
          → AllByRecursion (Lacks 10) (ls ++ codes "end" ∷ [])
      all_lack [] h = (lacks 10 (codes "end") refl, tt)
      all_lack (l ∷ ls) h = (h.0.telling.feed, all_lack ls h.1)
