-- A strict text tells something exactly where it is spelled in the lines that tell it.
use Rattle.std.proofs.Common.{◌≡◌, ℕ, Bool, true, false, cond, List, [], ◌∷◌, ◌++◌, map, Option, Some, None}
use Rattle.std.proofs.Common.{Result, Ok, Err, refl, sym, ap, ◌∙◌, subst, append_assoc, codes}
use Rattle.std.specs.List.{AllByRecursion, concat, flat_map}
use Rattle.std.proofs.lemmas.List.{append-nil}
use Rattle.std.proofs.lemmas.Slice.Eq.{bytes_eq-Decides}
use Rattle.bstr.specs.Text.{lines_of}
use Rattle.bstr.proofs.lemmas.LineLemmas.{lines-nil}
use Rattle.bstr.proofs.lemmas.RestLemmas.{concat-lines_of}
use Rattle.carton_base.specs.Steps.{◌>>=◌}
use Rattle.carton_base.proofs.Steps.{both, same_ok}
use Rattle.carton_lines.specs.declared.fault.Fault.{Fault}
use Rattle.carton_lines.specs.declared.fault.Fault.TheVariants.{BadLine}
use Rattle.carton_lines.specs.declared.fault.LineError.{LineError}
use Rattle.carton_lines.specs.declared.way.Way.TheVariants.{Strict}
use Rattle.carton_lines.specs.declared.reading.Reading.{Reading}
use Rattle.carton_lines.specs.declared.reading.Reading.TheVariants.{Before, Within, Ended}
use Rattle.carton_lines.specs.Lines.{next_number, told_at}
use Rattle.carton_lines.specs.StrictLines.{whole}
use Rattle.carton_lines.specs.Grammars.{Grammar}
use Rattle.carton_lines.specs.Readings.{is_end, line_step, step, read_lines, finished, strictly_read}
use Rattle.carton_lines.specs.Spellings.{fed, take_all, IsSpelled, HasOneSpelling}
use Rattle.carton_lines.proofs.SpelledLines.{Lacks, lacks, whole_line, line_of_whole, first_line_off}

-- a line between the first and the end
abbrev pub IsBetween : List ℕ → Type 0
IsBetween line = is_end line ≡ false

-- lines without a line feed are the lines of their text
pub lines_of_fed : (lines : List (List ℕ)) → AllByRecursion (Lacks 10) lines
    → lines_of (concat (map fed lines)) ≡ map fed lines
lines_of_fed [] h = lines-nil
lines_of_fed (line ∷ lines) h =
    first_line_off line (concat (map fed lines)) h.0
    ∙ ap (λ (ls : List (List ℕ)). fed line ∷ ls) (lines_of_fed lines h.1)

-- the text of lines and one more
pub text_more : (lines : List (List ℕ)) (line : List ℕ)
    → concat (map fed (lines ++ line ∷ [])) ≡ concat (map fed lines) ++ fed line
text_more [] line = append-nil (fed line)
text_more (l ∷ lines) line =
    ap (λ (bs : List ℕ). fed l ++ bs) (text_more lines line)
    ∙ sym (append_assoc (fed l) (concat (map fed lines)) (fed line))

-- a line without a line feed that isn't the end
abbrev pub IsInner : List ℕ → Type 0
IsInner line = Lacks 10 line × IsBetween line

-- such a line for each of some things
pub inner_lines : {X : Type 0} (line_of : X → List ℕ) (P : X → Type 0)
    → ((x : X) → P x → IsInner (line_of x)) → (xs : List X) → AllByRecursion P xs
    → AllByRecursion IsInner (map line_of xs)
inner_lines line_of P fine [] h = tt
inner_lines line_of P fine (x ∷ xs) h = (fine x h.0, inner_lines line_of P fine xs h.1)

each_line : {X : Type 0} (line_of : X → List ℕ) (xs : List X)
    → concat (map fed (map line_of xs)) ≡ flat_map (λ x. fed (line_of x)) xs
each_line line_of [] = refl
each_line line_of (x ∷ xs) = ap (λ (bs : List ℕ). fed (line_of x) ++ bs) (each_line line_of xs)

-- the text of two lines, one for each of some things, and the end
pub text_of_each : {X : Type 0} (first second : List ℕ) (line_of : X → List ℕ) (xs : List X)
    → fed first ++ (fed second ++ (flat_map (λ x. fed (line_of x)) xs ++ codes "end\n"))
    ≡ concat (map fed (first ∷ second ∷ map line_of xs)) ++ codes "end\n"
text_of_each first second line_of xs =
    let rest = concat (map fed (map line_of xs)) in
    ap (λ (bs : List ℕ). fed first ++ (fed second ++ (bs ++ codes "end\n"))) (sym (each_line line_of xs))
    ∙ ap (λ (bs : List ℕ). fed first ++ bs) (sym (append_assoc (fed second) rest (codes "end\n")))
    ∙ sym (append_assoc (fed first) (fed second ++ rest) (codes "end\n"))

module _ {D : Type 0} (g : Grammar D) where
  abbrev rest_read : Reading D → ℕ → List (List ℕ) → Result D LineError
  rest_read r n pieces = read_lines (step g Strict) r n pieces >>= finished

  -- what a step made of line n, and then what the lines after it made of that
  abbrev stepped : ℕ → List (List ℕ) → Result (Reading D) LineError → Result D LineError
  stepped n rest r = r >>= (λ s. read_lines (step g Strict) s n rest) >>= finished

  -- the same where line n has its fault alone
  abbrev on : ℕ → List (List ℕ) → Result (Reading D) Fault → Result D LineError
  on n rest r = stepped n rest (told_at n r)

  -- the lines after line n up to the end
  record IsRest (d e : D) (n : ℕ) (pieces : List (List ℕ)) : Type 0 where
    between : List (List ℕ)
    lines : pieces ≡ map fed (between ++ codes "end" ∷ [])
    none_ends : AllByRecursion IsBetween between
    told : take_all g d n between ≡ Ok e
    ends : g.may_end e ≡ true

  -- nothing follows the end
  ended_read : (d e : D) (n : ℕ) (pieces : List (List ℕ)) → rest_read (Ended d) n pieces ≡ Ok e
      → (pieces ≡ []) × (d ≡ e)
  unfolding read_lines
  ended_read d e n [] h = (refl, same_ok d e _ refl h)
  ended_read d e n (piece ∷ rest) h = by_line (whole piece) h
    where
      by_line : (o : Option (List ℕ))
          → stepped (next_number n) rest (line_step g Strict (Ended d) (next_number n) o) ≡ Ok e
          → (piece ∷ rest ≡ []) × (d ≡ e)
      by_line None k = cc
      by_line (Some line) k = cc

  end_rest : (d e : D) (n : ℕ) (piece line : List ℕ) (rest : List (List ℕ)) → whole piece ≡ Some line
      → is_end line ≡ true → g.may_end d ≡ true → (rest ≡ []) × (d ≡ e) → IsRest d e n (piece ∷ rest)
  unfolding take_all
  end_rest d e n piece line rest w t may last =
      let is : piece ≡ fed (codes "end") =
      line_of_whole piece line w ∙ ap fed ((bytes_eq-Decides line (codes "end")).0 t) in
      record {
        between = [];
        lines = λ i. is i ∷ last.0 i;
        none_ends = tt;
        told = ap (λ (x : D). Ok x) last.1;
        ends = subst (λ x. g.may_end x ≡ true) last.1 may;
      }

  more_rest : (d f e : D) (n : ℕ) (piece line : List ℕ) (rest : List (List ℕ)) → whole piece ≡ Some line
      → is_end line ≡ false → g.take d (next_number n) line ≡ Ok f → IsRest f e (next_number n) rest
      → IsRest d e n (piece ∷ rest)
  unfolding take_all
  more_rest d f e n piece line rest w t taken r = record {
    between = line ∷ r.between;
    lines = λ i. line_of_whole piece line w i ∷ r.lines i;
    none_ends = (t, r.none_ends);
    told = rw taken r.told;
    ends = r.ends;
  }

  within_read : (d e : D) (n : ℕ) (pieces : List (List ℕ)) → rest_read (Within d) n pieces ≡ Ok e
      → IsRest d e n pieces
  unfolding read_lines
  within_read d e n [] h = cc
  within_read d e n (piece ∷ rest) h =
      by_line (whole piece) refl h (λ f k. within_read f e (next_number n) rest k)
    where
      by_may : (line : List ℕ) (b : Bool) → whole piece ≡ Some line → is_end line ≡ true → g.may_end d ≡ b
          → on (next_number n) rest (cond b (Ok (Ended d)) (Err BadLine)) ≡ Ok e
          → IsRest d e n (piece ∷ rest)
      by_may line true w t may k =
          end_rest d e n piece line rest w t may (ended_read d e (next_number n) rest k)
      by_may line false w t may k = cc

      by_taken : (line : List ℕ) (r : Result D Fault) → whole piece ≡ Some line → is_end line ≡ false
          → g.take d (next_number n) line ≡ r → on (next_number n) rest (r >>= λ f. Ok (Within f)) ≡ Ok e
          → ((f : D) → rest_read (Within f) (next_number n) rest ≡ Ok e → IsRest f e (next_number n) rest)
          → IsRest d e n (piece ∷ rest)
      by_taken line (Ok f) w t taken k later = more_rest d f e n piece line rest w t taken (later f k)
      by_taken line (Err fault) w t taken k later = cc

      by_end : (line : List ℕ) (b : Bool) → whole piece ≡ Some line → is_end line ≡ b
          → on (next_number n) rest (cond b (cond (g.may_end d) (Ok (Ended d)) (Err BadLine))
          (g.take d (next_number n) line >>= λ f. Ok (Within f))) ≡ Ok e
          → ((f : D) → rest_read (Within f) (next_number n) rest ≡ Ok e → IsRest f e (next_number n) rest)
          → IsRest d e n (piece ∷ rest)
      by_end line true w t k later = by_may line (g.may_end d) w t refl k
      by_end line false w t k later = by_taken line (g.take d (next_number n) line) w t refl k later

      by_line : (o : Option (List ℕ)) → whole piece ≡ o
          → stepped (next_number n) rest (line_step g Strict (Within d) (next_number n) o) ≡ Ok e
          → ((f : D) → rest_read (Within f) (next_number n) rest ≡ Ok e → IsRest f e (next_number n) rest)
          → IsRest d e n (piece ∷ rest)
      by_line None w k later = cc
      by_line (Some line) w k later = by_end line (is_end line) w refl k later

  -- all lines of a text that was read
  text_read : (e : D) (bytes : List ℕ) (pieces : List (List ℕ)) → lines_of bytes ≡ pieces
      → rest_read Before 0 pieces ≡ Ok e → IsSpelled g bytes e
  unfolding read_lines
  text_read e bytes [] q h = cc
  text_read e bytes (piece ∷ rest) q h = by_line (whole piece) refl h
    where
      spelled : (line : List ℕ) (d : D) → whole piece ≡ Some line → g.begin line ≡ Ok d
          → IsRest d e (next_number 0) rest → IsSpelled g bytes e
      spelled line d w begun r = record {
        first = line;
        between = r.between;
        begun = d;
        lines = q ∙ (λ i. line_of_whole piece line w i ∷ r.lines i);
        begins = begun;
        none_ends = r.none_ends;
        told = r.told;
        ends = r.ends;
      }

      by_begun : (line : List ℕ) (r : Result D Fault) → whole piece ≡ Some line → g.begin line ≡ r
          → on (next_number 0) rest (r >>= λ d. Ok (Within d)) ≡ Ok e → IsSpelled g bytes e
      by_begun line (Ok d) w begun k = spelled line d w begun (within_read d e (next_number 0) rest k)
      by_begun line (Err fault) w begun k = cc

      by_line : (o : Option (List ℕ)) → whole piece ≡ o
          → stepped (next_number 0) rest (line_step g Strict Before (next_number 0) o) ≡ Ok e
          → IsSpelled g bytes e
      by_line None w k = cc
      by_line (Some line) w k = by_begun line (g.begin line) w refl k

  -- the lines up to the end tell what they add
  rest_told : (d e : D) (n : ℕ) (between : List (List ℕ)) → AllByRecursion IsBetween between
      → take_all g d n between ≡ Ok e → g.may_end e ≡ true
      → rest_read (Within d) n (map fed (between ++ codes "end" ∷ [])) ≡ Ok e
  unfolding read_lines take_all
  rest_told d e n [] none told may =
      let same : d ≡ e = same_ok d e _ refl told in
      let may_here : g.may_end d ≡ true = subst (λ x. g.may_end x ≡ true) (sym same) may in
      rw may_here (ap (λ (x : D). Ok x) same)
  rest_told d e n (line ∷ between) none told may =
      let f = both (g.take d (next_number n) line) _ e told in
      let more = rest_told f.0 e (next_number n) between none.1 f.2 may in
      rw (whole_line line, none.0, f.1) more

  spelled_told : (d : D) (bytes : List ℕ) → IsSpelled g bytes d → strictly_read g bytes ≡ Ok d
  unfolding read_lines strictly_read
  spelled_told d bytes s =
      let rest = rest_told s.begun d (next_number 0) s.between s.none_ends s.told s.ends in
      rw (s.lines, whole_line s.first, s.begins) rest

  pub one_spelling : (bytes : List ℕ) → HasOneSpelling g bytes
  unfolding strictly_read
  one_spelling bytes = λ d. (text_read d bytes (lines_of bytes) refl, spelled_told d bytes)

  -- the next line is taken, and then those after it
  pub one_taken : (d e : D) (n : ℕ) (line : List ℕ) (lines : List (List ℕ))
      → g.take d (next_number n) line ≡ Ok e
      → take_all g d n (line ∷ lines) ≡ take_all g e (next_number n) lines
  unfolding take_all
  one_taken d e n line lines h = rw h refl

  -- lines without a line feed, and the end, are read as what they tell
  pub spelled_read : (first : List ℕ) (between : List (List ℕ)) (d e : D) → Lacks 10 first
      → AllByRecursion IsInner between
      → g.begin first ≡ Ok d → take_all g d (next_number 0) between ≡ Ok e → g.may_end e ≡ true
      → strictly_read g (concat (map fed (first ∷ between)) ++ codes "end\n") ≡ Ok e
  spelled_read first between d e fine are begins told may =
      let all = first ∷ between ++ codes "end" ∷ [] in
      let lines : lines_of (concat (map fed (first ∷ between)) ++ codes "end\n") ≡ map fed all =
      ap lines_of (sym (text_more (first ∷ between) (codes "end")))
      ∙ lines_of_fed all (fine, all_lack between are) in
      spelled_told e _ (record {
        first = first;
        between = between;
        begun = d;
        lines = lines;
        begins = begins;
        none_ends = none between are;
        told = told;
        ends = may;
      })
    where
      all_lack : (ls : List (List ℕ)) → AllByRecursion IsInner ls
          → AllByRecursion (Lacks 10) (ls ++ codes "end" ∷ [])
      all_lack [] h = (lacks 10 (codes "end") refl, tt)
      all_lack (l ∷ ls) h = (h.0.0, all_lack ls h.1)

      none : (ls : List (List ℕ)) → AllByRecursion IsInner ls → AllByRecursion IsBetween ls
      none [] h = tt
      none (l ∷ ls) h = (h.0.1, none ls h.1)

-- what the text so far and what it told have in common, if each line keeps it
module _ {D : Type 0} (g : Grammar D) (P : D → List ℕ → Type 0)
    (first : (line : List ℕ) (d : D) → g.begin line ≡ Ok d → P d (fed line))
    (later : (d e : D) (n : ℕ) (line bytes : List ℕ)
    → P d bytes → g.take d n line ≡ Ok e → P e (bytes ++ fed line)) where
  lines_kept : (d e : D) (n : ℕ) (bytes : List ℕ) (lines : List (List ℕ)) → P d bytes
      → take_all g d n lines ≡ Ok e → P e (bytes ++ concat (map fed lines))
  unfolding take_all
  lines_kept d e n bytes [] p h =
      let same : d ≡ e = same_ok d e _ refl h in
      subst (P e) (sym (append-nil bytes)) (subst (λ x. P x bytes) same p)
  lines_kept d e n bytes (line ∷ lines) p h =
      let f = both (g.take d (next_number n) line) _ e h in
      let one = later d f.0 (next_number n) line bytes p f.1 in
      subst (P e) (append_assoc bytes (fed line) (concat (map fed lines)))
      (lines_kept f.0 e (next_number n) (bytes ++ fed line) lines one f.2)

  -- a text that was read: what told it, and the end
  pub record IsText (bytes : List ℕ) (d : D) : Type 0 where
    pub before : List ℕ
    pub told : P d before
    pub ends : g.may_end d ≡ true
    pub text : bytes ≡ before ++ codes "end\n"

  pub strictly_kept : (bytes : List ℕ) (d : D) → strictly_read g bytes ≡ Ok d → IsText bytes d
  strictly_kept bytes d h =
      let s = (one_spelling g bytes d).0 h in
      let lines = s.first ∷ s.between in
      let begun = first s.first s.begun s.begins in
      record {
        before = concat (map fed lines);
        told = lines_kept s.begun d (next_number 0) (fed s.first) s.between begun s.told;
        ends = s.ends;
        text = sym (concat-lines_of bytes) ∙ ap concat s.lines ∙ text_more lines (codes "end");
      }
