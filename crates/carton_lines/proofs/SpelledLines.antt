-- Lines of strict texts and their spellings.
use Rattle.std.specs.Prelude.{decimal, All}
use Rattle.std.proofs.Common.{◌≡◌, ◌≢◌, ℕ, ◌+◌, ◌-◌, ◌<◌, ℤ, pos, negsuc, Bool, true, false, cond, not, eqb}
use Rattle.std.proofs.Common.{List, [], ◌∷◌, ◌++◌, length, length-append, map, take, drop, get_or}
use Rattle.std.proofs.Common.{slice_index, Some, Ok, Err, refl, sym, ap, subst, ◌∙◌, arith, append_assoc}
use Rattle.std.proofs.Common.{bytes_eq, codes, zero, suc, take-append-drop}
use Rattle.std.specs.Fmt.{signed_decimal}
use Rattle.std.specs.Char.{is_ascii_digit}
use Rattle.std.specs.List.{AllByRecursion, flat_map, list_all, join_with_byte}
use Rattle.std.proofs.lemmas.Bool.{and_parts, leb-true, eqb-false, ne_eqb, not-true}
use Rattle.std.proofs.lemmas.List.{append-nil}
use Rattle.std.proofs.lemmas.List.Elements.{All-nil, All-cons, All-append, All-get_or, All-from_recursion}
use Rattle.std.proofs.lemmas.List.Splits.{slice_split_none, slice_split_at, join_with_byte-slice_split}
use Rattle.std.proofs.lemmas.List.Sums.{AllPass-from_list_all}
use Rattle.std.proofs.lemmas.Slice.Eq.{bytes_eq-Decides}
use Rattle.std.proofs.lemmas.Fmt.{digits_decimal}
use Rattle.bstr.specs.Text.{line_len, lines_of}
use Rattle.bstr.proofs.lemmas.LineLemmas.{line_len-at, lines-step}
use Rattle.carton_base.specs.Steps.{entries_from}
use Rattle.carton_base.proofs.Steps.{both, same_ok, was_some, some_if}
use Rattle.carton_lines.specs.declared.fault.Fault.TheVariants.{BadLine}
use Rattle.carton_lines.specs.Numbers.{number, number_in, numbers_in}
use Rattle.carton_lines.specs.Lines.{words_of}
use Rattle.carton_lines.specs.StrictLines.{whole, numbers_after, spaced}
use Rattle.carton_lines.proofs.Lower.{AreDigits, own}
use Rattle.carton_lines.proofs.Numerals.{IsSmall, spelled_number, number_spelled}

pub take_left : (xs ys : List ℕ) → take (length xs) (xs ++ ys) ≡ xs
take_left [] ys = refl
take_left (x ∷ xs) ys = ap (λ (zs : List ℕ). x ∷ zs) (take_left xs ys)

drop_left : (xs ys : List ℕ) → drop (length xs) (xs ++ ys) ≡ ys
drop_left [] ys = refl
drop_left (x ∷ xs) ys = drop_left xs ys

-- a line with its line feed is whole
pub whole_line : (line : List ℕ) → whole (line ++ codes "\n") ≡ Some line
whole_line line =
    let size : length (line ++ codes "\n") - 1 ≡ length line =
    omega (arith, length-append line (codes "\n")) in
    rw (size, drop_left line (codes "\n"), take_left line (codes "\n")) refl

-- and nothing else is
pub line_of_whole : (piece line : List ℕ) → whole piece ≡ Some line → piece ≡ line ++ codes "\n"
line_of_whole piece line h =
    let n = length piece - 1 in
    let p = some_if (bytes_eq (drop n piece) (codes "\n")) (take n piece) line h in
    sym (take-append-drop n piece)
    ∙ (λ i. sym p.1 i ++ (bytes_eq-Decides (drop n piece) (codes "\n")).0 p.0 i)

-- no byte of these is c
abbrev pub Lacks : ℕ → List ℕ → Type 0
Lacks c bs = All (λ b. eqb b c ≡ false) bs

pub lacks : (c : ℕ) (bs : List ℕ) → list_all (λ b. not (eqb b c)) bs ≡ true → Lacks c bs
lacks c bs h = λ k d lt. not-true _ (AllPass-from_list_all (λ b. not (eqb b c)) bs h k d lt)

pub index_left : (xs ys : List ℕ) (y : ℕ) → slice_index (xs ++ y ∷ ys) (length xs) ≡ y
index_left [] ys y = refl
index_left (x ∷ xs) ys y = index_left xs ys y

index_within : (xs ys : List ℕ) (k : ℕ) → k < length xs → slice_index (xs ++ ys) k ≡ get_or xs k 0
index_within [] ys k lt = absurd (omega arith)
index_within (x ∷ xs) ys zero lt = refl
index_within (x ∷ xs) ys (suc k) lt = index_within xs ys k (omega arith)

-- the lines of bytes that begin with a line
pub first_line_off : (line rest : List ℕ) → Lacks 10 line → lines_of ((line ++ codes "\n") ++ rest)
    ≡ (line ++ codes "\n") ∷ lines_of rest
first_line_off line rest lacks =
    let bs = (line ++ codes "\n") ++ rest in
    let same : bs ≡ line ++ 10 ∷ rest = append_assoc line (codes "\n") rest in
    let size : length bs ≡ length line + (1 + length rest) =
    omega (arith, length-append (line ++ codes "\n") rest, length-append line (codes "\n")) in
    let at : slice_index bs (length line) ≡ 10 = ap (λ (xs : List ℕ). slice_index xs (length line)) same
    ∙ index_left line rest 10 in
    let other : (k : ℕ) → k < length line → slice_index bs k ≢ 10 =
    λ k lt e. eqb-false (get_or line k 0) 10 (All-get_or (λ b. eqb b 10 ≡ false) line k 0 lt lacks)
    (sym (index_within line (10 ∷ rest) k lt) ∙ ap (λ (xs : List ℕ). slice_index xs k) (sym same) ∙ e) in
    let long : line_len bs ≡ length (line ++ codes "\n") =
    line_len-at bs (length line) (omega (arith, size)) at other
    ∙ omega (arith, length-append line (codes "\n")) in
    lines-step bs (omega (arith, size)) ∙ (λ i. take (long i) bs ∷ lines_of (drop (long i) bs))
    ∙ (λ i. take_left (line ++ codes "\n") rest i ∷ lines_of (drop_left (line ++ codes "\n") rest i))

-- digits and a minus are no separators
digits_lack : (c : ℕ) → c < 48 → (ds : List ℕ) → AreDigits ds → AllByRecursion (λ b. eqb b c ≡ false) ds
digits_lack c low [] h = tt
digits_lack c low (d ∷ ds) h =
    let p = and_parts (is_ascii_digit d) (list_all is_ascii_digit ds) h in
    let from = leb-true 48 d (and_parts _ _ p.0).0 in
    (ne_eqb d c (λ e. omega (arith, from, e, low)), digits_lack c low ds p.1)

pub number_lacks : (c : ℕ) → c < 45 → (z : ℤ) → IsSmall z → Lacks c (signed_decimal z)
number_lacks c low (pos n) small =
    All-from_recursion (λ b. eqb b c ≡ false) (decimal n)
    (digits_lack c (omega arith) (decimal n) (digits_decimal own n (omega arith)))
number_lacks c low (negsuc n) small =
    All-cons (λ b. eqb b c ≡ false) 45 (decimal (suc n)) (ne_eqb 45 c (λ e. omega (arith, e, low)))
    (All-from_recursion (λ b. eqb b c ≡ false) (decimal (suc n))
    (digits_lack c (omega arith) (decimal (suc n)) (digits_decimal own (suc n) (omega arith))))

abbrev pub AreSmall : List ℤ → Type 0
AreSmall zs = AllByRecursion IsSmall zs

-- numbers after spaces have no line feed, and nothing else below a space
numbers_lack : (c : ℕ) → c < 32 → (zs : List ℤ) → AreSmall zs → Lacks c (flat_map spaced zs)
numbers_lack c low [] h = All-nil (λ b. eqb b c ≡ false)
numbers_lack c low (z ∷ zs) h = All-append (λ b. eqb b c ≡ false) (spaced z) (flat_map spaced zs)
    (All-cons (λ b. eqb b c ≡ false) 32 (signed_decimal z) (ne_eqb 32 c (λ e. omega (arith, e, low)))
    (number_lacks c (omega (arith, low)) z h.0))
    (numbers_lack c low zs h.1)

pub line_lacks : (c : ℕ) → c < 32 → (word : List ℕ) (zs : List ℤ) → Lacks c word → AreSmall zs
    → Lacks c (word ++ flat_map spaced zs)
line_lacks c low word zs w h =
    All-append (λ b. eqb b c ≡ false) word (flat_map spaced zs) w (numbers_lack c low zs h)

-- the words of a line of a word and numbers
pub words_apart : (word : List ℕ) (zs : List ℤ) → Lacks 32 word → AreSmall zs
    → words_of (word ++ flat_map spaced zs) ≡ word ∷ map signed_decimal zs
words_apart word [] w h = ap words_of (append-nil word) ∙ slice_split_none (λ b. eqb b 32) word w
words_apart word (z ∷ zs) w h =
    slice_split_at (λ b. eqb b 32) word 32 (signed_decimal z ++ flat_map spaced zs) w refl
    ∙ ap (λ (ws : List (List ℕ)). word
    ∷ ws) (words_apart (signed_decimal z) zs (number_lacks 32 (omega arith) z h.0) h.1)

joined : (word : List ℕ) (zs : List ℤ) → join_with_byte 32 (word ∷ map signed_decimal zs)
    ≡ word ++ flat_map spaced zs
joined word [] = sym (append-nil word)
joined word (z ∷ zs) = ap (λ (bs : List ℕ). word ++ 32 ∷ bs) (joined (signed_decimal z) zs)

words_joined : (line word : List ℕ) (zs : List ℤ) → words_of line ≡ word ∷ map signed_decimal zs
    → line ≡ word ++ flat_map spaced zs
words_joined line word zs h = sym (join_with_byte-slice_split 32 line) ∙ ap (join_with_byte 32) h
    ∙ joined word zs

-- words that write small numbers are these numbers in decimal
spelled_numbers : (i : ℕ) (ws : List (List ℕ)) (zs : List ℤ) → entries_from (λ i. number_in) i ws ≡ Ok zs
    → AreSmall zs → ws ≡ map signed_decimal zs
unfolding entries_from
spelled_numbers i [] zs h small = ap (λ (ys : List ℤ). map signed_decimal ys) (same_ok [] zs _ refl h)
spelled_numbers i (w ∷ ws) zs h small =
    let a = both (number_in w) _ zs h in
    let b = both (entries_from (λ i. number_in) (i + 1) ws) _ zs a.2 in
    let more : a.0 ∷ b.0 ≡ zs = same_ok (a.0 ∷ b.0) zs _ refl b.2 in
    let near = subst AreSmall (sym more) small in
    (λ j. spelled_number w a.0 (was_some (number w) BadLine a.0 a.1) near.0 j
    ∷ spelled_numbers (i + 1) ws b.0 b.1 near.1 j) ∙ ap (λ (ys : List ℤ). map signed_decimal ys) more

-- and small numbers in decimal write themselves
pub numbers_spelled : (i : ℕ) (zs : List ℤ) → AreSmall zs
    → entries_from (λ i. number_in) i (map signed_decimal zs) ≡ Ok zs
unfolding entries_from
numbers_spelled i [] h = refl
numbers_spelled i (z ∷ zs) h = rw (number_spelled z h.0, numbers_spelled (i + 1) zs h.1) refl

-- a line of a word and small numbers has its one spelling
pub line_spelled : (word line : List ℕ) (zs : List ℤ) → numbers_after word (words_of line) ≡ Ok zs
    → AreSmall zs → line ≡ word ++ flat_map spaced zs
line_spelled word line zs h small = by_words (words_of line) refl h
  where
    by_test : (w : List ℕ) (ws : List (List ℕ)) (b : Bool) → words_of line ≡ w ∷ ws → bytes_eq w word ≡ b
        → cond b (numbers_in ws) (Err BadLine) ≡ Ok zs → line ≡ word ++ flat_map spaced zs
    by_test w ws true e t g =
        words_joined line word zs
        (e ∙ (λ i. (bytes_eq-Decides w word).0 t i ∷ spelled_numbers 0 ws zs g small i))
    by_test w ws false e t g = cc

    by_words : (ws : List (List ℕ)) → words_of line ≡ ws → numbers_after word ws ≡ Ok zs
        → line ≡ word ++ flat_map spaced zs
    by_words [] e g = cc
    by_words (w ∷ ws) e g = by_test w ws (bytes_eq w word) e refl g

-- and that spelling is such a line
pub spelled_line : (word : List ℕ) (zs : List ℤ) → Lacks 32 word → AreSmall zs
    → numbers_after word (words_of (word ++ flat_map spaced zs)) ≡ Ok zs
spelled_line word zs w h = rw (words_apart word zs w h, (bytes_eq-Decides word word).1 refl)
    (numbers_spelled 0 zs h)
