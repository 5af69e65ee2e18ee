-- The words are one command at most. The numbers of a command lie in their ranges, and its files are of
-- the kinds that its row names.
use Rattle.std.proofs.Common.{◌≡◌, ℕ, ◌≤◌, List, [], ◌∷◌, arith, refl, sym, ap, ◌∙◌, map, Some}
use Rattle.std.specs.Prelude.{codes, if◌then◌else◌}
use Rattle.std.specs.Str.{bytes_eq}
use Rattle.std.specs.Str.Parse.{digits_value}
use Rattle.std.proofs.lemmas.Fmt.{decimal_is_IsNumeral}
use Rattle.carton_base.specs.declared.limits.TheConstants.{WIDEST_MARGIN}
use Rattle.carton_words.specs.Commands.{Command, IsCommandIn, IsCommand, files_in}
use Rattle.carton_words.specs.Commands.{files_of, margin_in, margin_of, count_in, count_of}
use Rattle.carton_words.specs.Rows.{Row, kinds_in, verb_in, Differ}
use Rattle.carton_words.specs.Table.{row_of, verbs, differ}
use Rattle.carton_words.specs.Words.{Given, a_file, a_margin, an_end, a_count, IsGiven, AreGiven}
use Rattle.carton_words.specs.declared.ends.End.TheVariants.{Start, Target}
use Rattle.carton_words.specs.declared.givens.TheConstants.{MOST_MADE}
use Rattle.carton_words.specs.declared.table.Slot.{Slot}
use Rattle.carton_words.specs.declared.table.Slot.TheVariants.{File, Margin, End, Count}
use Rattle.carton_words.specs.declared.table.Verb.{Verb}

-- what a word gives at a slot, if it may stand there
abbrev gives : Slot → List ℕ → Given
gives (File kind) word = a_file (record { kind = kind; name = word })
gives Margin word = a_margin (digits_value 10 word)
gives End word = an_end (if bytes_eq word (codes "start") then Start else Target)
gives Count word = a_count (digits_value 10 word)

abbrev all_give : List Slot → List (List ℕ) → List Given
all_give [] words = []
all_give (slot ∷ slots) [] = []
all_give (slot ∷ slots) (word ∷ words) = gives slot word ∷ all_give slots words

one_given : (slot : Slot) (word : List ℕ) (given : Given) → IsGiven slot word given
    → gives slot word ≡ given
one_given (File kind) word (a_file file) is = λ i. a_file (record { kind = sym is.0 i; name = is.1 i })
one_given (File kind) word (a_margin margin) is = absurd is
one_given (File kind) word (an_end end) is = absurd is
one_given (File kind) word (a_count count) is = absurd is
one_given Margin word (a_file file) is = absurd is
one_given Margin word (a_margin margin) is =
    ap a_margin (ap (digits_value 10) is.1 ∙ (decimal_is_IsNumeral margin (omega (arith, is.0))).1)
one_given Margin word (an_end end) is = absurd is
one_given Margin word (a_count count) is = absurd is
one_given End word (a_file file) is = absurd is
one_given End word (a_margin margin) is = absurd is
one_given End word (an_end Start) is = rw is refl
one_given End word (an_end Target) is = rw is refl
one_given End word (a_count count) is = absurd is
one_given Count word (a_file file) is = absurd is
one_given Count word (a_margin margin) is = absurd is
one_given Count word (an_end end) is = absurd is
one_given Count word (a_count count) is =
    ap a_count (ap (digits_value 10) is.2 ∙ (decimal_is_IsNumeral count (omega (arith, is.1))).1)

one_list : (slots : List Slot) (words : List (List ℕ)) (given : List Given) → AreGiven slots words given
    → all_give slots words ≡ given
one_list [] [] [] are = refl
one_list [] [] (g ∷ given) are = absurd are
one_list [] (word ∷ words) given are = absurd are
one_list (slot ∷ slots) [] given are = absurd are
one_list (slot ∷ slots) (word ∷ words) [] are = absurd are
one_list (slot ∷ slots) (word ∷ words) (g ∷ given) are =
    λ i. one_given slot word g are.0 i ∷ one_list slots words given are.1 i

some_is : (v w : Verb) → Some v ≡ Some w → v ≡ w
some_is v w e = cc

one_verb : (row : Verb → Row) (listed : List Verb) → Differ row listed → (v w : Verb)
    → (row v).word ≡ (row w).word → v ≡ w
one_verb row listed found v w e = some_is v w (sym (found v) ∙ ap (verb_in row listed) e ∙ found w)

-- in a table whose words differ the words are one command at most
pub one_command_in : (row : Verb → Row) (listed : List Verb) → Differ row listed
    → (words : List (List ℕ)) (c c' : Command)
    → IsCommandIn row words c → IsCommandIn row words c' → c ≡ c'
one_command_in row listed found [] c c' is is' = absurd is
one_command_in row listed found (word ∷ words) c c' is is' =
    let same : c.verb ≡ c'.verb = one_verb row listed found c.verb c'.verb (sym is.0 ∙ is'.0) in
    let first = one_list (row c.verb).slots words c.given is.1 in
    let second = one_list (row c'.verb).slots words c'.given is'.1 in
    let given : c.given ≡ c'.given = sym first ∙ ap (λ verb. all_give (row verb).slots words) same ∙ second in
    λ i. record { verb = same i; given = given i }

-- the words are one command at most
pub one_command : (words : List (List ℕ)) (c c' : Command) → IsCommand words c → IsCommand words c' → c ≡ c'
one_command = one_command_in row_of verbs differ

-- a word that gives a margin gives one in its range
margin_fits : (slot : Slot) (word : List ℕ) (margin : ℕ) → IsGiven slot word (a_margin margin)
    → margin ≤ WIDEST_MARGIN
margin_fits (File kind) word margin is = absurd is
margin_fits Margin word margin is = is.0
margin_fits End word margin is = absurd is
margin_fits Count word margin is = absurd is

count_fits : (slot : Slot) (word : List ℕ) (count : ℕ) → IsGiven slot word (a_count count)
    → (1 ≤ count) × (count ≤ MOST_MADE)
count_fits (File kind) word count is = absurd is
count_fits Margin word count is = absurd is
count_fits End word count is = absurd is
count_fits Count word count is = (is.0, is.1)

margins_fit : (slots : List Slot) (words : List (List ℕ)) (given : List Given) → AreGiven slots words given
    → margin_in given ≤ WIDEST_MARGIN
margins_fit slots words [] are = omega arith
margins_fit [] [] (g ∷ given) are = absurd are
margins_fit [] (word ∷ words) (g ∷ given) are = absurd are
margins_fit (slot ∷ slots) [] (g ∷ given) are = absurd are
margins_fit (slot ∷ slots) (word ∷ words) (a_file file ∷ given) are = margins_fit slots words given are.1
margins_fit (slot ∷ slots) (word ∷ words) (a_margin margin ∷ given) are = margin_fits slot word margin are.0
margins_fit (slot ∷ slots) (word ∷ words) (an_end end ∷ given) are = margins_fit slots words given are.1
margins_fit (slot ∷ slots) (word ∷ words) (a_count count ∷ given) are = margins_fit slots words given are.1

counts_fit : (slots : List Slot) (words : List (List ℕ)) (given : List Given) → AreGiven slots words given
    → (1 ≤ count_in given) × (count_in given ≤ MOST_MADE)
counts_fit slots words [] are = (omega arith, omega arith)
counts_fit [] [] (g ∷ given) are = absurd are
counts_fit [] (word ∷ words) (g ∷ given) are = absurd are
counts_fit (slot ∷ slots) [] (g ∷ given) are = absurd are
counts_fit (slot ∷ slots) (word ∷ words) (a_file file ∷ given) are = counts_fit slots words given are.1
counts_fit (slot ∷ slots) (word ∷ words) (a_margin margin ∷ given) are = counts_fit slots words given are.1
counts_fit (slot ∷ slots) (word ∷ words) (an_end end ∷ given) are = counts_fit slots words given are.1
counts_fit (slot ∷ slots) (word ∷ words) (a_count count ∷ given) are = count_fits slot word count are.0

-- the margin of a command lies in its range
pub margin_bounded : (words : List (List ℕ)) (c : Command) → IsCommand words c → margin_of c ≤ WIDEST_MARGIN
margin_bounded [] c is = absurd is
margin_bounded (word ∷ words) c is = margins_fit (row_of c.verb).slots words c.given is.1

-- the number of dielines of a command lies in its range
pub count_bounded : (words : List (List ℕ)) (c : Command) → IsCommand words c
    → (1 ≤ count_of c) × (count_of c ≤ MOST_MADE)
count_bounded [] c is = absurd is
count_bounded (word ∷ words) c is = counts_fit (row_of c.verb).slots words c.given is.1

kinds_given : (slots : List Slot) (words : List (List ℕ)) (given : List Given) → AreGiven slots words given
    → map (λ file. file.kind) (files_in given) ≡ kinds_in slots
kinds_given [] [] [] are = refl
kinds_given [] [] (g ∷ given) are = absurd are
kinds_given [] (word ∷ words) given are = absurd are
kinds_given (slot ∷ slots) [] given are = absurd are
kinds_given (slot ∷ slots) (word ∷ words) [] are = absurd are
kinds_given (File kind ∷ slots) (word ∷ words) (a_file file ∷ given) are =
    λ i. are.0.0 i ∷ kinds_given slots words given are.1 i
kinds_given (File kind ∷ slots) (word ∷ words) (a_margin margin ∷ given) are = absurd are.0
kinds_given (File kind ∷ slots) (word ∷ words) (an_end end ∷ given) are = absurd are.0
kinds_given (File kind ∷ slots) (word ∷ words) (a_count count ∷ given) are = absurd are.0
kinds_given (Margin ∷ slots) (word ∷ words) (a_file file ∷ given) are = absurd are.0
kinds_given (Margin ∷ slots) (word ∷ words) (a_margin margin ∷ given) are =
    kinds_given slots words given are.1
kinds_given (Margin ∷ slots) (word ∷ words) (an_end end ∷ given) are = absurd are.0
kinds_given (Margin ∷ slots) (word ∷ words) (a_count count ∷ given) are = absurd are.0
kinds_given (End ∷ slots) (word ∷ words) (a_file file ∷ given) are = absurd are.0
kinds_given (End ∷ slots) (word ∷ words) (a_margin margin ∷ given) are = absurd are.0
kinds_given (End ∷ slots) (word ∷ words) (an_end end ∷ given) are = kinds_given slots words given are.1
kinds_given (End ∷ slots) (word ∷ words) (a_count count ∷ given) are = absurd are.0
kinds_given (Count ∷ slots) (word ∷ words) (a_file file ∷ given) are = absurd are.0
kinds_given (Count ∷ slots) (word ∷ words) (a_margin margin ∷ given) are = absurd are.0
kinds_given (Count ∷ slots) (word ∷ words) (an_end end ∷ given) are = absurd are.0
kinds_given (Count ∷ slots) (word ∷ words) (a_count count ∷ given) are = kinds_given slots words given are.1

-- a command reads files of the kinds that its row names, in that order
pub kinds_read : (words : List (List ℕ)) (c : Command) → IsCommand words c
    → map (λ file. file.kind) (files_of c) ≡ kinds_in (row_of c.verb).slots
kinds_read [] c is = absurd is
kinds_read (word ∷ words) c is = kinds_given (row_of c.verb).slots words c.given is.1
