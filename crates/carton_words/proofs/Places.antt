-- What the words give at the slots, as a loop over both finds it.
use Rattle.std.proofs.Common.{◌≡◌, ℕ, zero, suc, ◌+◌, List, [], ◌∷◌, ◌++◌, drop}
use Rattle.std.proofs.Common.{length, map, ap, refl, sym, subst, ◌<◌, ◌≤◌, get_or, drop-cons, add-one}
use Rattle.std.proofs.lemmas.List.{drop_all}
use Rattle.std.specs.Prelude.{String}
use Rattle.std.specs.declared.alloc.Global.{Global}
use Rattle.carton_words.specs.Words.{Given, texts, IsGiven, AreGiven}
use Rattle.carton_words.specs.declared.table.Slot.{Slot}

-- a list of what words give is as long as the words and the slots
pub as_many : (slots : List Slot) (words : List (String Global)) (given : List Given)
    → AreGiven slots (texts words) given
    → length slots ≡ length words
as_many [] [] given are = refl
as_many [] (word ∷ words) given are = absurd are
as_many (slot ∷ slots) [] given are = absurd are
as_many (slot ∷ slots) (word ∷ words) [] are = absurd are
as_many (slot ∷ slots) (word ∷ words) (g ∷ given) are = ap suc (as_many slots words given are.1)

-- where the words give something, those from a place on do
pub from_place : (k : ℕ) (slots : List Slot) (words : List (String Global)) (given : List Given)
    → AreGiven slots (texts words) given
    → (rest : List Given) × AreGiven (drop k slots) (texts (drop k words)) rest
from_place zero slots words given are = (given, are)
from_place (suc k) [] [] given are = ([], tt)
from_place (suc k) [] (word ∷ words) given are = absurd are
from_place (suc k) (slot ∷ slots) [] given are = absurd are
from_place (suc k) (slot ∷ slots) (word ∷ words) [] are = absurd are
from_place (suc k) (slot ∷ slots) (word ∷ words) (g ∷ given) are = from_place k slots words given are.1

-- the words from a place on give what the word there gives, and what the others give
pub joined : (slots : List Slot) (words others : List (List ℕ)) (k : ℕ) (default : Slot)
    (word : List ℕ) (g : Given) (rest : List Given)
    → k < length slots → words ≡ word ∷ others → IsGiven (get_or slots k default) word g
    → AreGiven (drop (k + 1) slots) others rest
    → AreGiven (drop k slots) words (g ∷ rest)
joined slots words others k default word g rest lt e is are =
    let later : AreGiven (drop (suc k) slots) others rest = rw (sym (add-one k)) are in
    rw (e, drop-cons slots k default) (is, later)

-- where words give something, the first of them does at its slot
first_gives : (slot : Slot) (slots : List Slot) (word : List ℕ) (words : List (List ℕ)) (given : List Given)
    → AreGiven (slot ∷ slots) (word ∷ words) given → (g : Given) × IsGiven slot word g
first_gives slot slots word words [] are = absurd are
first_gives slot slots word words (g ∷ given) are = (g, are.0)

pub parted : (slots : List Slot) (words others : List (List ℕ)) (k : ℕ) (default : Slot)
    (word : List ℕ) (given : List Given)
    → k < length slots → words ≡ word ∷ others → AreGiven (drop k slots) words given
    → (g : Given) × IsGiven (get_or slots k default) word g
parted slots words others k default word given lt e are =
    let first : AreGiven (drop k slots) (word ∷ others) given = rw (sym e) are in
    first_gives (get_or slots k default) (drop (suc k) slots) word others given
    (subst (λ list. AreGiven list (word ∷ others) given) (drop-cons slots k default lt) first)

-- behind the last slot and the last word nothing is given
pub none_behind : (k : ℕ) (slots : List Slot) (words : List (String Global)) → length slots ≤ k
    → length words ≤ k
    → AreGiven (drop k slots) (texts (drop k words)) []
none_behind k slots words few none = rw (drop_all k slots few, drop_all k words none) tt

-- one more was found
pub one_more : {X : Type 0} (view : X → Given) (found : List X) (x : X) (rest : List Given)
    → map view (found ++ x ∷ []) ++ rest ≡ map view found ++ view x ∷ rest
one_more view [] x rest = refl
one_more view (f ∷ found) x rest = ap (λ gs. view f ∷ gs) (one_more view found x rest)
