use Rattle.std.proofs.Common.{◌<◌, ◌≤◌, [], ◌++◌, sym, ◌∷◌, get_or, length, map, arith, subst}
use Rattle.std.specs.Prelude.{option_map, string_bytes}
use Rattle.std.proofs.lemmas.List.{append-nil}
use Rattle.carton_base.proofs.Entries.{next_entry}
use Rattle.carton_words.specs.Asked.{given}
use Rattle.carton_words.specs.Words.{Given as GivenWord, texts, IsGiven, IsFoundAt, AreGiven}
use Rattle.carton_words.specs.declared.kinds.FileKind.TheVariants.{Dieline}
use Rattle.carton_words.specs.declared.table.Slot.TheVariants.{File}
use Rattle.carton_words.proofs.Places.{as_many, from_place, joined, parted, none_behind, one_more}
use Rattle.carton_words.proofs.words.given_by.Goals as goal

pub returns-then-slots-words : goal.returns-then-slots-words
returns-then-slots-words c = λ gs are.
    c.if-slots-words.true (as_many c.args.slots.now c.args.words.now gs are)

pub returns-in-None : goal.returns-in-None
returns-in-None c = λ gs are.
    let slots = c.args.slots.now in
    let words = c.args.words.now in
    let k = c.loop-k.k in
    let slot = get_or slots k (File Dieline) in
    let text = c.as_str.result.now in
    let within : k < length slots = omega (arith, c.if-slots-words.false, c.loop-k-test.true) in
    let left = from_place k slots words gs are in
    let next = next_entry string_bytes words k c.index-words-k.result c.loop-k-test.true c.index-words-k.is in
    let none : (g : GivenWord) → ¬ (IsGiven slot text g) =
    subst (λ found. IsFoundAt slot text (option_map given found)) c.in-None.is c.in_ok-given.ensures in
    let some = parted slots (texts _) _ k (File Dieline) _ left.0 within next left.1 in
    none some.0 (rw c.as_str.ensures.value some.1)

pub returns : goal.returns
returns c =
    let slots = c.args.slots.now in
    let words = c.args.words.now in
    let found = map given c.loop-k.found.items in
    let behind : length slots ≤ c.loop-k.k = omega (arith, c.if-slots-words.false, c.loop-k-test.false) in
    let done : AreGiven slots (texts words) (found ++ []) =
    c.loop-k.invariant [] (none_behind c.loop-k.k slots words behind c.loop-k-test.false) in
    rw (sym (append-nil found)) done

pub loop-k-preserved : goal.loop-k-preserved
loop-k-preserved c = λ rest are.
    let slots = c.args.slots.now in
    let words = c.args.words.now in
    let k = c.loop-k.k in
    let slot = get_or slots k (File Dieline) in
    let text = c.as_str.result.now in
    let g = given c.in-Some.given in
    let within : k < length slots = omega (arith, c.if-slots-words.false, c.loop-k-test.true) in
    let next = next_entry string_bytes words k c.index-words-k.result c.loop-k-test.true c.index-words-k.is in
    let some : IsGiven slot text g =
    subst (λ found. IsFoundAt slot text (option_map given found)) c.in-Some.is c.in_ok-given.ensures in
    let is : IsGiven slot (string_bytes c.index-words-k.result) g = rw (sym c.as_str.ensures.value) some in
    rw (c.in_ok-push-in-Some.ensures.items, one_more given c.loop-k.found.items c.in-Some.given rest)
    (c.loop-k.invariant (g ∷ rest) (joined slots _ _ k (File Dieline) _ g rest within next is are))
