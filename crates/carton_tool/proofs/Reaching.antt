-- Files read one after the other: what holds of all of them, from what holds of those that are left.
use Rattle.std.proofs.Common.{◌≡◌, ℕ, suc, ◌<◌, ◌≤◌, inr, List, [], ◌∷◌, ◌++◌, length, map, drop, drop-cons}
use Rattle.std.proofs.Common.{get_or, ◌+◌, arith, refl, sym, subst, ap, ◌∙◌, append_assoc, Option, Some, None}
use Rattle.std.specs.Prelude.{replicate, unwrap_or, IfSome, MatchOption}
use Rattle.std.proofs.lemmas.Bool.{lt-ltb, le-ltb}
use Rattle.std.proofs.lemmas.List.{length-replicate, append-nil, drop_all}
use Rattle.carton_tool.specs.Files.{AreTold, first_long, IsLengthOfLast, Reaches}
use Rattle.carton_tool.specs.Reading.{AreRead}
use Rattle.carton_words.specs.Asked.{named}
use Rattle.carton_words.specs.Kinds.{Named, most_bytes}
use Rattle.carton_words.specs.declared.givens.Wanted.{Wanted}

-- so many files were read, of which none is too long, and these are left
pub record IsFront (holds : List ℕ → Option (List ℕ)) (all rest : List Named) (files : List (List ℕ)) : Type 0
  where
    pub told : (others : List (List ℕ)) → AreTold holds rest others → AreTold holds all (files ++ others)
    pub long : (others : List (List ℕ)) → first_long all (files ++ others) ≡ first_long rest others
    pub reached : (name : List ℕ) → Reaches holds rest name → Reaches holds all name

pub none_read : (holds : List ℕ → Option (List ℕ)) (all : List Named) → IsFront holds all all []
none_read holds all = record { told = λ others h. h; long = λ others. refl; reached = λ name h. h }

-- the first file that is left decides
long_here : (f : Named) (named : List Named) (file : List ℕ) (others : List (List ℕ))
    → most_bytes f.kind < length file → first_long (f ∷ named) (file ∷ others) ≡ Some f.kind
long_here f named file others more = rw (lt-ltb (most_bytes f.kind) (length file) more) refl

pub short_here : (f : Named) (named : List Named) (file : List ℕ) (others : List (List ℕ))
    → length file ≤ most_bytes f.kind → first_long (f ∷ named) (file ∷ others) ≡ first_long named others
short_here f named file others few = rw (le-ltb (most_bytes f.kind) (length file) few) refl

told_short : (told : Option (List ℕ)) (file : List ℕ) (k : ℕ) → length file ≤ k
    → IfSome told (λ bytes. file ≡ bytes) → IfSome told (λ bytes. length bytes ≤ k)
told_short None file k few h = tt
told_short (Some bytes) file k few h = subst (λ b. length b ≤ k) h few

one_more : (holds : List ℕ → Option (List ℕ)) (all rest : List Named) (f : Named) (files : List (List ℕ))
    (file : List ℕ) → IsFront holds all (f ∷ rest) files
    → IfSome (holds f.name) (λ bytes. file ≡ bytes) → length file ≤ most_bytes f.kind
    → IsFront holds all rest (files ++ file ∷ [])
one_more holds all rest f files file front told few = record {
  told = λ others h. subst (AreTold holds all) (sym (append_assoc files (file ∷ []) others))
      (front.told (file ∷ others) (told, h));
  long = λ others. ap (first_long all) (append_assoc files (file ∷ []) others) ∙ front.long (file ∷ others)
      ∙ short_here f rest file others few;
  reached =
      λ name h. front.reached name (inr (told_short (holds f.name) file (most_bytes f.kind) few told, h));
}

-- the last of the files that were read has as many bytes as the last read had
pub last_length : (n : ℕ) (files : List (List ℕ)) (file : List ℕ) → n ≡ length file
    → IsLengthOfLast n (files ++ file ∷ [])
last_length n [] file h = h
last_length n (a ∷ []) file h = h
last_length n (a ∷ b ∷ files) file h = last_length n (b ∷ files) file h

all_read : (holds : List ℕ → Option (List ℕ)) (had : ℕ) (all : List Named) (files : List (List ℕ))
    → IsFront holds all [] files → IsLengthOfLast had files → AreRead holds had all None files
all_read holds had all files front last =
    let first : first_long all files ≡ None = ap (first_long all) (sym (append-nil files)) ∙ front.long [] in
    record {
      told = subst (AreTold holds all) (append-nil files) (front.told [] tt);
      long = subst (λ o. MatchOption o (IsLengthOfLast had files) (λ kind. most_bytes kind < had)) (sym first)
          last;
      first_is = first;
    }

-- the told bytes, or any so many where none are told
pub record LongBytes (told : Option (List ℕ)) (k : ℕ) : Type 0 where
  pub bytes : List ℕ
  pub told_so : IfSome told (λ b. bytes ≡ b)
  pub long : k < length bytes

long_bytes : (told : Option (List ℕ)) (k had : ℕ) → k < had → IfSome told (λ b. k < length b)
    → LongBytes told k
long_bytes None k had more h =
    record {
      bytes = replicate had 0;
      told_so = tt;
      long = subst (λ n. k < n) (sym (length-replicate had 0)) more;
    }
long_bytes (Some b) k had more h = record { bytes = b; told_so = refl; long = h }

-- the told bytes of each name, and none where none are told
told_bytes : (List ℕ → Option (List ℕ)) → List Named → List (List ℕ)
told_bytes holds [] = []
told_bytes holds (f ∷ named) = unwrap_or (holds f.name) [] ∷ told_bytes holds named

are_told : (holds : List ℕ → Option (List ℕ)) (named : List Named)
    → AreTold holds named (told_bytes holds named)
unfolding told_bytes
are_told holds [] = tt
are_told holds (f ∷ named) = (as_told (holds f.name), are_told holds named)
  where
    as_told : (told : Option (List ℕ)) → IfSome told (λ bytes. unwrap_or told [] ≡ bytes)
    as_told None = tt
    as_told (Some bytes) = refl

one_long : (holds : List ℕ → Option (List ℕ)) (had : ℕ) (all rest : List Named) (f : Named)
    (files : List (List ℕ)) → IsFront holds all (f ∷ rest) files
    → most_bytes f.kind < had → IfSome (holds f.name) (λ bytes. most_bytes f.kind < length bytes)
    → (others : List (List ℕ)) × AreRead holds had all (Some f.kind) others
one_long holds had all rest f files front more told =
    let l = long_bytes (holds f.name) (most_bytes f.kind) had more told in
    let others = l.bytes ∷ told_bytes holds rest in
    let first : first_long all (files ++ others) ≡ Some f.kind = front.long others
    ∙ long_here f rest l.bytes (told_bytes holds rest) l.long in (
      files ++ others,
      record {
        told = front.told others (l.told_so, are_told holds rest);
        long = subst (λ o. MatchOption o (IsLengthOfLast had (files ++ others))
            (λ kind. most_bytes kind < had)) (sym first) more;
        first_is = first;
      },
    )

-- the file at a place is the first of those that are left
next : (holds : List ℕ → Option (List ℕ)) (wanted : List Wanted) (i : ℕ) (d : Wanted) (files : List (List ℕ))
    → i < length wanted
    → IsFront holds (map named wanted) (map named (drop i wanted)) files
    → IsFront holds (map named wanted) (named (get_or wanted i d) ∷ map named (drop (i + 1) wanted)) files
next holds wanted i d files lt front =
    let one : suc i ≡ i + 1 = omega arith in
    let e : drop i wanted ≡ get_or wanted i d ∷ drop (i + 1) wanted = drop-cons wanted i d lt
    ∙ ap (λ k. get_or wanted i d ∷ drop k wanted) one in
    subst (λ rest. IsFront holds (map named wanted) (map named rest) files) e front

-- the file at a place was read, from a shelf that tells the same
pub read_next : (holds now : List ℕ → Option (List ℕ)) (wanted : List Wanted) (i : ℕ) (d : Wanted)
    (files : List (List ℕ)) (bytes : List ℕ) (limit : ℕ) → i < length wanted
    → IsFront holds (map named wanted) (map named (drop i wanted)) files
    → limit ≡ most_bytes (get_or wanted i d).kind → ((name : List ℕ) → now name ≡ holds name)
    → IfSome (now (get_or wanted i d).name.now) (λ b. bytes ≡ b) → length bytes ≤ limit
    → IsFront holds (map named wanted) (map named (drop (i + 1) wanted)) (files ++ bytes ∷ [])
read_next holds now wanted i d files bytes limit lt front is stays told few =
    one_more holds (map named wanted) (map named (drop (i + 1) wanted)) (named (get_or wanted i d)) files
    bytes (next holds wanted i d files lt front)
    (subst (λ o. IfSome o (λ b. bytes ≡ b)) (stays (get_or wanted i d).name.now) told)
    (subst (λ n. length bytes ≤ n) is few)

-- the file at a place is too long
pub long_next : (holds now : List ℕ → Option (List ℕ)) (wanted : List Wanted) (i : ℕ) (d : Wanted)
    (files : List (List ℕ)) (had limit : ℕ) → i < length wanted
    → IsFront holds (map named wanted) (map named (drop i wanted)) files
    → limit ≡ most_bytes (get_or wanted i d).kind → ((name : List ℕ) → now name ≡ holds name)
    → IfSome (now (get_or wanted i d).name.now) (λ b. limit < length b) → limit < had
    → (others : List (List ℕ))
    × AreRead holds had (map named wanted) (Some (get_or wanted i d).kind) others
long_next holds now wanted i d files had limit lt front is stays told more =
    one_long holds had (map named wanted) (map named (drop (i + 1) wanted)) (named (get_or wanted i d)) files
    (next holds wanted i d files lt front) (subst (λ n. n < had) is more)
    (subst (λ o. IfSome o (λ b. most_bytes (get_or wanted i d).kind < length b))
    (stays (get_or wanted i d).name.now)
    (subst (λ n. IfSome (now (get_or wanted i d).name.now) (λ b. n < length b)) is told))

-- all files were read
pub read_to_end : (holds : List ℕ → Option (List ℕ)) (had : ℕ) (wanted : List Wanted) (i : ℕ)
    (files : List (List ℕ)) → length wanted ≤ i
    → IsFront holds (map named wanted) (map named (drop i wanted)) files → IsLengthOfLast had files
    → AreRead holds had (map named wanted) None files
read_to_end holds had wanted i files end front last =
    all_read holds had (map named wanted) files
    (subst (λ rest. IsFront holds (map named wanted) (map named rest) files) (drop_all i wanted end) front)
    last
