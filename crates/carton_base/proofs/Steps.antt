-- What steps that succeed have passed.
use Rattle.std.proofs.Common.{◌≡◌, ℕ, ◌+◌, suc, Bool, true, false, cond, ◌||◌, List, [], ◌∷◌, length, Option}
use Rattle.std.proofs.Common.{Some, None, Result, Ok, Err, refl, sym, ap, ◌∙◌, All, ok_or}
use Rattle.std.proofs.lemmas.List.Elements.{All-nil, All-cons, All-same}
use Rattle.carton_base.specs.Steps.{◌>>=◌, refuse_if, entries_from}

-- both steps gave something
pub both : {A B E : Type 0} (r : Result A E) (f : A → Result B E) (y : B) → (r >>= f) ≡ Ok y → (x : A)
    × (r ≡ Ok x) × (f x ≡ Ok y)
both (Ok x) f y h = (x, refl, h)
both (Err e) f y h = cc

pub same_ok : {A E : Type 0} (x y : A) (r : Result A E) → r ≡ Ok x → r ≡ Ok y → x ≡ y
same_ok x y r g h = cc

pub was_some : {A E : Type 0} (o : Option A) (e : E) (x : A) → ok_or o e ≡ Ok x → o ≡ Some x
was_some None e x h = cc
was_some (Some y) e x h = cc

pub not_refused : {E : Type 0} (b : Bool) (e : E) (fine : Bool) → refuse_if b e ≡ Ok fine → b ≡ false
not_refused true e fine h = cc
not_refused false e fine h = refl

pub unless : {A E : Type 0} (b : Bool) (e : E) (x y : A) → cond b (Err e) (Ok x) ≡ Ok y → (b ≡ false)
    × (y ≡ x)
unless true e x y h = cc
unless false e x y h = (refl, cc)

pub only_if : {A E : Type 0} (b : Bool) (e : E) (x y : A) → cond b (Ok x) (Err e) ≡ Ok y → (b ≡ true)
    × (y ≡ x)
only_if true e x y h = (refl, cc)
only_if false e x y h = cc

pub some_if : {A : Type 0} (b : Bool) (x y : A) → cond b (Some x) None ≡ Some y → (b ≡ true) × (y ≡ x)
some_if true x y h = (refl, cc)
some_if false x y h = cc

pub neither : (a b : Bool) → (a || b) ≡ false → (a ≡ false) × (b ≡ false)
neither true b h = cc
neither false b h = (refl, h)

-- as many were read as there are entries
pub count_entries : {D A E : Type 0} (entry : ℕ → D → Result A E) (i : ℕ) (ds : List D) (xs : List A)
    → entries_from entry i ds ≡ Ok xs → length xs ≡ length ds
unfolding entries_from
count_entries {D} {A} {E} entry i [] xs h =
    let none : [] ≡ xs = cc in
    sym (ap (length {A = A}) none)
count_entries {D} {A} {E} entry i (d ∷ ds) xs h =
    let a = both (entry i d) _ xs h in
    let b = both (entries_from entry (i + 1) ds) _ xs a.2 in
    let more : a.0 ∷ b.0 ≡ xs = cc in
    sym (ap (length {A = A}) more) ∙ ap suc (count_entries entry (i + 1) ds b.0 b.1)

-- what holds of each entry that its rules accept holds of all that were read
pub all_entries : {D A E : Type 0} (P : A → Type 0) (entry : ℕ → D → Result A E)
    → ((i : ℕ) (d : D) (x : A) → entry i d ≡ Ok x → P x) → (i : ℕ) (ds : List D) (xs : List A)
    → entries_from entry i ds ≡ Ok xs → All P xs
unfolding entries_from
all_entries P entry each i [] xs h =
    let none : xs ≡ [] = cc in
    All-same P xs [] none (All-nil P)
all_entries P entry each i (d ∷ ds) xs h =
    let a = both (entry i d) _ xs h in
    let b = both (entries_from entry (i + 1) ds) _ xs a.2 in
    let more : xs ≡ a.0 ∷ b.0 = cc in
    All-same P xs (a.0 ∷ b.0) more
    (All-cons P a.0 b.0 (each i d a.0 a.1) (all_entries P entry each (i + 1) ds b.0 b.1))
