-- Reading the entries of a list one after the other, as a loop does.
use Rattle.std.proofs.Common.{◌≡◌, ℕ, suc, ◌+◌, ◌≤◌, ◌<◌, List, [], ◌∷◌, ◌++◌, Result, Ok, Err, refl, sym, ap}
use Rattle.std.proofs.Common.{◌∙◌, append_assoc, length, drop, get_or, drop-cons, add-one, map}
use Rattle.std.proofs.lemmas.List.{append-nil, drop_all}
use Rattle.carton_base.specs.Steps.{◌>>=◌, entries_from}

-- what was read before, and what is still read
abbrev pub with_front : {A E : Type 0} → List A → Result (List A) E → Result (List A) E
with_front front read = read >>= λ xs. Ok (front ++ xs)

regroup : {A E : Type 0} (front : List A) (x : A) (read : Result (List A) E)
    → with_front front (read >>= λ xs. Ok (x ∷ xs)) ≡ with_front (front ++ x ∷ []) read
regroup {A} {E} front x (Ok xs) = ap (λ (ys : List A). Ok ys) (simp append_assoc)
regroup front x (Err e) = refl

-- the entry was read, so the front grows by it
pub goes_on : {D A E : Type 0} (entry : ℕ → D → Result A E) (front : List A) (i : ℕ) (ds : List D) (d : D)
    (rest : List D) (x : A) (total : Result (List A) E) → ds ≡ d ∷ rest → entry i d ≡ Ok x
    → with_front front (entries_from entry i ds) ≡ total
    → with_front (front ++ x ∷ []) (entries_from entry (i + 1) rest) ≡ total
unfolding entries_from
goes_on entry front i ds d rest x total e h so_far =
    let one : with_front front (entries_from entry i ds)
    ≡ with_front (front ++ x ∷ []) (entries_from entry (i + 1) rest) =
    rw (e, h) (regroup front x (entries_from entry (i + 1) rest)) in
    sym one ∙ so_far

-- the entry fails a rule, so the reading ends with it
pub ends : {D A E : Type 0} (entry : ℕ → D → Result A E) (f : E) (front : List A) (i : ℕ) (ds : List D)
    (d : D) (rest : List D) (total : Result (List A) E) → ds ≡ d ∷ rest → entry i d ≡ Err f
    → with_front front (entries_from entry i ds) ≡ total → total ≡ Err f
unfolding entries_from
ends entry f front i ds d rest total e h so_far =
    let one : with_front front (entries_from entry i ds) ≡ Err f = rw (e, h) refl in
    sym so_far ∙ one

-- no entry is left
pub is_done : {D A E : Type 0} (entry : ℕ → D → Result A E) (front : List A) (i : ℕ) (ds : List D)
    (total : Result (List A) E) → ds ≡ [] → with_front front (entries_from entry i ds) ≡ total
    → total ≡ Ok front
unfolding entries_from
is_done {D} {A} {E} entry front i ds total e so_far =
    let one : with_front front (entries_from entry i ds) ≡ Ok front =
    rw e (ap (λ (ys : List A). Ok ys) (append-nil front)) in
    sym so_far ∙ one

-- the entries from the i-th on begin with the i-th
pub next_entry : {A D : Type 0} (view : A → D) (list : List A) (i : ℕ) (x : A) → i < length list
    → x ≡ get_or list i x → map view (drop i list) ≡ view x ∷ map view (drop (i + 1) list)
next_entry view list i x lt is =
    rw (add-one, drop-cons list i x) (ap (λ y. view y ∷ map view (drop (suc i) list)) (sym is))

pub no_entry : {A D : Type 0} (view : A → D) (list : List A) (i : ℕ) → length list ≤ i
    → map view (drop i list) ≡ []
no_entry view list i le = rw (drop_all i list le) refl
