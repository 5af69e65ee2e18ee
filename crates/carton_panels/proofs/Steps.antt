-- The steps round a list, by their numbers.
use Rattle.std.proofs.Common.{◌≡◌, ℕ, suc, zero, ◌+◌, ◌-◌, ◌<◌, List, [], ◌∷◌, ◌++◌, length, get_or, take}
use Rattle.std.proofs.Common.{drop, refl, ap, sym, ◌∙◌, inl, inr, arith, length-append}
use Rattle.std.proofs.lemmas.Bool.{cases_lt}
use Rattle.std.proofs.lemmas.List.{get_or-drop, get_or-take, get_or_append_left, get_or-append_right}
use Rattle.std.proofs.lemmas.List.{length-drop, length-take}
use Rattle.carton_base.specs.declared.dieline.Point.{Point}
use Rattle.carton_panels.specs.Around.{Step, steps, around, last_first}
use Rattle.carton_panels.specs.Panels.{Side, sides_of, bends_of}

-- past the front of a list, what stands at the end
last_at : {X : Type 0} (xs : List X) (x e : X) → get_or (xs ++ x ∷ []) (length xs) e ≡ x
last_at [] x e = refl
last_at (y ∷ ys) x e = last_at ys x e

-- and within the front, the front
front_at : {X : Type 0} (xs : List X) (x e : X) (k : ℕ) → k < length xs → get_or (xs ++ x ∷ []) k e
    ≡ get_or xs k e
front_at [] x e k h = absurd (omega arith)
front_at (y ∷ ys) x e zero h = refl
front_at (y ∷ ys) x e (suc k) h = front_at ys x e k (omega arith)

length-steps : {X : Type 0} (p : X) (ps : List X) (last : X) → length (steps p ps last) ≡ suc (length ps)
length-steps p [] last = refl
length-steps p (q ∷ qs) last = ap suc (length-steps q qs last)

pub length-around : {X : Type 0} (ps : List X) → length (around ps) ≡ length ps
length-around [] = refl
length-around (p ∷ ps) = length-steps p ps p

steps_at : {X : Type 0} (p : X) (ps : List X) (last : X) (k : ℕ) (d : Step X) (e : X) → k < suc (length ps)
    → get_or (steps p ps last) k d ≡ record { from = get_or (p ∷ ps) k e; to = get_or (ps ++ last ∷ []) k e }
steps_at p [] last zero d e h = refl
steps_at p [] last (suc k) d e h = absurd (omega arith)
steps_at p (q ∷ qs) last zero d e h = refl
steps_at p (q ∷ qs) last (suc k) d e h = steps_at q qs last k d e (omega arith)

-- the step at k, where another element follows
around_inner : {X : Type 0} (ps : List X) (k : ℕ) (d : Step X) (e : X) → k + 1 < length ps
    → get_or (around ps) k d ≡ record { from = get_or ps k e; to = get_or ps (k + 1) e }
around_inner [] k d e h = absurd (omega arith)
around_inner {X} (p ∷ ps) k d e h =
    let s : k + 1 ≡ suc k = omega arith in
    let in' : k < length ps = omega arith in
    let step : X → Step X = λ n. record { from = get_or (p ∷ ps) k e; to = n } in
    steps_at p ps p k d e (omega arith)
    ∙ ap step (front_at ps p e k in' ∙ ap (λ n. get_or (p ∷ ps) n e) (sym s))

-- and at the last one, which the first one follows
around_last : {X : Type 0} (ps : List X) (k : ℕ) (d : Step X) (e : X) → k + 1 ≡ length ps
    → get_or (around ps) k d ≡ record { from = get_or ps k e; to = get_or ps 0 e }
around_last [] k d e h = absurd (omega arith)
around_last {X} (p ∷ ps) k d e h =
    let s : k ≡ length ps = omega arith in
    let step : X → Step X = λ n. record { from = get_or (p ∷ ps) k e; to = n } in
    steps_at p ps p k d e (omega arith) ∙ ap step (ap (λ n. get_or (ps ++ p ∷ []) n e) s ∙ last_at ps p e)

-- the step at k, where the next element is told
step_to : {X : Type 0} (ps : List X) (k : ℕ) (d : Step X) (e next : X) → k < length ps
    → (k + 1 < length ps → next ≡ get_or ps (k + 1) e) → (k + 1 ≡ length ps → next ≡ get_or ps 0 e)
    → get_or (around ps) k d ≡ record { from = get_or ps k e; to = next }
step_to {X} ps k d e next h inner last =
    let step : X → Step X = λ n. record { from = get_or ps k e; to = n } in
    elim (cases_lt (k + 1) (length ps)) [
      | inl a ↦ around_inner ps k d e a ∙ ap step (sym (inner a))
      | inr b ↦ let l : k + 1 ≡ length ps = omega arith in around_last ps k d e l ∙ ap step (sym (last l))
    ]

-- or its number
pub step_at : {X : Type 0} (ps : List X) (k next : ℕ) (d : Step X) (e : X) → k < length ps
    → (k + 1 < length ps → next ≡ k + 1) → (k + 1 ≡ length ps → next ≡ 0) → get_or (around ps) k d
    ≡ record { from = get_or ps k e; to = get_or ps next e }
step_at ps k next d e h inner last =
    step_to ps k d e (get_or ps next e) h (λ l. ap (λ n. get_or ps n e) (inner l))
    (λ l. ap (λ n. get_or ps n e) (last l))

from_at : {X : Type 0} (ps : List X) (k : ℕ) (d : Step X) (e : X) → k < length ps
    → (get_or (around ps) k d).from ≡ get_or ps k e
from_at [] k d e h = absurd (omega arith)
from_at {X} (p ∷ ps) k d e h = ap (λ (s : Step X). s.from) (steps_at p ps p k d e h)

length-last_first : {X : Type 0} (xs : List X) → length (last_first xs) ≡ length xs
length-last_first xs =
    omega (
      arith,
      length-append (drop (length xs - 1) xs) (take (length xs - 1) xs),
      length-drop
          (length xs - 1) xs,
      length-take (length xs - 1) xs,
    )

-- the last element at the front
first_is_last : {X : Type 0} (xs : List X) (e : X) → 0 < length xs → get_or (last_first xs) 0 e
    ≡ get_or xs (length xs - 1) e
first_is_last xs e h =
    let l : 0 < length (drop (length xs - 1) xs) = omega (arith, h, length-drop (length xs - 1) xs) in
    let z : length xs - 1 + 0 ≡ length xs - 1 = omega arith in
    get_or_append_left (drop (length xs - 1) xs) (take (length xs - 1) xs) e 0 l
    ∙ get_or-drop (length xs - 1) xs 0 e ∙ ap (λ n. get_or xs n e) z

-- and behind it the others
later_is_earlier : {X : Type 0} (xs : List X) (k : ℕ) (e : X) → k + 1 < length xs
    → get_or (last_first xs) (k + 1) e ≡ get_or xs k e
later_is_earlier xs k e h =
    let front = drop (length xs - 1) xs in
    let one : length front ≡ 1 = omega (arith, h, length-drop (length xs - 1) xs) in
    let z : k + 1 - 1 ≡ k = omega arith in
    get_or-append_right front (take (length xs - 1) xs) 1 (k + 1) e one (omega arith)
    ∙ ap (λ n. get_or (take (length xs - 1) xs) n e) z ∙ get_or-take (length xs - 1) xs k e (omega arith)

-- round the list from its last element, each step goes to the element of its number
step_back : {X : Type 0} (xs : List X) (k : ℕ) (d : Step X) (e : X) → k < length xs
    → get_or (around (last_first xs)) k d ≡ record { from = get_or (last_first xs) k e; to = get_or xs k e }
step_back xs k d e h =
    let ys = last_first xs in
    let n = length-last_first xs in
    step_to ys k d e (get_or xs k e) (omega (arith, h, n))
    (λ l. sym (later_is_earlier xs k e (omega (arith, l, n))))
    (λ l. ap (λ m. get_or xs m e) (omega (arith, l, n)) ∙ sym (first_is_last xs e (omega (arith, h))))

-- and it comes from the element before
before_at : {X : Type 0} (xs : List X) (k before : ℕ) (e : X) → k < length xs → (0 < k → before + 1 ≡ k)
    → (k ≡ 0 → before + 1 ≡ length xs) → get_or (last_first xs) k e ≡ get_or xs before e
before_at xs zero before e h later first = first_is_last xs e (omega (arith, h))
    ∙ ap (λ m. get_or xs m e) (omega (arith, first refl))
before_at xs (suc j) before e h later first =
    let next : suc j ≡ j + 1 = omega arith in
    let same : j ≡ before = omega (arith, later (omega arith)) in
    ap (λ m. get_or (last_first xs) m e) next ∙ later_is_earlier xs j e (omega (arith, h))
    ∙ ap (λ m. get_or xs m e) same

pub length-bends_of : (ps : List Point) → length (bends_of ps) ≡ length ps
length-bends_of ps = length-around (last_first (sides_of ps)) ∙ length-last_first (sides_of ps)
    ∙ length-around ps

-- at the vertex at k the side before it meets the side after it
pub bend_at : (ps : List Point) (k before : ℕ) (d : Step Side) (e : Side) → k < length ps
    → (0 < k → before + 1 ≡ k) → (k ≡ 0 → before + 1 ≡ length ps) → get_or (bends_of ps) k d
    ≡ record { from = get_or (sides_of ps) before e; to = get_or (sides_of ps) k e }
bend_at ps k before d e h later first =
    let n = length-around ps in
    step_back (sides_of ps) k d e (omega (arith, h, n))
    ∙ ap (λ (s : Side). record { from = s; to = get_or (sides_of ps) k e }) (before_at (sides_of ps) k
    before e (omega (arith, h, n)) later (λ z. omega (arith, first z, n)))

-- which both have that vertex
pub vertex_at : (ps : List Point) (k : ℕ) (d : Step Side) (e : Point) → k < length ps
    → (get_or (bends_of ps) k d).to.from ≡ get_or ps k e
vertex_at ps k d e h =
    let s : Side = record { from = e; to = e } in
    ap (λ (b : Step Side). b.to.from) (step_back (sides_of ps) k d s (omega (arith, h, length-around ps)))
    ∙ from_at ps k s e h
