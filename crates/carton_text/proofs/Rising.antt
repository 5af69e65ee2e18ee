-- Numbers each of which is less than the next.
use Rattle.std.proofs.Common.{◌≡◌, ◌≤◌, ◌<◌, ℤ, pos, List, [], ◌∷◌, length, map, true, zero, suc, refl, arith}
use Rattle.std.proofs.Common.{int_lt}
use Rattle.std.specs.Prelude.{AllPairs, ⊤}
use Rattle.std.specs.List.{AllByRecursion}
use Rattle.std.proofs.lemmas.Bool.{ltb-true, lt-ltb, and_parts, and_from}
use Rattle.std.proofs.lemmas.List.Elements.{All-from_recursion, recursion_from_All}
use Rattle.carton_base.specs.declared.ids.EdgeId.{EdgeId}
use Rattle.carton_text.specs.Plans.{is_increasing}

pub short_increasing : (zs : List ℤ) → length zs ≤ 1 → is_increasing zs ≡ true
short_increasing [] h = refl
short_increasing (z ∷ []) h = refl
short_increasing (y ∷ z ∷ zs) h = absurd (omega arith)

abbrev Before : EdgeId → EdgeId → Type 0
Before d e = d.0 < e.0

abbrev pub numbers_of : List EdgeId → List ℤ
numbers_of es = map (λ e. pos e.0) es

after_all : (d e : EdgeId) (es : List EdgeId) → Before d e → AllByRecursion (Before e) es
    → AllByRecursion (Before d) es
after_all d e [] lt h = tt
after_all d e (f ∷ es) lt h = (omega (arith, h.0), after_all d e es lt h.1)

-- each is less than all that come after it
abbrev Rising : List EdgeId → Type 0
Rising [] = ⊤
Rising (e ∷ es) = AllByRecursion (Before e) es × Rising es

rising : (es : List EdgeId) → is_increasing (numbers_of es) ≡ true → Rising es
rising [] h = tt
rising (e ∷ []) h = (tt, tt)
rising (d ∷ e ∷ es) h =
    let p = and_parts (int_lt (pos d.0) (pos e.0)) (is_increasing (numbers_of (e ∷ es))) h in
    let rest = rising (e ∷ es) p.1 in
    let lt : d.0 < e.0 = ltb-true d.0 e.0 p.0 in
    ((lt, after_all d e es lt rest.0), rest)

increasing : (es : List EdgeId) → Rising es → is_increasing (numbers_of es) ≡ true
increasing [] h = refl
increasing (e ∷ []) h = refl
increasing (d ∷ e ∷ es) h = and_from (int_lt (pos d.0) (pos e.0)) (is_increasing (numbers_of (e ∷ es)))
    (lt-ltb d.0 e.0 h.0.0) (increasing (e ∷ es) h.1)

pairs_from_rising : (es : List EdgeId) → Rising es → AllPairs Before es
pairs_from_rising [] h i j d lt less = absurd (omega arith)
pairs_from_rising (e ∷ es) h zero zero d lt less = absurd (omega arith)
pairs_from_rising (e ∷ es) h zero (suc j) d lt less = All-from_recursion (Before e) es h.0 j d (omega arith)
pairs_from_rising (e ∷ es) h (suc i) zero d lt less = absurd (omega arith)
pairs_from_rising (e ∷ es) h (suc i) (suc j) d lt less =
    pairs_from_rising es h.1 i j d (omega arith) (omega arith)

rising_from_pairs : (es : List EdgeId) → AllPairs Before es → Rising es
rising_from_pairs [] h = tt
rising_from_pairs (e ∷ es) h = (
  recursion_from_All (Before e) es (λ k d lt. h 0 (suc k) d (omega arith) (omega arith)),
  rising_from_pairs es (λ i j d lt less. h (suc i) (suc j) d (omega arith) (omega arith)),
)

pub all_rising : (es : List EdgeId) → is_increasing (numbers_of es) ≡ true → AllPairs (λ d e. d.0 < e.0) es
all_rising es h = pairs_from_rising es (rising es h)

pub told_rising : (es : List EdgeId) → AllPairs (λ d e. d.0 < e.0) es → is_increasing (numbers_of es) ≡ true
told_rising es h = increasing es (rising_from_pairs es h)
