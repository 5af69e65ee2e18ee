-- Lists of JSON values.
use Rattle.std.proofs.Common.{◌≡◌, ℕ, ◌≤◌, ltb, List, [], ◌∷◌, length, Ok, refl, sym, ap, ok_or}
use Rattle.std.proofs.lemmas.Bool.{ltb-false}
use Rattle.serde_json.specs.Data.{Data}
use Rattle.serde_json.specs.View.{items_of}
use Rattle.carton_base.specs.Steps.{refuse_if}
use Rattle.carton_base.proofs.Steps.{both, not_refused}
use Rattle.carton_fold.specs.declared.error.Key.{Key}
use Rattle.carton_fold.specs.declared.error.FoldError.TheVariants.{BadShape, TooMany}
use Rattle.carton_fold.specs.Values.{elements, list_in, list_at}

pub elements-items_of : (ds : List Data) → elements (items_of ds) ≡ ds
elements-items_of [] = refl
elements-items_of (d ∷ ds) = ap (λ (es : List Data). d ∷ es) (elements-items_of ds)

-- a list that was accepted has at most so many entries
pub few_at : (key : Key) (most : ℕ) (d : Data) (list : List Data) → list_at key most d ≡ Ok list
    → length list ≤ most
unfolding list_at
few_at key most d list h =
    let a = both (ok_or (list_in d) (BadShape key)) _ list h in
    let b = both (refuse_if (ltb most (length a.0)) (TooMany key)) _ list a.2 in
    let few = ltb-false most (length a.0) (not_refused _ _ b.0 b.1) in
    let same : a.0 ≡ list = cc in
    rw (sym same) few
