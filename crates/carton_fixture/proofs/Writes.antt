-- Reading a list after a write, and fewer chosen ones.
use Rattle.std.proofs.Common.{◌≡◌, ◌≢◌, ℕ, zero, suc, ◌<◌, Bool, true, false, eqb, List, [], ◌∷◌, length}
use Rattle.std.proofs.Common.{slice_get, slice_set, Some, refl, sym, ap, ◌∙◌, arith}
use Rattle.std.proofs.lemmas.Bool.{eqb-true, eqb-false}
use Rattle.std.proofs.Math.ListN.{length-set}
use Rattle.std.proofs.lemmas.Option.{slice_get_within}
use Rattle.carton_fixture.specs.Steps.{AreFewer}

pub get_same : {X : Type 0} (xs : List X) (k : ℕ) (v : X) → k < length xs → slice_get (slice_set xs k v) k
    ≡ Some v
get_same [] k v lt = absurd (omega arith)
get_same (x ∷ xs) zero v lt = refl
get_same (x ∷ xs) (suc k) v lt = get_same xs k v (omega arith)

pub get_other : {X : Type 0} (xs : List X) (k : ℕ) (v : X) (j : ℕ) → j ≢ k → slice_get (slice_set xs k v) j
    ≡ slice_get xs j
get_other [] k v j n = refl
get_other (x ∷ xs) zero v zero n = absurd (n refl)
get_other (x ∷ xs) zero v (suc j) n = refl
get_other (x ∷ xs) (suc k) v zero n = refl
get_other (x ∷ xs) (suc k) v (suc j) n = get_other xs k v j (λ e. n (ap suc e))

pub set_set : {X : Type 0} (xs : List X) (k : ℕ) (v w : X) → slice_set (slice_set xs k v) k w
    ≡ slice_set xs k w
set_set [] k v w = refl
set_set (x ∷ xs) zero v w = refl
set_set {X} (x ∷ xs) (suc k) v w = ap (λ (ys : List X). x ∷ ys) (set_set xs k v w)

pub set_found : {X : Type 0} (xs : List X) (k : ℕ) (v : X) → slice_get xs k ≡ Some v → slice_set xs k v ≡ xs
set_found [] k v h = refl
set_found {X} (x ∷ xs) zero v h = let e : x ≡ v = cc in ap (λ (y : X). y ∷ xs) (sym e)
set_found {X} (x ∷ xs) (suc k) v h = ap (λ (ys : List X). x ∷ ys) (set_found xs k v h)

-- what was chosen after one was left out isn't that one, and was chosen before
pub left : (xs : List Bool) (k j : ℕ) → slice_get (slice_set xs k false) j ≡ Some true → (j ≢ k)
    × (slice_get xs j ≡ Some true)
left xs k j h = by_place (eqb j k) refl
  where
    by_place : (b : Bool) → eqb j k ≡ b → (j ≢ k) × (slice_get xs j ≡ Some true)
    by_place true t =
        let e = eqb-true j k t in
        let w = slice_get_within (slice_set xs k false) j true h in
        let n : k < length xs = omega (arith, w, e, length-set {A = Bool}) in
        let same = get_same xs k false n in
        let here : slice_get (slice_set xs k false) k ≡ Some true =
        ap (slice_get (slice_set xs k false)) (sym e) ∙ h in
        cc
    by_place false t =
        let n = eqb-false j k t in
        (n, sym (get_other xs k false j n) ∙ h)

pub fewer_set : (xs : List Bool) (k : ℕ) → AreFewer (slice_set xs k false) xs
fewer_set xs k = λ j h. (left xs k j h).1

pub set_fewer : (xs ys : List Bool) (k : ℕ) → AreFewer xs ys
    → AreFewer (slice_set xs k false) (slice_set ys k false)
set_fewer xs ys k fewer = λ j h. let l = left xs k j h in get_other ys k false j l.0 ∙ fewer j l.1
