-- The items of a list that a loop goes over.
use Rattle.std.proofs.Common.{◌≡◌, ℕ, ◌+◌, ◌≤◌, ◌<◌, List, [], ◌∷◌, refl, length, drop, get_or, drop-cons}
use Rattle.std.proofs.Common.{add-one, map, suc, ap, sym}
use Rattle.std.proofs.lemmas.List.{drop_all}

-- the items from the i-th on begin with the i-th, at any default, where items are copied
pub next_copy : {X Y : Type 0} (view : Y → X) (list : List Y) (i : ℕ) (default : Y) → i < length list
    → map view (drop i list) ≡ view (get_or list i default) ∷ map view (drop (i + 1) list)
next_copy view list i default lt = rw (add-one, drop-cons list i default) refl

pub first_left : {X : Type 0} (list : List X) (i : ℕ) (default : X) → i < length list
    → drop i list ≡ get_or list i default ∷ drop (i + 1) list
first_left list i default lt = rw (add-one, drop-cons list i default) refl

pub none_left : {X : Type 0} (list : List X) (i : ℕ) → length list ≤ i → drop i list ≡ []
none_left list i le = drop_all i list le

-- the items from the i-th on begin with the i-th
pub next_item : {X : Type 0} (list : List X) (i : ℕ) (x : X) → i < length list → x ≡ get_or list i x
    → drop i list ≡ x ∷ drop (i + 1) list
next_item {X} list i x lt is =
    rw (add-one, drop-cons list i x) (ap (λ (y : X). y ∷ drop (suc i) list) (sym is))
