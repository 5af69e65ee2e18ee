-- Naming the edges of a team one after the other, as a loop does.
use Rattle.std.proofs.Common.{◌≡◌, List, [], ◌∷◌, ◌++◌, true, false, Result, Ok, Err, refl, sym, ◌∙◌}
use Rattle.std.specs.List.{list_any}
use Rattle.carton_base.specs.declared.ids.EdgeId.{EdgeId}
use Rattle.carton_lines.specs.declared.fault.Fault.{Fault}
use Rattle.carton_lines.specs.declared.fault.Fault.TheVariants.{Duplicate}
use Rattle.carton_text.specs.Jobs.{is_same, name_each}

-- the next edge is new
pub goes_on : (named edges : List EdgeId) (e : EdgeId) (rest : List EdgeId)
    (total : Result (List EdgeId) Fault) → edges ≡ e ∷ rest → list_any (λ d. is_same d e) named ≡ false
    → name_each named edges ≡ total → name_each (named ++ e ∷ []) rest ≡ total
unfolding name_each
goes_on named edges e rest total h new so_far =
    let one : name_each named edges ≡ name_each (named ++ e ∷ []) rest = rw (h, new) refl in
    sym one ∙ so_far

-- the next edge was named before
pub ends : (named edges : List EdgeId) (e : EdgeId) (rest : List EdgeId) (total : Result (List EdgeId) Fault)
    → edges ≡ e ∷ rest → list_any (λ d. is_same d e) named ≡ true
    → name_each named edges ≡ total → total ≡ Err Duplicate
unfolding name_each
ends named edges e rest total h old so_far =
    let one : name_each named edges ≡ Err Duplicate = rw (h, old) refl in
    sym so_far ∙ one

-- no edge is left
pub is_done : (named edges : List EdgeId) (total : Result (List EdgeId) Fault) → edges ≡ []
    → name_each named edges ≡ total → total ≡ Ok named
unfolding name_each
is_done named edges total h so_far =
    let one : name_each named edges ≡ Ok named = rw h refl in
    sym so_far ∙ one
