-- What looks at the bodies one by one tell of them all, and looks at the probes.
use Rattle.std.proofs.Common.{◌≡◌, ◌∙◌, sym, subst, inl, inr, ℕ, ◌+◌, ◌<◌, ◌≤◌, List, length, get_or}
use Rattle.std.proofs.Common.{slice_get, Bool, true, false, Some, ℤ, arith}
use Rattle.std.proofs.lemmas.Bool.{cases_lt, false≢true}
use Rattle.std.proofs.lemmas.Option.{slice_get_within, get_or_from_slice_get}
use Rattle.carton_base.specs.declared.bodies.Cuboid.{Cuboid}
use Rattle.carton_bodies.specs.Bodies.{IsDeeper}
use Rattle.carton_bodies.specs.Boxes.{faces}
use Rattle.carton_bodies.specs.declared.spot.Spot.{Spot}
use Rattle.carton_bodies.specs.Depths.{ForEach}
use Rattle.carton_guide.specs.Holding.{IsChosen, IsDeepInNone}

-- none of the first chosen bodies has the spot deeper than the gap
abbrev pub IsShallowBelow : ℕ → ℤ → List ℤ → List Cuboid → List Bool → ℕ → Spot → ℕ → ℕ → Type 0
IsShallowBelow k gap stroke bodies chosen i spot index depth = (j : ℕ) (body : Cuboid) → j < k
    → IsChosen bodies chosen j body
    → ForEach spot index depth (λ n d q. ¬ (IsDeeper gap (faces body) stroke i n d q))

-- one body more that is chosen
pub shallow_more : (k : ℕ) (gap : ℤ) (stroke : List ℤ) (bodies : List Cuboid) (chosen : List Bool) (i : ℕ)
    (spot : Spot) (index depth : ℕ) (e : Cuboid)
    → IsShallowBelow k gap stroke bodies chosen i spot index depth
    → ForEach spot index depth (λ n d q. ¬ (IsDeeper gap (faces (get_or bodies k e)) stroke i n d q))
    → IsShallowBelow (k + 1) gap stroke bodies chosen i spot index depth
shallow_more k gap stroke bodies chosen i spot index depth e below here j body lt ch = elim (cases_lt j k) [
  | inl l ↦ below j body l ch
  | inr ge ↦
      let same : j ≡ k = omega (arith, lt, ge) in
      let is : get_or bodies k e ≡ body =
      get_or_from_slice_get bodies k body e (subst (λ j. slice_get bodies j ≡ Some body) same ch.at) in
      subst (λ b. ForEach spot index depth (λ n d q. ¬ (IsDeeper gap (faces b) stroke i n d q))) is here
]

-- one body more that isn't
pub unchosen_more : (k : ℕ) (gap : ℤ) (stroke : List ℤ) (bodies : List Cuboid) (chosen : List Bool) (i : ℕ)
    (spot : Spot) (index depth : ℕ) (e : Bool) → IsShallowBelow k gap stroke bodies chosen i spot index depth
    → get_or chosen k e ≡ false → IsShallowBelow (k + 1) gap stroke bodies chosen i spot index depth
unchosen_more k gap stroke bodies chosen i spot index depth e below not j body lt ch = elim (cases_lt j k) [
  | inl l ↦ below j body l ch
  | inr ge ↦
      let same : j ≡ k = omega (arith, lt, ge) in
      let is : get_or chosen k e ≡ true =
      get_or_from_slice_get chosen k true e
      (subst (λ j. slice_get chosen j ≡ Some true) same ch.marked) in
      absurd (false≢true (sym not ∙ is))
]

-- no body is left
pub shallow_all : (k : ℕ) (gap : ℤ) (stroke : List ℤ) (bodies : List Cuboid) (chosen : List Bool) (i : ℕ)
    (spot : Spot) (index depth : ℕ) → length bodies ≤ k
    → IsShallowBelow k gap stroke bodies chosen i spot index depth
    → ForEach spot index depth (IsDeepInNone gap stroke bodies chosen i)
shallow_all k gap stroke bodies chosen i spot index depth all below n d m ip q at j body ch =
    let w = slice_get_within bodies j body ch.at in
    below j body (omega (arith, w, all)) ch n d m ip q at
