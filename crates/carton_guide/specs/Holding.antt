-- When chosen bodies in motion hold a flap.
use Rattle.std.specs.Prelude.{◌≡◌, ℕ, List, slice_get, All, Any, Bool, true, Some, ℤ, pos}
use Rattle.carton_base.specs.declared.bodies.Cuboid.{Cuboid}
use Rattle.carton_base.specs.declared.dieline.Point.{Point}
use Rattle.carton_model.specs.HalfTurns.{Fold}
use Rattle.carton_model.specs.Parting.{Position}
use Rattle.carton_model.specs.Turning.{placed}
use Rattle.carton_tree.specs.Trees.{Tree, turns_between}
use Rattle.carton_part.specs.Points.{IsPointOf, flat_at}
use Rattle.carton_bodies.specs.Bodies.{IsInBody, IsDeeper}
use Rattle.carton_bodies.specs.Boxes.{faces}

-- body k of the list, and it is chosen
pub record IsChosen (bodies : List Cuboid) (chosen : List Bool) (k : ℕ) (body : Cuboid) : Type 0 where
  pub at : slice_get bodies k ≡ Some body
  pub marked : slice_get chosen k ≡ Some true

-- at the moment n / d of move i the position lies in some chosen body
abbrev pub IsInSome : List ℤ → List Cuboid → List Bool → ℕ → ℕ → ℕ → Position → Type 0
IsInSome stroke bodies chosen i n d q = (k : ℕ) × (body : Cuboid) × IsChosen bodies chosen k body
    × IsInBody (faces body) stroke i n d q

-- at that moment it is deeper than the gap in some of them
abbrev pub IsDeepInSome : ℤ → List ℤ → List Cuboid → List Bool → ℕ → ℕ → ℕ → Position → Type 0
IsDeepInSome gap stroke bodies chosen i n d q = (k : ℕ) × (body : Cuboid) × IsChosen bodies chosen k body
    × IsDeeper gap (faces body) stroke i n d q

-- and in none of them
abbrev pub IsDeepInNone : ℤ → List ℤ → List Cuboid → List Bool → ℕ → ℕ → ℕ → Position → Type 0
IsDeepInNone gap stroke bodies chosen i n d q = (k : ℕ) (body : Cuboid) → IsChosen bodies chosen k body
    → ¬ (IsDeeper gap (faces body) stroke i n d q)

-- where the free joints stand at these folds, a point of the shrunk flap lies in some chosen body at the
-- moment n / d of move i
abbrev pub IsHeldAt : Tree → (ℕ → Fold) → ℕ → List ℤ → List Cuboid → List Bool → ℕ → ℕ → ℕ → Type 0
IsHeldAt t folds flap stroke bodies chosen i n d = (q : Position) × IsPointOf t folds flap t.root q
    × IsInSome stroke bodies chosen i n d q

-- where these folds take a flat point of the panel in the world
abbrev pub world_place : Tree → (ℕ → Fold) → ℕ → Point → Position
world_place t folds panel p = placed folds (turns_between t panel t.root) (flat_at p.x p.y (pos 1))

-- none of these points of the flap is deeper than the gap in a chosen body
abbrev pub AreLoose : Tree → (ℕ → Fold) → ℕ → List Point → ℤ → List ℤ → List Cuboid → List Bool → ℕ → ℕ → ℕ
    → Type 0
AreLoose t folds flap probes gap stroke bodies chosen i n d =
    All (λ p. IsDeepInNone gap stroke bodies chosen i n d (world_place t folds flap p)) probes

-- some of these points is
abbrev pub IsOneDeep : Tree → (ℕ → Fold) → ℕ → List Point → ℤ → List ℤ → List Cuboid → List Bool → ℕ → ℕ → ℕ
    → Type 0
IsOneDeep t folds flap probes gap stroke bodies chosen i n d =
    Any (λ p. IsDeepInSome gap stroke bodies chosen i n d (world_place t folds flap p)) probes
