-- The list of directions has each direction, and nothing else.
use Rattle.std.proofs.Common.{ℕ, ◌<◌, List, [], ◌∷◌, get_or, refl, ℤ, pos, Contains}
use Rattle.carton_base.specs.Directions.{IsDirection}
use Rattle.carton_base.specs.declared.directions.TheConstants.{DIRECTIONS}
use Rattle.carton_base.proofs.DirectionTests.{each_direction, all_directions}

abbrev pub directions : List (List ℤ)
directions = DIRECTIONS

-- the parts of a listed direction
abbrev pub part : List ℤ → ℕ → ℤ
part l k = get_or l k (pos 0)

pub listed_direction : (k : ℕ) (d : List ℤ) → k < 26
    → IsDirection (part (get_or directions k d) 0) (part (get_or directions k d) 1) (part
    (get_or directions k d) 2)
listed_direction k d h = each_direction DIRECTIONS refl k d h

pub direction_stands : (u v t : ℤ) → IsDirection u v t → Contains directions (u ∷ v ∷ t ∷ [])
direction_stands u v t d = all_directions DIRECTIONS refl u v t d
