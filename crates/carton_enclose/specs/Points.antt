-- Points of three parts, and their products with directions.
use Rattle.std.specs.Prelude.{ℕ, List, [], ◌∷◌, ℤ, pos, ◌+ℤ◌, ◌*ℤ◌}
use Rattle.carton_base.specs.Directions.{IsSign}
use Rattle.carton_enclose.specs.Held.{Holding}
use Rattle.carton_enclose.specs.declared.space.Space.{Space}

-- three parts, each -1, 0 or 1
abbrev pub AreSigns : List ℤ → Type 0
AreSigns (a ∷ b ∷ c ∷ []) = IsSign a × IsSign b × IsSign c
AreSigns _ = ⊥

-- the product of a direction and the point (x/w, y/w, z/w), times w
abbrev pub dot : List ℤ → ℤ → ℤ → ℤ → ℤ
dot (a ∷ b ∷ c ∷ []) x y z = a *ℤ x +ℤ b *ℤ y +ℤ c *ℤ z
dot _ x y z = pos 0

-- the space holds the point (x/w, y/w, z/w) at the moment n/d
abbrev pub HoldsPoint : {E : Type 0} → Holding E → Space E → ℕ → ℕ → ℤ → ℤ → ℤ → ℕ → Type 0
HoldsPoint {E} holds p n d x y z w = holds p.x n d x w × holds p.y n d y w × holds p.z n d z w
