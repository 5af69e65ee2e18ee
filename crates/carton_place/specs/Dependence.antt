-- Where a point stands after turns depends on the joints of these turns alone.
use Rattle.std.specs.Prelude.{⊤, ◌≡◌, ℕ, Option, None, Some, List, All}
use Rattle.carton_base.specs.declared.motion.Motion.{Motion}
use Rattle.carton_base.specs.declared.motion.Turn.{Turn}
use Rattle.carton_model.specs.Parting.{Position}
use Rattle.carton_model.specs.Moves.{stop_of, fold_at}
use Rattle.carton_model.specs.Turning.{placed}

-- both moves take the joint from the same stop to the same stop; a locked joint has none
abbrev pub AreAlikeAt : Motion → Motion → Option ℕ → Type 0
AreAlikeAt a b None = ⊤
AreAlikeAt a b (Some k) = (stop_of a.from k ≡ stop_of b.from k) × (stop_of a.to k ≡ stop_of b.to k)

-- two moves on one grid that are alike at the joints of the turns place each point alike, at every moment
abbrev pub DependsOnItsJoints : Type 0
DependsOnItsJoints = (a b : Motion) (turns : List Turn) → a.from.grid ≡ b.from.grid
    → All (λ t. AreAlikeAt a b t.place) turns
    → (n d : ℕ) (p : Position) → placed (fold_at a n d) turns p ≡ placed (fold_at b n d) turns p
