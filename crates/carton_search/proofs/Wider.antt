-- A path of some steps is one of wider steps.
use Rattle.std.proofs.Common.{◌≡◌, ◌+◌, List, [], ◌∷◌, length, arith}
use Rattle.carton_base.specs.declared.motion.State.{State}
use Rattle.carton_search.specs.Paths.{Follows, IsPath, moves_of}

module _ (C G : State → State → Type 0) (wider : (a b : State) → C a b → G a b) where
  follows_wider : (a : State) (rest : List State) → Follows C a rest → Follows G a rest
  follows_wider a [] h = tt
  follows_wider a (b ∷ rest) h = (wider a b h.0, follows_wider b rest h.1)

  pub path_wider : (a b : State) (p : List State) → IsPath C a b p → IsPath G a b p
  path_wider a b [] h = h
  path_wider a b (s ∷ rest) h = (h.0, follows_wider a rest h.1, h.2)

-- a path has one state more than moves
pub path_long : (R : State → State → Type 0) (a b : State) (p : List State) → IsPath R a b p
    → moves_of p + 1 ≡ length p
path_long R a b [] h = absurd h
path_long R a b (s ∷ rest) h = omega arith
