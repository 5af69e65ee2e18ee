-- What a look at a piece of a move tells of probes and chosen bodies.
use Rattle.std.specs.Prelude.{ℕ, List, All, Any, Bool, ℤ}
use Rattle.carton_base.specs.declared.bodies.Cuboid.{Cuboid}
use Rattle.carton_base.specs.declared.dieline.Point.{Point}
use Rattle.carton_base.specs.declared.motion.Motion.{Motion}
use Rattle.carton_base.specs.declared.motion.Turn.{Turn}
use Rattle.carton_bodies.specs.Spots.{flat_point}
use Rattle.carton_guide.specs.Holding.{IsInSome, IsDeepInNone}

-- at the moment n / d of the move some probe lies in some chosen body
abbrev pub IsSomeIn : Motion → List Turn → List Point → List ℤ → List Cuboid → List Bool → ℕ → ℕ → ℕ → Type 0
IsSomeIn motion turns probes stroke bodies chosen i n d =
    Any (λ p. IsInSome stroke bodies chosen i n d (flat_point motion turns n d p)) probes

-- and none of them is deeper than the gap in one
abbrev pub AreNoneDeep : Motion → List Turn → List Point → ℤ → List ℤ → List Cuboid → List Bool → ℕ → ℕ → ℕ
    → Type 0
AreNoneDeep motion turns probes gap stroke bodies chosen i n d =
    All (λ p. IsDeepInNone gap stroke bodies chosen i n d (flat_point motion turns n d p)) probes
