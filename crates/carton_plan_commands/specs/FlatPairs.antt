-- The pairs of panels that were judged so far.
use Rattle.std.specs.Prelude.{◌≡◌, ℕ, ◌+◌, ◌*◌, ◌≤◌, List, length, All, AllPairs, Contains}
use Rattle.carton_base.specs.declared.dieline.RawDieline.{RawDieline}
use Rattle.carton_plan_commands.specs.Flat.{AreJudged, AreParted, IsBefore}
use Rattle.carton_plan_commands.specs.declared.flat.Row.{Row}
use Rattle.carton_plan_commands.specs.declared.flat.Row.TheVariants.{Parted, Unparted}

-- so many pairs before the pair (a, b) share no crease, and all of them are parted
pub record IsJudgedSoFar (m : ℕ) (d : RawDieline) (a b count : ℕ) : Type 0 where
  pub pairs : List (ℕ × ℕ)
  pub ordered : AllPairs IsBefore pairs
  pub judged : All (λ p. AreJudged d p.0 p.1) pairs
  pub early : All (λ p. IsBefore p (a, b)) pairs
  pub whole : (k l : ℕ) → IsBefore (k, l) (a, b) → AreJudged d k l → Contains pairs (k, l)
  pub parted : (k l : ℕ) → IsBefore (k, l) (a, b) → AreJudged d k l → AreParted m d k l
  pub count_is : count ≡ length pairs
  pub bound : count ≤ 24 * a + b

-- panel a was judged against the panels after it: all are parted, and so many pairs were judged so far; or
-- the first that isn't
abbrev pub IsRow : ℕ → RawDieline → ℕ → Row → Type 0
IsRow m d a (Parted count) = IsJudgedSoFar m d a (length d.faces) count
IsRow m d a (Unparted b) = AreJudged d a b.0 × ¬ (AreParted m d a b.0)
    × ((k l : ℕ) → IsBefore (k, l) (a, b.0) → AreJudged d k l → AreParted m d k l)
