-- The folds of a span are those of a joint.
use Rattle.std.specs.Prelude.{◌≡◌, ℕ, ◌+◌, ◌*◌, ◌^◌, ℤ, pos, ◌*ℤ◌, unsigned_abs}
use Rattle.carton_model.specs.HalfTurns.{Fold, stop_fold, joint_fold}
use Rattle.carton_halfturn.specs.declared.spans.FoldSpan.{FoldSpan}
use Rattle.carton_halfturn.specs.Spans.{fold_num, fold_den}

-- n / d is the fold, written in k times finer parts
pub record IsFiner (k : ℕ) (fold : Fold) (n : ℤ) (d : ℕ) : Type 0 where
  pub num : n ≡ fold.num *ℤ pos k
  pub den : d ≡ fold.den * k

-- over the piece of a move, from index / 2^depth on, the span has the folds of a joint that goes from the
-- stop s to the stop t:
-- at the part m / d of the piece, which is the moment n / d of the move
abbrev pub FollowsJoint : FoldSpan → ℤ → ℤ → ℕ → ℕ → ℕ → Type 0
FollowsJoint f s t grid index depth = (m n d : ℕ) → m + index * d ≡ n * 2 ^ depth
    → IsFiner (2 ^ depth) (joint_fold s t grid n d) (fold_num f m d) (fold_den f d)

-- the first piece begins at the fold of the first stop, and the last piece ends at that of the last
abbrev pub LeavesStop : FoldSpan → ℤ → ℕ → ℕ → ℕ → Type 0
LeavesStop f s grid index depth =
    index ≡ 0 → IsFiner (2 ^ depth) (stop_fold s grid) f.from (unsigned_abs f.den)

abbrev pub ReachesStop : FoldSpan → ℤ → ℕ → ℕ → ℕ → Type 0
ReachesStop f t grid index depth = index + 1 ≡ 2 ^ depth
    → IsFiner (2 ^ depth) (stop_fold t grid) f.to (unsigned_abs f.den)
