-- What the swing of a joint has at the moments of a piece, and how close its bounds are.
use Rattle.std.specs.Prelude.{◌≡◌, ℕ, ◌+◌, ◌*◌, ◌≤◌, ◌^◌, Option, None, Some, List, All, pos, ◌-ℤ◌, ◌<ℤ◌}
use Rattle.std.specs.Prelude.{unsigned_abs}
use Rattle.carton_base.specs.declared.motion.Motion.{Motion}
use Rattle.carton_base.specs.declared.motion.Turn.{Turn}
use Rattle.carton_base.specs.declared.numbers.Bounds.{Bounds}
use Rattle.carton_base.specs.Rounding.{IsBetween}
use Rattle.carton_model.specs.Parting.{Position}
use Rattle.carton_base.specs.Moments.{IsMoment}
use Rattle.carton_model.specs.HalfTurns.{Fold}
use Rattle.carton_model.specs.Moves.{stop_of, fold_at}
use Rattle.carton_model.specs.Turning.{angle_of, fold_of}
use Rattle.carton_halfturn.specs.declared.spans.FoldSpan.{FoldSpan}
use Rattle.carton_halfturn.specs.Spans.{fold_num, fold_den}
use Rattle.carton_place.specs.declared.swings.Swing.{Swing}
use Rattle.carton_place.specs.Held.{HoldsSwing}

-- the fold of a span at the moment n / d
abbrev pub span_fold : FoldSpan → ℕ → ℕ → Fold
span_fold f n d = record { num = fold_num f n d; den = fold_den f d }

-- the part m / d of the piece from index / 2^depth on is the moment n / d of the move
abbrev pub IsPartAt : ℕ → ℕ → ℕ → ℕ → ℕ → Type 0
IsPartAt index depth m n d = m + index * d ≡ n * 2 ^ depth

-- at every moment of the piece the swing has the angle of the joint's fold
abbrev pub FollowsMove : Swing → Motion → Option ℕ → ℕ → ℕ → Type 0
FollowsMove s motion place index depth = (m n d : ℕ) → IsMoment m d → IsPartAt index depth m n d
    → HoldsSwing s m d (angle_of (fold_of (fold_at motion n d) place))

-- by how many stops a move changes the joint
abbrev pub change_of : Motion → Option ℕ → ℕ
change_of motion None = 0
change_of motion (Some k) = unsigned_abs (stop_of motion.to k -ℤ stop_of motion.from k)

-- the bounds of cosine and sine are within two units of twice the fold's change: so many parts of `den` in a
-- right angle
pub record IsClose (change den : ℕ) (s : Swing) : Type 0 where
  pub cos : unsigned_abs (s.cos.all.hi -ℤ s.cos.all.lo) * den ≤ 2 ^ 41 * change + 2 * den
  pub sin : unsigned_abs (s.sin.all.hi -ℤ s.sin.all.lo) * den ≤ 2 ^ 41 * change + 2 * den

-- the swing is that of a joint over a piece of the move
pub record IsSwingOver (motion : Motion) (place : Option ℕ) (index depth : ℕ) (s : Swing) : Type 0 where
  pub follows : FollowsMove s motion place index depth
  pub close : IsClose (change_of motion place) (motion.from.grid * 2 ^ depth) s

-- the move changes none of these joints by more stops than so many
abbrev pub ChangesWithin : ℕ → Motion → List Turn → Type 0
ChangesWithin most motion turns = All (λ t. change_of motion t.place ≤ most) turns

-- the position is flat, and its coordinates lie within x and y
pub record IsFlatWithin (x y : Bounds) (p : Position) : Type 0 where
  pub positive : pos 0 <ℤ p.w
  pub level : p.z ≡ pos 0
  pub along_x : IsBetween x.lo x.hi p.x (unsigned_abs p.w)
  pub along_y : IsBetween y.lo y.hi p.y (unsigned_abs p.w)
