use Rattle.std.proofs.Common.{ℕ, ◌<◌, pos}
use Rattle.carton_part.specs.Parted.{AtEachMoment}
use Rattle.carton_stroke.specs.Steps.{IsPartedAt}
use Rattle.carton_stroke.proofs.passing.first_touch.Given as goal

abbrev pub invariant-loop-p : goal.invariant-loop-p
invariant-loop-p l = (p : ℕ) → p < l.p → AtEachMoment (IsPartedAt l.carton l.motion p l.body (pos 0))
