use Rattle.std.proofs.Common.{ℕ, ◌<◌, get_or, ◌≤ℤ◌, pos}
use Rattle.carton_panels.specs.Panels.{Side, sides_of}
use Rattle.carton_panels.specs.Insets.{inset}
use Rattle.carton_panels.proofs.inset.Inset.keeps_all.Given as goal

abbrev pub invariant-loop-k : goal.invariant-loop-k
invariant-loop-k l = (j : ℕ) (d : Side) → j < l.k
    → pos 0 ≤ℤ inset l.self.margin (get_or (sides_of l.self.places.now) j d) l.t.x l.t.y l.t.w
