use Rattle.std.proofs.Common.{◌≡◌, ℕ, ◌≤◌, get_or, length}
use Rattle.carton_place.proofs.Lists.{FirstHave}
use Rattle.carton_reach.specs.declared.reach.Reach.{Reach}
use Rattle.carton_reach.specs.Axes.{axis_at}
use Rattle.carton_reach.specs.Corners.{IsWidened}
use Rattle.carton_reach.proofs.reach.Reaches.widen.Given as goal

abbrev pub invariant-loop-a : goal.invariant-loop-a
invariant-loop-a g l = (length l.self.axes ≡ 13)
    × FirstHave (λ a r. (e : Reach)
    → IsWidened g.E.Enclose.holds g.E.Enclose.spread l.fn.at (axis_at a) (get_or l.initial.self.axes a e) r)
    l.self.axes l.a
    × ((a : ℕ) (d : Reach) → l.a ≤ a → get_or l.self.axes a d ≡ get_or l.initial.self.axes a d)
    × (length l.more ≡ 13)
