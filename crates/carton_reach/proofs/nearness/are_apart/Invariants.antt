use Rattle.std.proofs.Common.{◌≡◌, ℕ, ◌<◌, ◌⊎◌, get_or, length}
use Rattle.carton_reach.specs.declared.reach.Reach.{Reach}
use Rattle.carton_reach.specs.Reaches.{IsApart}
use Rattle.carton_reach.proofs.nearness.are_apart.Given as goal

abbrev pub invariant-loop-a : goal.invariant-loop-a
invariant-loop-a l = (length l.p.axes ≡ 13) × (length l.q.axes ≡ 13)
    × ((a : ℕ) (d : Reach) → a < l.a → a < 13 → ¬ (IsApart l.room (get_or l.p.axes a d) (get_or l.q.axes a d)
    ⊎ IsApart l.room (get_or l.q.axes a d) (get_or l.p.axes a d)))
