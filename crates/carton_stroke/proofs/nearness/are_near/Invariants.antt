use Rattle.std.proofs.Common.{ℕ, ◌<◌, ◌≤◌, get_or, length}
use Rattle.carton_reach.specs.declared.reach.Reach.{Reach}
use Rattle.carton_bodies.specs.declared.extent.Extent.{Extent}
use Rattle.carton_stroke.specs.Nearness.{IsNear}
use Rattle.carton_stroke.proofs.nearness.are_near.Given as goal

abbrev pub invariant-loop-a : goal.invariant-loop-a
invariant-loop-a l = (13 ≤ length l.panel.axes) × (13 ≤ length l.body.axes)
    × ((a : ℕ) (d : Reach) (e : Extent) → a < l.a
    → IsNear l.room (get_or l.panel.axes a d) (get_or l.body.axes a e))
