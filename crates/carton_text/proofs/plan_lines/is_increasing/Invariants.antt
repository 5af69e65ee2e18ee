use Rattle.std.proofs.Common.{◌≡◌, ◌-◌, ◌≤◌, drop}
use Rattle.carton_text.specs.Plans.{is_increasing}
use Rattle.carton_text.proofs.plan_lines.is_increasing.Given as goal

abbrev pub invariant-loop-place : goal.invariant-loop-place
invariant-loop-place l =
    (1 ≤ l.place) × (is_increasing (drop (l.place - 1) l.numbers) ≡ is_increasing l.numbers)
