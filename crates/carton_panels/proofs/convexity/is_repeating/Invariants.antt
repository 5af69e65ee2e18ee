use Rattle.std.proofs.Common.{◌≡◌, ℕ, ◌<◌, get_or}
use Rattle.carton_panels.specs.Panels.{origin}
use Rattle.carton_panels.proofs.convexity.is_repeating.Given as goal

abbrev pub invariant-loop-j : goal.invariant-loop-j
invariant-loop-j l = (j : ℕ) → j < l.j → (i : ℕ) → i < j
    → ¬ (get_or l.places i origin ≡ get_or l.places j origin)
