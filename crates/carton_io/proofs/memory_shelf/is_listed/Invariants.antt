use Rattle.std.proofs.Common.{◌≡◌, ℕ, ◌<◌, get_or}
use Rattle.carton_io.proofs.memory_shelf.is_listed.Given as goal

abbrev pub invariant-loop-listed : goal.invariant-loop-listed
invariant-loop-listed l = (k : ℕ) → k < l.listed-index → get_or l.numbers k 0 ≡ l.number → ⊥
