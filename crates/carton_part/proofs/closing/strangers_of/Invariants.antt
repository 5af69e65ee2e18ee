use Rattle.std.proofs.Common.{◌≡◌, ℕ, ◌<◌, ◌≤◌, length, IsTrue, ◌↔◌, false}
use Rattle.carton_part.specs.Closing.{is_open}
use Rattle.carton_part.specs.Parted.{AreStrangers}
use Rattle.carton_part.proofs.closing.strangers_of.Given as goal

abbrev pub invariant-loop-b : goal.invariant-loop-b
invariant-loop-b l =
    (length l.row ≡ 24) × ((b : ℕ) → b < l.b → IsTrue (is_open l.row b) ↔ AreStrangers l.carton l.a.0 b)
    × ((b : ℕ) → l.b ≤ b → is_open l.row b ≡ false)
