use Rattle.std.proofs.Common.{◌≡◌, ℕ, ◌<◌, length, get_or, IsTrue, ◌↔◌, Bool, List}
use Rattle.carton_part.specs.Closing.{is_open}
use Rattle.carton_part.specs.Parted.{AreStrangers}
use Rattle.carton_part.proofs.closing.all_strangers.Given as goal

abbrev pub invariant-loop-a : goal.invariant-loop-a
invariant-loop-a l =
    (length l.rows ≡ 24) × ((a : ℕ) (d : List Bool) → a < l.a → (length (get_or l.rows a d) ≡ 24)
    × ((b : ℕ) → IsTrue (is_open (get_or l.rows a d) b) ↔ AreStrangers l.carton a b))
