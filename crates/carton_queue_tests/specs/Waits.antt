-- What the tests ask of a queue on the way.
use Rattle.std.specs.Prelude.{◌≡◌, ℕ, ◌<◌, Some}
use Rattle.carton_queue.specs.Waits.{Waiting, priority_of}

-- each node below this number waits
abbrev pub AllWait : ℕ → Waiting → Type 0
AllWait nodes q = (n : ℕ) → n < nodes → (p : ℕ) × (priority_of q n ≡ Some p)
