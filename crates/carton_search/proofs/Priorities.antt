-- Priorities that are too great, and those that aren't.
use Rattle.std.proofs.Common.{◌≡◌, ℕ, ◌<◌, ◌≤◌, true, false, Some, None, nat_lt, arith}
use Rattle.std.proofs.lemmas.Bool.Decides.{nat_tests}
use Rattle.carton_search.specs.Knowledge.{queued_at}

pub few_queued : (p : ℕ) → p ≤ 4095 → Some p ≡ queued_at p
few_queued p few = grind (arith, nat_tests)

pub many_queued : (p : ℕ) → 4095 < p → None ≡ queued_at p
many_queued p many = grind (arith, nat_tests)

-- what a test of two numbers tells
pub under : (a b : ℕ) → nat_lt a b ≡ true → a < b
under a b t = grind (arith, nat_tests)

pub over : (a b : ℕ) → nat_lt a b ≡ false → b ≤ a
over a b t = grind (arith, nat_tests)

pub below : (a b : ℕ) → a < b → nat_lt a b ≡ true
below a b l = grind (arith, nat_tests)
