use Rattle.std.proofs.Common.{◌≡◌, ◌++◌, take, drop}
use Rattle.carton_fixture.specs.Answers.{clear_ones}
use Rattle.carton_fixture.proofs.choosing.choose_clear.Given as goal

abbrev pub invariant-loop-k : goal.invariant-loop-k
invariant-loop-k l = l.chosen ≡ take l.k (clear_ones l.notes) ++ drop l.k l.initial.chosen
