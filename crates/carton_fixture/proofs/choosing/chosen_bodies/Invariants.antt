use Rattle.std.proofs.Common.{◌≤◌, length, vec_len, vec_capacity}
use Rattle.carton_fixture.specs.Steps.{AreFirst}
use Rattle.carton_fixture.proofs.choosing.chosen_bodies.Given as goal

abbrev pub invariant-loop-k : goal.invariant-loop-k
invariant-loop-k l = record {
  first : AreFirst l.candidates l.chosen l.k l.bodies.items;
  short : vec_len l.bodies ≤ l.k;
  room : length l.candidates ≤ vec_capacity l.bodies;
}
