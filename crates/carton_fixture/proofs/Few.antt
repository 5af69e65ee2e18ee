-- There are few bodies of rising numbers.
use Rattle.std.proofs.Common.{ℕ, zero, suc, ◌<◌, ◌≤◌, List, length, get_or, AllPairs, arith, inl, inr, pos}
use Rattle.std.proofs.lemmas.Bool.{cases_lt}
use Rattle.carton_fixture_text.specs.declared.fixture.Fixture.{Fixture}
use Rattle.carton_fixture_text.specs.declared.fixture.FixtureBody.{FixtureBody}
use Rattle.carton_fixture_text.specs.FixtureRules.{IsFixture}

at_least : (bodies : List FixtureBody) (d : FixtureBody) → AllPairs (λ a b. a.id < b.id) bodies → (k : ℕ)
    → k < length bodies → k ≤ (get_or bodies k d).id
at_least bodies d rising zero lt = omega arith
at_least bodies d rising (suc k) lt =
    let before = at_least bodies d rising k (omega arith) in
    let less = rising k (suc k) d (omega arith) lt in
    omega arith

pub few_bodies : (f : Fixture) → IsFixture f → length f.bodies ≤ 256
few_bodies f is = elim (cases_lt 256 (length f.bodies)) [
  | inl lt ↦
      let d : FixtureBody = record {
        id = 0;
        shape = record {
          x0 = pos 0;
          x1 = pos 0;
          y0 = pos 0;
          y1 = pos 0;
          z0 = pos 0;
          z1 = pos 0;
        };
      } in
      let low = at_least f.bodies d is.rising 256 lt in
      let high = (is.each 256 d lt).id in
      absurd (omega (arith, low, high))
  | inr ge ↦ ge
]
