use Rattle.std.proofs.Common.{◌≡◌, drop}
use Rattle.carton_fixture_text.specs.FixtureTexts.{comes_after}
use Rattle.carton_fixture_text.proofs.fixture_lines.comes_after.Given as goal

abbrev pub invariant-loop-body : goal.invariant-loop-body
invariant-loop-body l = comes_after (drop l.body-index l.bodies) l.number ≡ comes_after l.bodies l.number
