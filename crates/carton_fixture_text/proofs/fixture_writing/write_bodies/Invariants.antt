use Rattle.std.proofs.Common.{◌≡◌, ◌++◌, take, flat_map, string_bytes}
use Rattle.carton_fixture_text.specs.FixtureTexts.{body_line}
use Rattle.carton_fixture_text.proofs.fixture_writing.write_bodies.Given as goal

abbrev pub invariant-loop-body : goal.invariant-loop-body
invariant-loop-body l =
    string_bytes l.text ≡ string_bytes l.initial.text ++ flat_map body_line (take l.body-index l.bodies)
