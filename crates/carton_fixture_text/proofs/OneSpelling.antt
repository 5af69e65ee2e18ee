-- A text is read as a fixture exactly where it is the fixture's one spelling.
use Rattle.std.proofs.Common.{ℕ, List, ap, ◌∙◌}
use Rattle.carton_fixture_text.specs.FixtureTexts.{fixture_of, HasOneSpelling}
use Rattle.carton_fixture_text.proofs.FixturesRead.{fixture_read}
use Rattle.carton_fixture_text.proofs.FixturesWritten.{fixture_spelled}

pub one_spelling : (bytes : List ℕ) → HasOneSpelling bytes
one_spelling bytes = λ f. (fixture_read bytes f, λ h. ap fixture_of h.1 ∙ fixture_spelled f h.0)
