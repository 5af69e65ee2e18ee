-- The bytes of five files determine by which rule one of them is refused.
use Rattle.std.proofs.Common.{ℕ, List, refl}
use Rattle.carton_fixture_text.specs.FixtureTexts.{fixture_of}
use Rattle.carton_lines.specs.declared.fault.LineError.TheVariants.{Memory}
use Rattle.carton_setup.proofs.OneSupply.{excludes_supplies}
use Rattle.carton_setup.proofs.Outcomes.{excludes_after, excludes_reads, excludes_given}
use Rattle.carton_setup.specs.Files.{file_at}
use Rattle.carton_setup.specs.Outcomes.{Outcomes, ◌>>=◌, gives, Exclude}
use Rattle.carton_setup.specs.Rules.{line_rule}
use Rattle.carton_setup.specs.Supplies.{supplies}
use Rattle.carton_setup.specs.declared.supply.Supply.{Supply}
use Rattle.carton_words.specs.declared.kinds.FileKind.TheVariants.{Fixture as FixtureFile}
use Rattle.carton_fixture_commands.specs.Verify.{fixtures, claims}
use Rattle.carton_fixture_commands.specs.declared.verify.Claim.{Claim}

-- what is left to be done after what a catalogue supplies
abbrev pub after_supply : List (List ℕ) → Supply → Outcomes Claim
after_supply files s = fixtures files >>= λ f. gives (record { supply = s; fixture = f })

-- where one of the five files is refused, nothing else is allowed
pub excludes_claims : (files : List (List ℕ)) → Exclude (claims files) (claims files)
excludes_claims files =
    excludes_after (supplies files) (supplies files) (after_supply files) (after_supply files)
    (excludes_supplies files) (λ s u is is'.
    excludes_after (fixtures files) (fixtures files) (λ f. gives (record { supply = s; fixture = f }))
    (λ f. gives (record { supply = u; fixture = f }))
    (excludes_reads FixtureFile line_rule Memory (λ f. f) (fixture_of (file_at 4 files)) refl)
    (λ f g h k. excludes_given (record { supply = s; fixture = f }) (record { supply = u; fixture = g })))
