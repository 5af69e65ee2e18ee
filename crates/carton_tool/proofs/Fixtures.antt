-- Of fixtures, done is told only where one is made, or is good, and else the cause.
use Rattle.std.proofs.Common.{◌≡◌, ℕ, List, refl, subst, Option}
use Rattle.carton_fixture_commands.proofs.Good.{made_where_done, cause_where_refused, good_where_done}
use Rattle.carton_fixture_commands.proofs.Good.{fault_where_refused}
use Rattle.carton_fixture_commands.specs.Fixture.{IsSpellingOfMade, IsTextOfRefusal}
use Rattle.carton_fixture_commands.specs.Verify.{AreOfGood, IsTextOfFault}
use Rattle.carton_setup.specs.declared.told.Ending.{Ending}
use Rattle.carton_setup.specs.declared.told.Ending.TheVariants.{Done as ToldDone, Refused as ToldRefused}
use Rattle.carton_tool.proofs.Answering.{own_saying}
use Rattle.carton_tool.proofs.Ends.{is_done, is_refused}
use Rattle.carton_tool.proofs.Sound.{IsOnly, ended_saying}
use Rattle.carton_tool.specs.Files.{AreTold}
use Rattle.carton_tool.specs.Fixtures.{and_catalogue, and_fixture, TellsOf, TellsMadeFixture}
use Rattle.carton_tool.specs.Fixtures.{TellsGoodFixture, TellsWhyNotMade, TellsFault}
use Rattle.carton_tool.specs.Headline.{asks}
use Rattle.carton_tool.specs.Saying.{status_of, IsSaid, AreFiles}
use Rattle.carton_tool.specs.declared.said.Ended.TheVariants.{Told}
use Rattle.carton_tool.specs.declared.said.Said.{Said}
use Rattle.carton_tool.specs.declared.status.Status.TheVariants.{Done, Refused}
use Rattle.carton_words.specs.Commands.{files_of}
use Rattle.carton_words.specs.Kinds.{Named}
use Rattle.carton_words.specs.declared.table.Verb.{Verb}
use Rattle.carton_words.specs.declared.table.Verb.TheVariants.{Fixture, Verify}

tells_of : (holds : List ℕ → Option (List ℕ)) (had : ℕ) (words files : List (List ℕ)) (said : Said)
    (wrote : List ℕ → Type 0) (ending : Ending) (verb : Verb) (names : List Named)
    (P : List (List ℕ) → List ℕ → Type 0)
    → AreFiles holds had words files → IsSaid words files said → said.ended ≡ Told ending → wrote said.text
    → IsOnly ending (asks verb names) P → files_of (asks verb names) ≡ names
    → TellsOf holds words wrote verb names P
tells_of holds had words files said wrote ending verb names P are is so text only same = λ command. (
  files,
  subst (λ ns. AreTold holds ns files) same (are.told (asks verb names) command),
  said.text,
  ended_saying ending (asks verb names) files said P only
      (own_saying words files (asks verb names) said command is) so,
  text,
)

pub tells_made : (holds : List ℕ → Option (List ℕ)) (had : ℕ) (words files : List (List ℕ)) (said : Said)
    (wrote : List ℕ → Type 0) → AreFiles holds had words files → IsSaid words files said
    → status_of said.ended ≡ Done → wrote said.text → TellsMadeFixture holds words wrote
tells_made holds had words files said wrote are is done text = λ dieline job plan catalogue.
    tells_of holds had words files said wrote ToldDone Fixture (and_catalogue dieline job plan catalogue)
    IsSpellingOfMade are is (is_done said.ended done) text made_where_done refl

pub tells_why_not_made : (holds : List ℕ → Option (List ℕ)) (had : ℕ) (words files : List (List ℕ))
    (said : Said) (wrote : List ℕ → Type 0) → AreFiles holds had words files → IsSaid words files said
    → status_of said.ended ≡ Refused → wrote said.text → TellsWhyNotMade holds words wrote
tells_why_not_made holds had words files said wrote are is refused text = λ dieline job plan catalogue.
    tells_of holds had words files said wrote ToldRefused Fixture (and_catalogue dieline job plan catalogue)
    IsTextOfRefusal are is (is_refused said.ended refused) text cause_where_refused refl

pub tells_good : (holds : List ℕ → Option (List ℕ)) (had : ℕ) (words files : List (List ℕ)) (said : Said)
    (wrote : List ℕ → Type 0) → AreFiles holds had words files → IsSaid words files said
    → status_of said.ended ≡ Done → wrote said.text → TellsGoodFixture holds words wrote
tells_good holds had words files said wrote are is done text = λ dieline job plan catalogue fixture.
    tells_of holds had words files said wrote ToldDone Verify
    (and_fixture dieline job plan catalogue fixture)
    (λ bytes told. AreOfGood bytes) are is (is_done said.ended done) text good_where_done refl

pub tells_fault : (holds : List ℕ → Option (List ℕ)) (had : ℕ) (words files : List (List ℕ)) (said : Said)
    (wrote : List ℕ → Type 0) → AreFiles holds had words files → IsSaid words files said
    → status_of said.ended ≡ Refused → wrote said.text → TellsFault holds words wrote
tells_fault holds had words files said wrote are is refused text = λ dieline job plan catalogue fixture.
    tells_of holds had words files said wrote ToldRefused Verify
    (and_fixture dieline job plan catalogue fixture)
    IsTextOfFault are is (is_refused said.ended refused) text fault_where_refused refl
