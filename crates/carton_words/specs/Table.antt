-- The table of the commands.
use Rattle.std.specs.Prelude.{refl, List, [], ◌∷◌, codes}
use Rattle.carton_words.specs.Rows.{Row, Differ}
use Rattle.carton_words.specs.declared.kinds.FileKind.TheVariants.{Dieline, Job, Catalogue}
use Rattle.carton_words.specs.declared.kinds.FileKind.TheVariants.{Plan as APlan, Fixture as AFixture}
use Rattle.carton_words.specs.declared.table.Slot.TheVariants.{File, Margin, End, Count}
use Rattle.carton_words.specs.declared.table.Verb.{Verb}
use Rattle.carton_words.specs.declared.table.Verb.TheVariants.{Flat, Pose, Plan, Check}
use Rattle.carton_words.specs.declared.table.Verb.TheVariants.{Clearance, Make, Fixture, Verify}

abbrev pub row_of : Verb → Row
row_of Flat = record { word = codes "flat"; slots = File Dieline ∷ Margin ∷ [] }
row_of Pose = record { word = codes "pose"; slots = File Dieline ∷ File Job ∷ End ∷ [] }
row_of Plan = record { word = codes "plan"; slots = File Dieline ∷ File Job ∷ [] }
row_of Check = record { word = codes "check"; slots = File Dieline ∷ File Job ∷ File APlan ∷ [] }
row_of Clearance = record { word = codes "clearance"; slots = File Dieline ∷ File Job ∷ File APlan ∷ [] }
row_of Make = record { word = codes "make"; slots = Count ∷ [] }
row_of Fixture =
    record { word = codes "fixture"; slots = File Dieline ∷ File Job ∷ File APlan ∷ File Catalogue ∷ [] }
row_of Verify =
    record {
      word = codes "verify";
      slots = File Dieline ∷ File Job ∷ File APlan ∷ File Catalogue ∷ File AFixture ∷ [];
    }

-- each command
abbrev pub verbs : List Verb
verbs = Flat ∷ Pose ∷ Plan ∷ Check ∷ Clearance ∷ Make ∷ Fixture ∷ Verify ∷ []

pub differ : Differ row_of verbs
differ Flat = refl
differ Pose = refl
differ Plan = refl
differ Check = refl
differ Clearance = refl
differ Make = refl
differ Fixture = refl
differ Verify = refl
