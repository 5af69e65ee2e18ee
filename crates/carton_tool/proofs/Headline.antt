-- Of a plan that is told, and that one is told where a path is in reach.
use Rattle.std.proofs.Common.{◌≡◌, ◌≢◌, ◌∙◌, ℕ, ◌≤◌, List, [], ◌∷◌, length, refl, sym, ap, subst, arith}
use Rattle.std.proofs.Common.{Result, Ok, Err, Option, Some, None}
use Rattle.std.specs.Prelude.{IfSome, MatchOption}
use Rattle.carton_base.specs.declared.limits.TheConstants.{MOST_BYTES}
use Rattle.carton_plan_commands.proofs.Reached.{tells_best, done_in_reach}
use Rattle.carton_plan_commands.specs.Plan.{IsBest, tells_plan}
use Rattle.carton_search.proofs.Wider.{path_long}
use Rattle.carton_setup.specs.Setups.{setups}
use Rattle.carton_setup.specs.declared.refusal.BadFile.{BadFile}
use Rattle.carton_setup.specs.declared.refusal.Rule.TheVariants.{TooLong}
use Rattle.carton_setup.specs.declared.setup.Setup.{Setup}
use Rattle.carton_setup.specs.declared.told.Ending.{Ending}
use Rattle.carton_setup.specs.declared.told.Ending.TheVariants.{Done as ToldDone}
use Rattle.carton_setup.specs.declared.told.Told.{Told as ToldText}
use Rattle.carton_text.specs.Plans.{spelling}
use Rattle.carton_text.specs.declared.plan.Plan.{Plan}
use Rattle.carton_tool.proofs.Answering.{own_saying}
use Rattle.carton_tool.proofs.Ends.{is_done, done_or_fault}
use Rattle.carton_tool.proofs.Reaching.{short_here}
use Rattle.carton_tool.specs.Files.{AreTold, first_long}
use Rattle.carton_tool.specs.Headline.{asks, dieline_and_job, IsSafe, HasFewestMoves, TellsPlanWith}
use Rattle.carton_tool.specs.Headline.{AreAccepted, IsInReach, IsFoundInReach}
use Rattle.carton_tool.specs.Saying.{status_of, says, IsSaidOf, IsSaidTo, IsSaid, AreFiles}
use Rattle.carton_tool.specs.declared.said.Ended.TheVariants.{Told}
use Rattle.carton_tool.specs.declared.said.Said.{Said}
use Rattle.carton_tool.specs.declared.status.Status.{Status}
use Rattle.carton_tool.specs.declared.status.Status.TheVariants.{Done, WriteFault}
use Rattle.carton_words.specs.Commands.{Command, IsCommand}
use Rattle.carton_words.specs.Kinds.{Named}
use Rattle.carton_words.specs.declared.kinds.FileKind.{FileKind}
use Rattle.carton_words.specs.declared.kinds.FileKind.TheVariants.{Dieline, Job}
use Rattle.carton_words.specs.declared.table.Verb.TheVariants.{Plan as PlanVerb}

-- the command `plan DIELINE JOB`
abbrev asked_plan : List ℕ → List ℕ → Command
asked_plan dieline job = asks PlanVerb (dieline_and_job dieline job)

-- the two files that are told
two_files : (holds : List ℕ → Option (List ℕ)) (dieline job d j : List ℕ) (files : List (List ℕ))
    → holds dieline ≡ Some d → holds job ≡ Some j → AreTold holds (dieline_and_job dieline job) files
    → files ≡ d ∷ j ∷ []
two_files holds dieline job d j [] e f told = absurd told
two_files holds dieline job d j (a ∷ []) e f told = absurd told.1
two_files holds dieline job d j (a ∷ b ∷ more ∷ others) e f told = absurd told.1.1
two_files holds dieline job d j (a ∷ b ∷ []) e f told =
    let first : a ≡ d = subst (λ o. IfSome o (λ bytes. a ≡ bytes)) e told.0 in
    let second : b ≡ j = subst (λ o. IfSome o (λ bytes. b ≡ bytes)) f told.1.0 in
    ap (λ x. x ∷ b ∷ []) first ∙ ap (λ y. d ∷ y ∷ []) second

-- what is said to the words of the command is said to it, of the bytes that are told
told_saying : (holds : List ℕ → Option (List ℕ)) (had : ℕ) (words files : List (List ℕ)) (said : Said)
    (dieline job d j : List ℕ) → AreFiles holds had words files → IsSaid words files said
    → IsCommand words (asked_plan dieline job) → holds dieline ≡ Some d → holds job ≡ Some j
    → IsSaidTo (asked_plan dieline job) (d ∷ j ∷ []) said
told_saying holds had words files said dieline job d j are is command e f =
    subst (λ fs. IsSaidTo (asked_plan dieline job) fs said)
    (two_files holds dieline job d j files e f (are.told (asked_plan dieline job) command))
    (own_saying words files (asked_plan dieline job) said command is)

-- a best plan of the bytes, with this spelling
abbrev Tells : List ℕ → List ℕ → List ℕ → Type 0
Tells d j text = (s : Setup) × (plan : Plan) × setups (d ∷ j ∷ []) (Ok s) × IsBest s plan
    × (text ≡ spelling plan)

same_ending : (a b : Ending) → Told a ≡ Told b → a ≡ b
same_ending a b e = cc

best_outcome : (d j : List ℕ) (said : Said) (outcome : Result ToldText BadFile)
    → tells_plan (d ∷ j ∷ []) outcome → said ≡ says outcome → said.ended ≡ Told ToldDone → Tells d j said.text
best_outcome d j said (Ok told) h is done =
    let ended = ap (λ (s : Said). s.ended) is in
    let best = tells_best (d ∷ j ∷ []) told h (same_ending told.ending ToldDone (sym ended ∙ done)) in
    (best.0, best.1, best.2, best.3, ap (λ (s : Said). s.text) is ∙ best.4)
best_outcome d j said (Err file) h is done = let ended = ap (λ (s : Said). s.ended) is in absurd (cc)

best_saying : (dieline job d j : List ℕ) (said : Said) → IsSaidTo (asked_plan dieline job) (d ∷ j ∷ []) said
    → said.ended ≡ Told ToldDone → Tells d j said.text
best_saying dieline job d j said h done = by_length (first_long (dieline_and_job dieline job) (d ∷ j ∷ []))
    h.1
  where
    by_length : (first : Option FileKind)
        → MatchOption first (IsSaidOf (asked_plan dieline job) (d ∷ j ∷ []) said) (λ kind. said
        ≡ says (Err (record { kind = kind; rule = TooLong }))) → Tells d j said.text
    by_length (Some kind) is = let ended = ap (λ (s : Said). s.ended) is in absurd (cc)
    by_length None is = best_outcome d j said is.0 is.1 is.2 done

-- where done is told, a plan is told of which all holds that holds of a best one
tells : (P : Setup → Plan → Type 0) → ((s : Setup) (plan : Plan) → IsBest s plan → P s plan)
    → (holds : List ℕ → Option (List ℕ)) (had : ℕ) (words files : List (List ℕ)) (said : Said)
    (wrote : List ℕ → Type 0)
    → AreFiles holds had words files → IsSaid words files said → status_of said.ended ≡ Done → wrote said.text
    → TellsPlanWith holds words wrote P
tells P of_best holds had words files said wrote are is done text = λ dieline job d j command e f.
    let told = best_saying dieline job d j said (told_saying holds had words files said dieline job d j are is
    command e f) (is_done said.ended done) in
    (told.0, told.1, told.2, told.3.rules, subst wrote told.4 text, of_best told.0 told.1 told.3)

pub tells_safe : (holds : List ℕ → Option (List ℕ)) (had : ℕ) (words files : List (List ℕ)) (said : Said)
    (wrote : List ℕ → Type 0)
    → AreFiles holds had words files → IsSaid words files said → status_of said.ended ≡ Done → wrote said.text
    → TellsPlanWith holds words wrote IsSafe
tells_safe = tells IsSafe (λ s plan best. best.sound)

fewest : (s : Setup) (plan : Plan) → IsBest s plan → HasFewestMoves s plan
fewest s plan best = λ path slack.
    let more = best.shortest path slack in
    let m = path_long _ s.task.start s.task.target path slack.0 in
    let n = path_long _ s.task.start s.task.target plan.states best.path.0 in
    omega (arith, more, m, n)

pub tells_least : (holds : List ℕ → Option (List ℕ)) (had : ℕ) (words files : List (List ℕ)) (said : Said)
    (wrote : List ℕ → Type 0)
    → AreFiles holds had words files → IsSaid words files said → status_of said.ended ≡ Done → wrote said.text
    → TellsPlanWith holds words wrote HasFewestMoves
tells_least = tells HasFewestMoves fewest

none_long : (dieline job d j : List ℕ) (kind : FileKind) → length d ≤ MOST_BYTES → length j ≤ MOST_BYTES
    → first_long (dieline_and_job dieline job) (d ∷ j ∷ []) ≡ Some kind → ⊥
none_long dieline job d j kind short few e =
    let dieline_file : Named = record { kind = Dieline; name = dieline } in
    let job_file : Named = record { kind = Job; name = job } in
    let none : first_long (dieline_and_job dieline job) (d ∷ j ∷ []) ≡ None =
    short_here dieline_file (job_file ∷ []) d (j ∷ []) short ∙ short_here job_file [] j [] few in
    cc

found_outcome : (d j : List ℕ) (said : Said) (outcome : Result ToldText BadFile) → IsInReach d j
    → tells_plan (d ∷ j ∷ []) outcome → said ≡ says outcome → status_of said.ended ≡ Done
found_outcome d j said outcome reach h is =
    let told = done_in_reach (d ∷ j ∷ []) reach.0 outcome reach.1 reach.2 h in
    ap (λ (s : Said). status_of s.ended) (is ∙ ap says told.1) ∙ ap (λ e. status_of (Told e)) told.2

found_saying : (dieline job d j : List ℕ) (said : Said) → AreAccepted d j → IsInReach d j
    → IsSaidTo (asked_plan dieline job) (d ∷ j ∷ []) said → status_of said.ended ≡ Done
found_saying dieline job d j said accepted reach h =
    by_length (first_long (dieline_and_job dieline job) (d ∷ j ∷ [])) refl h.1
  where
    by_length : (first : Option FileKind) → first_long (dieline_and_job dieline job) (d ∷ j ∷ []) ≡ first
        → MatchOption first (IsSaidOf (asked_plan dieline job) (d ∷ j ∷ []) said) (λ kind. said
        ≡ says (Err (record { kind = kind; rule = TooLong }))) → status_of said.ended ≡ Done
    by_length (Some kind) long is =
        absurd (none_long dieline job d j kind accepted.short_dieline accepted.short_job long)
    by_length None long is = found_outcome d j said is.0 reach is.1 is.2

pub found_in_reach : (holds : List ℕ → Option (List ℕ)) (had : ℕ) (words files : List (List ℕ)) (said : Said)
    (status : Status)
    → AreFiles holds had words files → IsSaid words files said
    → (status ≢ WriteFault → status ≡ status_of said.ended) → IsFoundInReach holds words status
found_in_reach holds had words files said status are is by_status =
    λ dieline job d j command e f accepted reach.
    let done = found_saying dieline job d j said accepted reach
    (told_saying holds had words files said dieline job d j are is command e f) in
    done_or_fault status (λ whole. by_status whole ∙ done)
