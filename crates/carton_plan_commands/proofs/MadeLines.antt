-- The lines of made dielines, one number after the other.
use Rattle.std.proofs.Common.{◌≡◌, ◌∙◌, refl, sym, ap, subst, ℕ, ◌+◌, ◌≤◌, List, [], ◌∷◌, ◌++◌, length, arith}
use Rattle.std.proofs.Common.{Ok, Err}
use Rattle.std.proofs.lemmas.List.{append_assoc, append-nil}
use Rattle.carton_base.specs.declared.limits.TheConstants.{MOST_STATES}
use Rattle.carton_base.specs.declared.motion.State.{State}
use Rattle.carton_search.specs.Paths.{moves_of}
use Rattle.carton_plan_commands.specs.Make.{made_files, Outcome, made_line, planned_moves, moves_in}
use Rattle.carton_plan_commands.specs.Make.{lines_from, total_of, AreOutcomes, AreLinesOf, IsMadeText}
use Rattle.carton_plan_commands.specs.Make.{tells_make}
use Rattle.carton_plan_commands.specs.Plan.{plannings, IsPlanned}
use Rattle.carton_plan_commands.specs.declared.plan.Planned.TheVariants.{Found, StartBlocked, NoPath}
use Rattle.carton_plan_commands.specs.declared.plan.Planned.TheVariants.{OutOfTurns}
use Rattle.carton_plan_commands.specs.declared.plan.Planned.{Planned}
use Rattle.carton_setup.proofs.Outcomes.{passed, same_value}
use Rattle.carton_setup.specs.Commands.{takes_nothing}
use Rattle.carton_setup.specs.Outcomes.{◌>>=◌, gives, values}
use Rattle.carton_setup.specs.Setups.{setups}
use Rattle.carton_setup.specs.Telling.{done}
use Rattle.carton_setup.specs.declared.setup.Setup.{Setup}
use Rattle.carton_setup.specs.declared.told.Told.{Told}

-- one more outcome, that of the next number
more_outcomes : (k : ℕ) (outcomes : List Outcome) (next : Outcome) → AreOutcomes k outcomes
    → plannings (made_files (k + length outcomes)) next → AreOutcomes k (outcomes ++ next ∷ [])
more_outcomes k [] next are is = let same : k + 0 ≡ k = omega arith in
    (subst (λ n. plannings (made_files n) next) same is, tt)
more_outcomes k (o ∷ others) next are is =
    let same : k + length (o ∷ others) ≡ k + 1 + length others = omega arith in
    (are.0, more_outcomes (k + 1) others next are.1 (subst (λ n. plannings (made_files n) next) same is))

more_lines : (k : ℕ) (outcomes : List Outcome) (next : Outcome) → lines_from k (outcomes ++ next ∷ [])
    ≡ lines_from k outcomes ++ made_line (k + length outcomes) next
more_lines k [] next = let same : k + 0 ≡ k = omega arith in append-nil (made_line k next)
    ∙ ap (λ n. made_line n next) (sym same)
more_lines k (o ∷ others) next =
    let same : k + 1 + length others ≡ k + length (o ∷ others) = omega arith in
    ap (λ ls. made_line k o ++ ls) (more_lines (k + 1) others next
    ∙ ap (λ n. lines_from (k + 1) others ++ made_line n next) same)
    ∙ sym (append_assoc (made_line k o) (lines_from (k + 1) others)
    (made_line (k + length (o ∷ others)) next))

more_moves : (outcomes : List Outcome) (next : Outcome) → total_of (outcomes ++ next ∷ [])
    ≡ total_of outcomes + moves_in next
more_moves [] next = omega arith
more_moves (o ∷ others) next = omega (arith, more_moves others next)

one_longer : (outcomes : List Outcome) (next : Outcome) → length (outcomes ++ next ∷ []) ≡ length outcomes + 1
one_longer [] next = refl
one_longer (o ∷ others) next = omega (arith, one_longer others next)

pub no_lines : AreLinesOf 0 [] 0
no_lines = ([], (refl, tt), refl, refl)

-- the line of the next number, after those before it
pub next_line : (k : ℕ) (lines : List ℕ) (total : ℕ) (next : Outcome) → AreLinesOf k lines total
    → plannings (made_files k) next → AreLinesOf (k + 1) (lines ++ made_line k next) (total + moves_in next)
next_line k lines total next are is =
    let os = are.0 in
    let count : k ≡ 0 + length os = omega (arith, are.1.0) in
    let is_next = subst (λ n. plannings (made_files n) next) count is in
    let texts : lines ++ made_line k next ≡ lines_from 0 (os ++ next ∷ []) =
    ap (λ ls. ls ++ made_line k next) are.2 ∙ ap (λ n. lines_from 0 os ++ made_line n next) count
    ∙ sym (more_lines 0 os next) in (
      os ++ next ∷ [],
      (one_longer os next ∙ ap (λ n. n + 1) are.1.0, more_outcomes 0 os next are.1.1 is_next),
      texts,
      omega (arith, are.3, more_moves os next),
    )

few_states : (states : List State) → length states ≤ MOST_STATES → moves_of states ≤ MOST_STATES
few_states [] few = omega arith
few_states (s ∷ rest) few = omega (arith, few)

few_planned : (s : Setup) (answer : Planned) → IsPlanned s answer → planned_moves answer ≤ MOST_STATES
few_planned s (Found plan) h = few_states plan.states h.rules.states.few
few_planned s (StartBlocked a b) h = omega arith
few_planned s NoPath h = omega arith
few_planned s (OutOfTurns moves) h = omega arith

-- a plan has not too many moves
pub few_moves : (files : List (List ℕ)) (outcome : Outcome) → plannings files outcome
    → moves_in outcome ≤ MOST_STATES
few_moves files (Ok answer) h = let s = passed (setups files) (λ s. values (IsPlanned s)) answer h in
    few_planned s.0 answer s.2
few_moves files (Err file) h = omega arith

-- what `make` tells is a made text
pub made_text : (count : ℕ) (files : List (List ℕ)) (told : Told) → tells_make count files (Ok told)
    → IsMadeText count told.text
made_text count files told h =
    let nothing = passed (takes_nothing files) (λ nothing. values (IsMadeText count) >>= λ text.
    gives (done text)) told h in
    let text = passed (values (IsMadeText count)) (λ text. gives (done text)) told nothing.2 in
    subst (IsMadeText count) (sym (ap (λ (t : Told). t.text) (same_value told (done text.0) text.2))) text.1
