-- What the commands that look at a plan begin with: the carton, the task and the plan, or the first file that
-- is refused.
use Rattle.std.specs.Prelude.{ℕ, List}
use Rattle.carton_text.specs.PlanRules.{IsPlan}
use Rattle.carton_setup.specs.Outcomes.{Outcomes, ◌>>=◌, gives}
use Rattle.carton_setup.specs.Setups.{setups, plans, IsRight}
use Rattle.carton_setup.specs.declared.proposal.Proposal.{Proposal}

-- all three for the bytes of the files: after those of setting up, faults are looked for in the text of the
-- plan
abbrev pub proposals : List (List ℕ) → Outcomes Proposal
proposals files = do
  s ← setups files
  p ← plans files
  gives (record { setup = s; plan = p })

-- they keep their rules
pub record IsProposal (p : Proposal) : Type 0 where
  pub right : IsRight p.setup
  pub plan : IsPlan p.plan
