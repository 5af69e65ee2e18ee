use Rattle.std.proofs.Common.{Err, refl}
use Rattle.carton_setup.specs.Outcomes.{gives, ◌>>=◌}
use Rattle.carton_setup.specs.Setups.{setups, plans}
use Rattle.carton_setup.specs.declared.proposal.Proposal.{Proposal}
use Rattle.carton_setup.proofs.OneSetup.{after_setup}
use Rattle.carton_setup.proofs.Outcomes.{stops, goes_on, passed_up, came}
use Rattle.carton_setup.proofs.proposal.proposal_from.Goals as goal

pub returns-in_err-plan-clause-proposes : goal.returns-in_err-plan-clause-proposes
returns-in_err-plan-clause-proposes c =
    let files = c.args.files.now in
    let s = c.in_ok-setup.setup in
    let e = c.in_err-plan.field-0.0 in
    passed_up (setups files >>= after_setup files) e _ c.from_residual-in_err-plan.ensures.1
    (goes_on (setups files) (after_setup files) s (Err e) c.in_ok-setup.ensures.sets_up
    (stops (plans files) (λ p. gives {A = Proposal} (record { setup = s; plan = p })) e
    c.in_err-plan.ensures.reads))

pub returns-clause-proposes : goal.returns-clause-proposes
returns-clause-proposes c =
    let files = c.args.files.now in
    let s = c.in_ok-setup.setup in
    let p = c.in_ok-plan.plan in
    let made : Proposal = record { setup = s; plan = p } in
    goes_on (setups files) (after_setup files) s (came made) c.in_ok-setup.ensures.sets_up
    (goes_on (plans files) (λ q. gives {A = Proposal} (record { setup = s; plan = q })) p (came made)
    c.in_ok-plan.ensures.reads refl)
