use Rattle.std.proofs.Common.{Err, refl}
use Rattle.carton_setup.specs.Outcomes.{gives}
use Rattle.carton_setup.specs.Supplies.{supplies}
use Rattle.carton_setup.proofs.Outcomes.{stops, goes_on, passed_up, came}
use Rattle.carton_fixture_commands.specs.Verify.{fixtures, claims}
use Rattle.carton_fixture_commands.specs.declared.verify.Claim.{Claim}
use Rattle.carton_fixture_commands.proofs.OneClaim.{after_supply}
use Rattle.carton_fixture_commands.proofs.verify.claim_from.Goals as goal

pub returns-in_err-fixture-clause-claims : goal.returns-in_err-fixture-clause-claims
returns-in_err-fixture-clause-claims c =
    let files = c.args.files.now in
    let s = c.in_ok-supply.supply in
    let e = c.in_err-fixture.field-0.0 in
    passed_up (claims files) e _ c.from_residual-in_err-fixture.ensures.1
    (goes_on (supplies files) (after_supply files) s (Err e) c.in_ok-supply.ensures.supplies
    (stops (fixtures files) (λ f. gives {A = Claim} (record { supply = s; fixture = f })) e
    c.in_err-fixture.ensures.reads))

pub returns-clause-claims : goal.returns-clause-claims
returns-clause-claims c =
    let files = c.args.files.now in
    let s = c.in_ok-supply.supply in
    let f = c.in_ok-fixture.fixture in
    let made : Claim = record { supply = s; fixture = f } in
    goes_on (supplies files) (after_supply files) s (came made) c.in_ok-supply.ensures.supplies
    (goes_on (fixtures files) (λ x. gives {A = Claim} (record { supply = s; fixture = x })) f (came made)
    c.in_ok-fixture.ensures.reads refl)
