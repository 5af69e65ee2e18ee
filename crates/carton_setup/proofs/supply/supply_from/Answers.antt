use Rattle.std.proofs.Common.{Err}
use Rattle.carton_setup.specs.Proposals.{proposals}
use Rattle.carton_setup.specs.Supplies.{catalogues, fitted, supplies}
use Rattle.carton_setup.proofs.OneSupply.{after_proposal}
use Rattle.carton_setup.proofs.Outcomes.{stops, goes_on, passed_up}
use Rattle.carton_setup.proofs.supply.supply_from.Goals as goal

pub returns-in_err-catalogue-clause-supplies : goal.returns-in_err-catalogue-clause-supplies
returns-in_err-catalogue-clause-supplies c =
    let files = c.args.files.now in
    let p = c.in_ok-setup.field-0 in
    let e = c.in_err-catalogue.field-0.0 in
    let stopped = stops (catalogues files) (fitted p.setup p.plan) e c.in_err-catalogue.ensures.reads in
    passed_up (supplies files) e _ c.from_residual-in_err-catalogue.ensures.1
    (goes_on (proposals files) (after_proposal files) p (Err e) c.in_ok-setup.ensures.proposes stopped)

pub returns-clause-supplies : goal.returns-clause-supplies
returns-clause-supplies c =
    let files = c.args.files.now in
    let p = c.in_ok-setup.field-0 in
    let r = c.fitted.result in
    let supplied = goes_on (catalogues files) (fitted p.setup p.plan) c.in_ok-catalogue.catalogue r
    c.in_ok-catalogue.ensures.reads c.fitted.ensures.fits in
    goes_on (proposals files) (after_proposal files) p r c.in_ok-setup.ensures.proposes supplied
