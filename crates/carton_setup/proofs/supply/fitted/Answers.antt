use Rattle.std.proofs.Common.{sym, subst, refl}
use Rattle.carton_catalogue.specs.Fits.{IsFit}
use Rattle.carton_setup.specs.Outcomes.{IsOutcome, gives, results}
use Rattle.carton_setup.specs.Rules.{guides_rule}
use Rattle.carton_setup.specs.Supplies.{fitted as fitted_of}
use Rattle.carton_setup.specs.declared.supply.Supply.{Supply}
use Rattle.carton_setup.proofs.Outcomes.{goes_on, came, refused_on}
use Rattle.carton_words.specs.declared.kinds.FileKind.TheVariants.{Catalogue}
use Rattle.carton_setup.proofs.supply.fitted.Goals as goal

pub returns-in-Ok-clause-fits : goal.returns-in-Ok-clause-fits
returns-in-Ok-clause-fits c =
    let s = c.args.setup in
    let p = c.args.plan in
    let k = c.args.catalogue in
    let all : Supply = record { setup = s; plan = p; catalogue = k } in
    goes_on (results {X = Unit {0}} Catalogue guides_rule (IsFit s.carton s.task p k)) (λ fits. gives all)
    (tt {0}) (came all) c.in-Ok.ensures refl

pub returns-in-Err-clause-fits : goal.returns-in-Err-clause-fits
returns-in-Err-clause-fits c =
    let s = c.args.setup in
    let p = c.args.plan in
    let k = c.args.catalogue in
    let all : Supply = record { setup = s; plan = p; catalogue = k } in
    subst (IsOutcome (fitted_of s p k)) (sym c.accept.ensures)
    (refused_on {X = Unit {0}} Catalogue guides_rule (IsFit s.carton s.task p k) (λ fits. gives all)
    c.in-Err.e c.in-Err.ensures)
