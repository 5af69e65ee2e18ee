use Rattle.std.proofs.Common.{◌≡◌, ◌∙◌, ap, slice_get, Some, true, false, Bool}
use Rattle.std.proofs.lemmas.Option.{slice_get-get_or}
use Rattle.carton_fixture.proofs.Tried.{left_out, kept}
use Rattle.carton_fixture.proofs.leaving.try_without.Goals as goal

pub returns-in-Some : goal.returns-in-Some
returns-in-Some c =
    let is : slice_get c.args.chosen.now c.args.k ≡ Some true =
    slice_get-get_or c.args.chosen.now c.args.k false c.requires.within
    ∙ ap (λ (b : Bool). Some b) c.if-not-chosen-k.false in
    kept c.args.carton.now c.args.plan.now c.args.catalogue.now c.args.slack c.args.chosen.now c.args.k
    c.in-Some.field-0 c.requires.held is c.in-Some.ensures

pub returns-in-None : goal.returns-in-None
returns-in-None c = left_out c.args.carton.now c.args.plan.now c.args.catalogue.now c.args.slack
    c.args.chosen.now c.args.k c.requires.within c.in-None.ensures
