use Rattle.std.proofs.Common.{◌≡◌, ◌∙◌, sym, subst, length, List}
use Rattle.carton_base.specs.declared.bodies.Cuboid.{Cuboid}
use Rattle.carton_fixture.specs.Answers.{IsMade}
use Rattle.carton_fixture.specs.Steps.{AreFirst}
use Rattle.carton_fixture.proofs.Made.{fixture_with, made_is}
use Rattle.carton_fixture.proofs.compiling.made.Goals as goal

pub returns : goal.returns
returns c =
    let one : length c.leave_out.new.chosen ≡ length c.args.catalogue.now.bodies = c.leave_out.auto.chosen
    ∙ c.requires.one_each in
    let first =
    subst (λ (bs : List Cuboid). AreFirst bs c.leave_out.new.chosen (length bs)
    c.chosen_bodies-bodies.result.items) c.as_slice.ensures c.chosen_bodies-bodies.ensures in
    subst (λ bs. IsMade c.args.carton.now c.args.task.now c.args.plan.now c.args.catalogue.now
    (fixture_with c.args.catalogue.now bs)) (sym c.from_vec.ensures)
    (made_is c.args.carton.now c.args.task.now c.args.plan.now c.args.catalogue.now c.args.chosen.now
    c.leave_out.new.chosen c.chosen_bodies-bodies.result.items c.requires.ready c.requires.holds one
    c.requires.clear c.leave_out.ensures first)
