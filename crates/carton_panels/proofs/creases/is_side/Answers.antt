use Rattle.carton_base.specs.declared.dieline.Ends.{Ends}
use Rattle.carton_base.proofs.Loops.{at_yes, at_no, same_test}
use Rattle.carton_panels.proofs.Edges.{side_from_tests, tests_from_side}
use Rattle.carton_panels.proofs.creases.is_side.Goals as goal

pub returns-then-has_side : goal.returns-then-has_side
returns-then-has_side c =
    let d : Ends = record { p = 0; q = 0 } in
    same_test c.is_first.ensures
    (λ n. side_from_tests c.args.edges.now c.args.vertices.now c.args.k d c.requires
    (at_yes c.if-has_side.true c.has_side.ensures) n)
    (λ s. (tests_from_side c.args.edges.now c.args.vertices.now c.args.k d c.requires s).1)

pub returns-else-has_side : goal.returns-else-has_side
returns-else-has_side c =
    let d : Ends = record { p = 0; q = 0 } in
    same_test c.has_side.ensures
    (λ a. absurd (at_no c.if-has_side.false c.has_side.ensures a))
    (λ s. (tests_from_side c.args.edges.now c.args.vertices.now c.args.k d c.requires s).0)
