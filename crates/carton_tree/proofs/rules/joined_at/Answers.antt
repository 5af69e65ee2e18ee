use Rattle.std.proofs.Common.{◌<◌, List, length, get_or, subst, sym}
use Rattle.std.proofs.lemmas.Option.{get_or_from_slice_get}
use Rattle.carton_base.specs.declared.dieline.Letter.{Letter}
use Rattle.carton_base.specs.declared.dieline.Letter.TheVariants.{Boundary}
use Rattle.carton_base.proofs.Loops.{at_yes}
use Rattle.carton_panels.specs.Creases.{Joins}
use Rattle.carton_tree.specs.declared.besides.Beside.TheVariants.{Nobody}
use Rattle.carton_tree.specs.Joints.{IsSide}
use Rattle.carton_tree.specs.Steps.{IsBeside}
use Rattle.carton_tree.proofs.Gathering.{pair_of_two}
use Rattle.carton_tree.proofs.Ways.{no_joint}
use Rattle.carton_tree.proofs.rules.joined_at.Goals as goal

pub returns-in-Two : goal.returns-in-Two
returns-in-Two c =
    let d = c.args.raw.now in
    let k = c.args.k in
    let two = subst (IsBeside (IsSide d k) (length d.faces)) c.in-Two.is
    (c.requires.besides.each k Nobody (subst (λ n. k < n) (sym c.requires.whole) c.requires.k)) in
    let here = subst (λ (ls : List Letter). Joins (get_or ls k Boundary)) c.as_slice.ensures
    (at_yes c.if-not-joins.false c.joins.ensures) in
    pair_of_two d k c.in-Two.first c.in-Two.second
    (λ l g. subst Joins (get_or_from_slice_get d.letters k l Boundary g) here) two

pub returns-in_default : goal.returns-in_default
returns-in_default c = no_joint c.args.raw.now c.args.k (get_or c.args.besides.now c.args.k Nobody)
    (c.requires.besides.each c.args.k Nobody (subst (λ n. c.args.k < n) (sym c.requires.whole) c.requires.k))
    (c.requires.edges c.args.k) c.in_default.not-Two
