use Rattle.std.proofs.Common.{◌≡◌, ◌<◌, length, None, true, not, ◌∙◌, ap, arith, below_more}
use Rattle.std.specs.Prelude.{is_some}
use Rattle.carton_tree.specs.Rules.{IsDeep}
use Rattle.carton_tree.specs.Steps.{spot_at}
use Rattle.carton_tree.proofs.Deciding.{deep, not_deep, none_from}
use Rattle.carton_tree.proofs.build.first_deep.Goals as goal

pub returns-then-is_none : goal.returns-then-is_none
returns-then-is_none c =
    let hinges = c.args.hinges.now in
    let lt : c.loop-p.p < length c.args.raw.now.faces =
    omega (arith, c.len-p-end.ensures, c.loop-p-test.true) in
    let none : spot_at c.args.spots.now c.loop-p.p ≡ None =
    none_from (spot_at c.args.spots.now c.loop-p.p) (c.is_none.ensures ∙ ap not c.if-is_none.true) in (
      deep c.args.raw.now hinges.creases.items hinges.all.items c.args.spots.now c.loop-p.p c.args.root.0
          c.requires.hinges c.requires.spots c.requires.dieline.faces lt none,
      c.loop-p.invariant,
    )

pub loop-p-preserved : goal.loop-p-preserved
loop-p-preserved c =
    let hinges = c.args.hinges.now in
    let some : is_some (spot_at c.args.spots.now c.loop-p.p) ≡ true = c.is_none.ensures
    ∙ ap not c.if-is_none.false in
    below_more (λ q. ¬ (IsDeep c.args.raw.now c.args.root.0 q)) c.loop-p.p c.loop-p.invariant
    (not_deep c.args.raw.now hinges.creases.items hinges.all.items c.args.spots.now c.loop-p.p c.args.root.0
    c.requires.hinges c.requires.spots some)

pub returns : goal.returns
returns c = λ q far. c.loop-p.invariant q (omega (arith, far.0, c.len-p-end.ensures, c.loop-p-test.false)) far
