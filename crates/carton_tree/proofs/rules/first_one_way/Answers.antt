use Rattle.std.proofs.Common.{◌≡◌, ◌<◌, length, get_or, sym, subst, arith, below_more}
use Rattle.carton_base.specs.declared.ids.PanelId.{PanelId}
use Rattle.carton_base.proofs.Loops.{at_yes, at_no}
use Rattle.carton_tree.specs.declared.besides.Beside.{Beside}
use Rattle.carton_tree.specs.declared.besides.Beside.TheVariants.{Nobody, Two}
use Rattle.carton_tree.specs.Joints.{IsSide}
use Rattle.carton_tree.specs.Rules.{IsOneWay}
use Rattle.carton_tree.specs.Steps.{IsBeside, GoBoth}
use Rattle.carton_tree.proofs.Ways.{one_way, not_one_way}
use Rattle.carton_tree.proofs.rules.first_one_way.Goals as goal
use Rattle.carton_tree.proofs.rules.first_one_way.Goals.{in-Two+else-is_one_way, in_default}

pub returns-then-is_one_way : goal.returns-then-is_one_way
returns-then-is_one_way c =
    let d = c.args.raw.now in
    let k = c.loop-k.k in
    let two = subst (IsBeside (IsSide d k) (length d.faces)) c.in-Two.is
    (c.requires.besides.each k Nobody c.loop-k-test.true) in (
      one_way d k c.in-Two.first c.in-Two.second two (at_yes c.if-is_one_way.true c.is_one_way.ensures),
      c.loop-k.invariant,
    )

pub loop-k-preserved : goal.loop-k-preserved
loop-k-preserved c =
    let d = c.args.raw.now in
    let k = c.loop-k.k in
    let b : Beside = get_or c.args.besides.now k Nobody in
    let is = c.requires.besides.each k Nobody c.loop-k-test.true in
    below_more (λ j. ¬ (IsOneWay d j)) k c.loop-k.invariant (elim c.match-besides-k.branch [
      | in-Two+else-is_one_way w ↦ not_one_way d k b is (c.requires.edges k) (λ f g e both.
          let same : Two w.in-Two.first w.in-Two.second ≡ Two f g = cc in
          let one : w.in-Two.first ≡ f = cc in
          let other : w.in-Two.second ≡ g = cc in
          at_no w.if-is_one_way.false w.is_one_way.ensures
          (subst (λ (x : PanelId). GoBoth d k x.0 w.in-Two.second.0) (sym one)
          (subst (λ (x : PanelId). GoBoth d k f.0 x.0) (sym other) both)))
      | in_default w ↦ not_one_way d k b is (c.requires.edges k) (λ f g e both. w.in_default.not-Two f g e)
    ])

pub returns : goal.returns
returns c = λ k t.
    let in' : k < length c.args.raw.now.edges = t.5.edge.within in
    c.loop-k.invariant k (omega (arith, in', c.requires.whole, c.loop-k-test.false)) t
