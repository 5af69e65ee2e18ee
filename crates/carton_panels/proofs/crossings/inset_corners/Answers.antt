use Rattle.std.proofs.Common.{length, arith, below_more, subst, sym}
use Rattle.carton_panels.specs.Crossings.{CoversRow, IsGathered}
use Rattle.carton_panels.proofs.Crossed.{row_grows, gathered_none}
use Rattle.carton_panels.proofs.crossings.inset_corners.Goals as goal

pub loop-i-init : goal.loop-i-init
loop-i-init c = record {
  gathered = subst (IsGathered c.args.face.margin c.args.face.places.now) (sym c.new-found.ensures.items)
      (gathered_none c.args.face.margin c.args.face.places.now);
  rows = λ i h. absurd (omega (arith, h));
}

pub loop-i-preserved : goal.loop-i-preserved
loop-i-preserved c =
    let e = c.in_ok-add_crossings.ensures in
    let n = length c.args.face.places.now in
    record {
      gathered = e.gathered;
      rows = below_more
          (λ i. CoversRow c.args.face.margin c.args.face.places.now c.add_crossings.new.found.items i n)
          c.loop-i.i (λ i h. row_grows c.args.face.margin c.args.face.places.now c.loop-i.found.items
          c.add_crossings.new.found.items i n e.grows (c.loop-i.invariant.rows i h)) e.covers;
    }

pub returns-clause-covers : goal.returns-clause-covers
returns-clause-covers c = λ i h. c.loop-i.invariant.rows i (omega (arith, h))
