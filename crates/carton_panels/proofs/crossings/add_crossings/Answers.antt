use Rattle.std.proofs.Common.{arith}
use Rattle.carton_panels.proofs.Crossed.{row_more}
use Rattle.carton_panels.proofs.crossings.add_crossings.Goals as goal

pub loop-j-init : goal.loop-j-init
loop-j-init c = record {
  gathered = c.requires.gathered;
  grows = λ k h. h;
  row = λ j d h l. absurd (omega (arith, h, l));
}

pub loop-j-preserved : goal.loop-j-preserved
loop-j-preserved c =
    let e = c.in_ok-add_pair.ensures in
    let i = c.loop-j.invariant in
    record {
      gathered = e.gathered;
      grows = λ k h. e.grows k (i.grows k h);
      row = row_more c.args.face.margin c.args.face.places.now c.loop-j.found.items c.add_pair.new.found.items
          c.args.i c.loop-j.j e.grows i.row e.covers;
    }

pub returns : goal.returns
returns c =
    let i = c.loop-j.invariant in
    record {
      gathered = i.gathered;
      grows = i.grows;
      covers = λ j d h l. i.row j d h (omega (arith, l));
      err = tt;
    }
