use Rattle.std.proofs.Common.{ℕ, ◌<◌, arith}
use Rattle.carton_reach.specs.Axes.{axis_at}
use Rattle.carton_reach.specs.Corners.{IsReachAt}
use Rattle.carton_reach.proofs.Along.{AreParts, all_along, each_axis}
use Rattle.carton_reach.proofs.corners.reaches_at.Goals as goal

pub returns-clause-reaches : goal.returns-clause-reaches
returns-clause-reaches g c =
    let at = c.args.at in
    let parts : AreParts g.E.Enclose.holds g.E.Enclose.size g.E.Enclose.spread at c.add-up.result
    c.sub-down.result c.sub.result c.sub-2.result c.sub-3.result c.sub-4.result c.add.result
    c.add-2.result c.add-3.result c.add-4.result = record {
      p_up = record {
        held = c.add-up.ensures.holds;
        small = c.add-up.ensures.size;
        narrow = c.add-up.ensures.spread;
      };
      p_down = record {
        held = c.sub-down.ensures.holds;
        small = c.sub-down.ensures.size;
        narrow = c.sub-down.ensures.spread;
      };
      p4 = record { held = c.sub.ensures.holds; small = c.sub.ensures.size; narrow = c.sub.ensures.spread };
      p5 = record {
        held = c.sub-2.ensures.holds;
        small = c.sub-2.ensures.size;
        narrow = c.sub-2.ensures.spread;
      };
      p6 = record {
        held = c.sub-3.ensures.holds;
        small = c.sub-3.ensures.size;
        narrow = c.sub-3.ensures.spread;
      };
      p7 = record {
        held = c.sub-4.ensures.holds;
        small = c.sub-4.ensures.size;
        narrow = c.sub-4.ensures.spread;
      };
      p9 = record { held = c.add.ensures.holds; small = c.add.ensures.size; narrow = c.add.ensures.spread };
      p10 = record {
        held = c.add-2.ensures.holds;
        small = c.add-2.ensures.size;
        narrow = c.add-2.ensures.spread;
      };
      p11 = record {
        held = c.add-3.ensures.holds;
        small = c.add-3.ensures.size;
        narrow = c.add-3.ensures.spread;
      };
      p12 = record {
        held = c.add-4.ensures.holds;
        small = c.add-4.ensures.size;
        narrow = c.add-4.ensures.spread;
      };
    } in
    let along = λ (a : ℕ) (l : a < 13). all_along g.E.Enclose.holds g.E.Enclose.size g.E.Enclose.spread at
    c.add-up.result c.sub-down.result c.sub.result c.sub-2.result c.sub-3.result c.sub-4.result
    c.add.result c.add-2.result c.add-3.result c.add-4.result parts a at.z l in
    each_axis (λ a r. IsReachAt g.E.Enclose.holds g.E.Enclose.spread at (axis_at a) r) _ _ _ _ _ _ _ _ _ _ _ _
    _
    (c.reach_of.ensures at (axis_at 0) (along 0 (omega arith)))
    (c.reach_of-2.ensures at (axis_at 1) (along 1 (omega arith)))
    (c.reach_of-3.ensures at (axis_at 2) (along 2 (omega arith)))
    (c.reach_of-4.ensures at (axis_at 3) (along 3 (omega arith)))
    (c.reach_of-5.ensures at (axis_at 4) (along 4 (omega arith)))
    (c.reach_of-6.ensures at (axis_at 5) (along 5 (omega arith)))
    (c.reach_of-7.ensures at (axis_at 6) (along 6 (omega arith)))
    (c.reach_of-8.ensures at (axis_at 7) (along 7 (omega arith)))
    (c.reach_of-9.ensures at (axis_at 8) (along 8 (omega arith)))
    (c.reach_of-10.ensures at (axis_at 9) (along 9 (omega arith)))
    (c.reach_of-11.ensures at (axis_at 10) (along 10 (omega arith)))
    (c.reach_of-12.ensures at (axis_at 11) (along 11 (omega arith)))
    (c.reach_of-13.ensures at (axis_at 12) (along 12 (omega arith)))
