use Rattle.std.proofs.Common.{◌+◌, ◌-◌, ◌/◌, ◌≤◌, arith}
use Rattle.carton_report.proofs.Nearer.{clear_gap, clear_less, clear_none}
use Rattle.carton_report.proofs.narrowing.JudgedMove.narrowed.Goals as goal

pub loop-certified-init : goal.loop-certified-init
loop-certified-init c =
    let p = c.args.self.now in
    let apart = clear_none p.carton.now p.motion.now c.args.a.0 c.args.b.0 c.requires.apart in
    (omega arith, omega arith, apart, c.requires.first)

pub loop-certified-preserved-in-Parted : goal.loop-certified-preserved-in-Parted
loop-certified-preserved-in-Parted c =
    let p = c.args.self.now in
    let l = c.loop-certified in
    let more = c.loop-certified-test.true in
    let half = l.certified + (l.near.clear - l.certified) / 2 in
    let gap = clear_gap p.carton.now p.motion.now c.args.a.0 c.args.b.0 half c.in-Parted.ensures in
    (omega (arith, more), l.invariant.1, gap, l.invariant.3)

pub returns-clause-near : goal.returns-clause-near
returns-clause-near c =
    let p = c.args.self.now in
    let l = c.loop-certified in
    let end = c.loop-certified-test.false in
    let le : l.near.clear ≤ l.certified = omega (arith, end) in
    record {
      certified = clear_less p.carton.now p.motion.now c.args.a.0 c.args.b.0 l.certified l.near.clear le
          l.invariant.2;
      there = l.invariant.3;
    }
