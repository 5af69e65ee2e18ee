use Rattle.std.proofs.Common.{◌+◌, ◌-◌, arith}
use Rattle.carton_report.proofs.Nearer.{clear_gap, clear_less, clear_none}
use Rattle.carton_report.proofs.narrowing.JudgedMove.nearer.Goals as goal

pub returns-then-clear-eq0-clause-none : goal.returns-then-clear-eq0-clause-none
returns-then-clear-eq0-clause-none c =
    let t = c.args.self.now.carton.now in
    let motion = c.args.self.now.motion.now in
    let none = c.if-clear-eq0.true in
    let apart = clear_none t motion c.args.a.0 c.args.b.0 c.requires.apart in
    λ _. clear_less t motion c.args.a.0 c.args.b.0 0 c.args.clear (omega (arith, none)) apart

pub returns-in-Parted-clause-none : goal.returns-in-Parted-clause-none
returns-in-Parted-clause-none c =
    let t = c.args.self.now.carton.now in
    let motion = c.args.self.now.motion.now in
    let some = c.if-clear-eq0.false in
    let gap = clear_gap t motion c.args.a.0 c.args.b.0 (c.args.clear - 1) c.in-Parted.ensures in
    λ _. clear_less t motion c.args.a.0 c.args.b.0 (c.args.clear - 1 + 1) c.args.clear (omega (arith, some))
    gap
