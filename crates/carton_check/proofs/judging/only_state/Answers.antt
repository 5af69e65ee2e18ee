use Rattle.std.proofs.Common.{refl}
use Rattle.carton_check.proofs.Judged.{holds_alone, blocked_alone}
use Rattle.carton_check.proofs.judging.only_state.Goals as goal

pub returns-in-Clear : goal.returns-in-Clear
returns-in-Clear c = holds_alone c.args.carton.now c.args.state.now c.in-Clear.ensures

pub returns-in-Blocked : goal.returns-in-Blocked
returns-in-Blocked c = blocked_alone c.args.carton.now c.args.state.now c.in-Blocked.a.0 c.in-Blocked.b.0
    c.args.slack c.in-Blocked.moment _ c.in-Blocked.ensures record { num = refl; den = refl }
