use Rattle.std.proofs.Common.{refl}
use Rattle.carton_report.proofs.Certified.{certified, tightest}
use Rattle.carton_report.proofs.reporting.row_at.Goals as goal

pub tightest-requires-clause-apart : goal.tightest-requires-clause-apart
tightest-requires-clause-apart c =
    c.requires.apart.moves c.args.i c.move_at-motion.result.from c.move_at-motion.result.to
    c.move_at-motion.ensures.is

pub returns-in-Some : goal.returns-in-Some
returns-in-Some c = (
  refl,
  tightest c.args.carton.now c.args.states.now c.args.i c.move_at-motion.result
      c.in-Some.field-0 c.move_at-motion.ensures.is c.in-Some.ensures.tight c.in-Some.ensures.clear,
)

pub returns-in-None : goal.returns-in-None
returns-in-None c = (
  refl,
  certified c.args.carton.now c.args.states.now c.args.i 10000 c.move_at-motion.result
      c.move_at-motion.ensures.is c.in-None.ensures.clear,
)
