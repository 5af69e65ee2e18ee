use Rattle.std.proofs.Common.{sym, subst}
use Rattle.carton_panels.proofs.DielinePanels.{are_panels}
use Rattle.carton_panels.specs.DielinePanels.{ArePanels}
use Rattle.carton_setup.proofs.Outcomes.{accepts, err_of}
use Rattle.carton_setup.specs.Outcomes.{IsOutcome}
use Rattle.carton_setup.specs.Rules.{panel_rule}
use Rattle.carton_words.specs.declared.kinds.FileKind.TheVariants.{Dieline}
use Rattle.carton_plan_commands.specs.Flat.{IsJudged, verdicts}
use Rattle.carton_plan_commands.specs.declared.flat.FlatVerdict.{FlatVerdict}
use Rattle.carton_plan_commands.proofs.flat.verdict_on.Goals as goal

pub returns-in-Ok : goal.returns-in-Ok
returns-in-Ok c = (
  subst (λ n. ArePanels c.args.margin c.args.raw.now n) c.in-Ok.ensures.whole
      (are_panels c.args.margin c.args.raw.now c.in-Ok.shapes.items c.in-Ok.ensures.shapes),
  c.judge.ensures,
)

pub returns-in-Err : goal.returns-in-Err
returns-in-Err c =
    let m = c.args.margin in
    let d = c.args.raw.now in
    let e = c.in-Err.e in
    subst (IsOutcome (verdicts m d)) (sym c.accept.ensures)
    (accepts Dieline panel_rule (IsJudged m d) (err_of FlatVerdict e) (λ wanted.
    let first = c.in-Err.ensures.refused wanted in
    (first.0, first.1, first.2, first.3, wanted)))
