use Rattle.std.proofs.Common.{sym, subst, IfOk}
use Rattle.carton_setup.specs.Outcomes.{IsOutcome}
use Rattle.carton_setup.specs.Rules.{tree_rule}
use Rattle.carton_setup.specs.Setups.{cartons}
use Rattle.carton_setup.proofs.Creases.{is_carton, has_plan_creases}
use Rattle.carton_setup.proofs.Outcomes.{accepts, kept}
use Rattle.carton_text.specs.PlanRules.{AreCreases}
use Rattle.carton_tree.specs.Answers.{IsTreeAnswer}
use Rattle.carton_tree.specs.Cartons.{IsCarton}
use Rattle.carton_tree.specs.Trees.{Tree}
use Rattle.carton_words.specs.declared.kinds.FileKind.TheVariants.{Dieline}
use Rattle.carton_setup.proofs.setup.carton_in.Goals as goal

pub returns-clause-hangs : goal.returns-clause-hangs
returns-clause-hangs c =
    let job = c.args.job.now in
    subst (IsOutcome (cartons c.args.raw.now job)) (sym c.accept.ensures)
    (accepts Dieline tree_rule (IsTreeAnswer job.margin c.args.raw.now job.root) c.tree-hung.result
    c.tree-hung.ensures)

pub returns-clause-keeps_rules : goal.returns-clause-keeps_rules
returns-clause-keeps_rules c =
    let job = c.args.job.now in
    subst (λ r. IfOk r IsCarton) (sym c.accept.ensures)
    (kept Dieline tree_rule IsCarton c.tree-hung.result
    (is_carton job.margin c.args.raw.now job.root c.tree-hung.result c.tree-hung.ensures))

pub returns-clause-creases : goal.returns-clause-creases
returns-clause-creases c =
    let job = c.args.job.now in
    let kept_creases = has_plan_creases job.margin c.args.raw.now job.root c.tree-hung.result
    c.requires.dieline c.tree-hung.ensures in
    subst (λ r. IfOk r (λ (t : Tree). AreCreases t.creases)) (sym c.accept.ensures)
    (kept Dieline tree_rule (λ (t : Tree). AreCreases t.creases) c.tree-hung.result kept_creases)
