-- From the steps to the answer.
use Rattle.std.proofs.Common.{◌≡◌, ℕ, inl, Result, Ok, Err, sym, subst}
use Rattle.std.specs.Prelude.{IfOk, IfErr}
use Rattle.carton_base.specs.declared.dieline.RawDieline.{RawDieline}
use Rattle.carton_tree.specs.declared.error.TreeError.{TreeError}
use Rattle.carton_tree.specs.declared.error.TreeError.TheVariants.{Memory}
use Rattle.carton_tree.specs.Trees.{Tree}
use Rattle.carton_tree.specs.Rules.{KeepsPanels, KeepsAxes, KeepsShallow}
use Rattle.carton_tree.specs.Answers.{IsTreeOf, IsTreeAnswer}

pub answered : (m : ℕ) (d : RawDieline) (root : ℕ) (t : Tree) (r : Result Tree TreeError)
    → IfOk r (λ x. x ≡ t) → IfErr r (λ e. e ≡ Memory) → KeepsPanels m d → KeepsAxes d → KeepsShallow d root
    → IsTreeOf m d root t → IsTreeAnswer m d root r
answered m d root t (Ok x) is none panels axes shallow tree =
    (panels, axes, shallow, subst (IsTreeOf m d root) (sym is) tree)
answered m d root t (Err e) is none panels axes shallow tree =
    subst (λ e. IsTreeAnswer m d root (Err e)) (sym none) (inl tt)
