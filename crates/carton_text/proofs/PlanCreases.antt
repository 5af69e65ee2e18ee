-- The free joints of a carton keep the rules of a plan's.
use Rattle.std.proofs.Common.{ℕ, ◌<◌, length, arith}
use Rattle.carton_base.specs.declared.dieline.RawDieline.{RawDieline}
use Rattle.carton_model.specs.Dielines.{IsDieline}
use Rattle.carton_tree.specs.Answers.{IsTreeOf}
use Rattle.carton_tree.specs.Joints.{IsJoint}
use Rattle.carton_tree.specs.Trees.{Tree}
use Rattle.carton_text.specs.PlanRules.{AreCreases}
use Rattle.carton_tree.proofs.FreeJoints.{fewer_creases}

-- a joint is one of the edges
joint_within : (d : RawDieline) (k : ℕ) → IsJoint d k → k < length d.edges
joint_within d k joint = joint.2.crease.side_of_first.3.within

pub plan_creases : (m : ℕ) (d : RawDieline) (root : ℕ) (t : Tree) → IsDieline d → IsTreeOf m d root t
    → AreCreases t.creases
plan_creases m d root t dieline h = record {
  few = omega (arith, fewer_creases m d root t h, h.carton.few);
  each = λ i e lt. omega (arith, joint_within d _ (h.creases.free i e lt).joint, dieline.edges);
  rising = h.creases.ordered;
}
