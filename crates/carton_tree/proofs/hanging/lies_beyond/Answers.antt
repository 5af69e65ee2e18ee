use Rattle.std.proofs.Common.{◌≡◌, ℕ, ◌<◌, ◌↔◌, Bool, IsTrue, List, length, get_or, SFits, ℤ, subst}
use Rattle.std.specs.Int.{w32}
use Rattle.std.proofs.lemmas.Int.{to_z-of_z}
use Rattle.carton_base.specs.declared.dieline.RawDieline.{RawDieline}
use Rattle.carton_base.proofs.Loops.{NoneBelow, at_no, none_more_read}
use Rattle.carton_tree.specs.Joints.{vertices_of}
use Rattle.carton_tree.proofs.Placing.{IsBeyond}
use Rattle.carton_tree.proofs.hanging.lies_beyond.Goals as goal

-- what the test of the vertex that was read tells of the panel's vertices
at_vertex : (d : RawDieline) (upright : Bool) (at : ℤ) (vs read : List ℕ) (k : ℕ) (b : Bool) → read ≡ vs
    → k < length read
    → IsTrue b ↔ IsBeyond d upright at (get_or read k 0) → (k < length vs)
    × (IsTrue b ↔ IsBeyond d upright at (get_or vs k 0))
at_vertex d upright at vs read k b e lt says = (
  subst (λ (l : List ℕ). k < length l) e lt,
  subst (λ (l : List ℕ). IsTrue b
      ↔ IsBeyond d upright at (get_or l k 0)) e says,
)

pub loop-v-preserved : goal.loop-v-preserved
loop-v-preserved c =
    let vs = vertices_of c.args.raw.now c.args.panel.0 in
    let k = c.loop-v.v-index in
    let f : SFits w32 c.args.at = c.ranges.at in
    let here = at_vertex c.args.raw.now c.args.upright c.args.at vs c.vertices_of-v-items.result.now k
    c.is_beyond.result c.vertices_of-v-items.ensures c.loop-v-test.true
    (simp to_z-of_z at c.is_beyond.ensures) in
    let before : NoneBelow (IsBeyond c.args.raw.now c.args.upright c.args.at) vs k =
    simp to_z-of_z at c.loop-v.invariant in
    simp to_z-of_z (none_more_read (IsBeyond c.args.raw.now c.args.upright c.args.at) vs k 0 here.0
    (at_no c.if-is_beyond.false here.1) before)
