use Rattle.std.proofs.Common.{◌≡◌, ◌∙◌, ◌+◌, ◌<◌, ◌++◌, ap, sym, List, [], ◌∷◌, length, take, get_or}
use Rattle.std.proofs.Common.{filter_map, Option, Some, None, refl, arith}
use Rattle.std.proofs.lemmas.List.{take_more}
use Rattle.std.proofs.lemmas.List.Elements.{filter_map-append}
use Rattle.carton_base.specs.declared.ids.EdgeId.{EdgeId}
use Rattle.carton_tree.specs.declared.joint.Joint.{Joint}
use Rattle.carton_text.specs.CartonTasks.{locked_edge, given}
use Rattle.carton_text.proofs.carton_task.locked_joints.Goals as goal

one_given : (o : Option Joint) → filter_map locked_edge (o ∷ []) ≡ given (locked_edge o)
one_given o = by_edge (locked_edge o)
  where
    by_edge : (e : Option EdgeId) → filter_map (λ (x : Option Joint). e) (o ∷ []) ≡ given e
    by_edge None = refl
    by_edge (Some e) = refl

pub loop-panel-preserved : goal.loop-panel-preserved
loop-panel-preserved c =
    let js : List (Option Joint) = c.args.carton.now.joints in
    let p = c.loop-panel.panel in
    let x : Option Joint = get_or js p None in
    let lt : p < length js =
    omega (
      arith,
      c.loop-panel-test.true,
      c.panels-panel-end.ensures.count,
      c.panels-panel-end.ensures.carton.joints,
    ) in
    let edge : c.locked_edge.result ≡ locked_edge x = c.locked_edge.ensures
    ∙ ap locked_edge c.joint.ensures in
    let more : filter_map locked_edge (take (p + 1) js) ≡ filter_map locked_edge (take p js)
    ++ given (locked_edge x) =
    ap (λ (os : List (Option Joint)). filter_map locked_edge os) (take_more js p None lt)
    ∙ filter_map-append locked_edge (take p js) (x ∷ [])
    ∙ ap (λ (es : List EdgeId). filter_map locked_edge (take p js) ++ es) (one_given x) in
    c.in_ok-add.ensures ∙ (λ i. c.loop-panel.invariant i ++ given (edge i)) ∙ sym more
