use Rattle.std.proofs.Common.{◌≡◌, ◌+◌, ◌<◌, ◌++◌, ◌∙◌, [], ap, sym, subst, take, length, get_or}
use Rattle.std.proofs.Common.{string_bytes, arith}
use Rattle.std.proofs.lemmas.List.{get_or_default}
use Rattle.carton_panels.specs.Shapes.{Shape}
use Rattle.carton_tree.specs.Trees.{Tree}
use Rattle.carton_text.specs.Poses.{ArePieces, ArePanelLines}
use Rattle.carton_text.proofs.Pieces.{next_piece}
use Rattle.carton_text.proofs.pose.pose_text.Goals as goal

pub loop-panel-preserved : goal.loop-panel-preserved
loop-panel-preserved c =
    let t : Tree = c.args.carton.now in
    let state = c.args.state.now in
    let p = c.loop-panel.panel in
    let lines = string_bytes c.in_ok-lines.lines in
    let so_far = string_bytes c.loop-panel.text in
    let none : Shape = record { places = []; margin = 0; corners = []; shrunk = [] } in
    let shape : Shape = get_or t.panels p none in
    let text : string_bytes c.push_str.new.self ≡ so_far ++ lines = c.in_ok-push_str.ensures.bytes
    ∙ ap (λ b. so_far ++ b) c.deref.ensures in
    let lt : p < length t.panels = omega (arith, c.loop-panel-test.true, c.panels-panel-end.ensures.count) in
    subst (ArePieces (ArePanelLines t state) 0 (take (p + 1) t.panels)) (sym text)
    (next_piece (ArePanelLines t state) t.panels p shape so_far lines lt
    (get_or_default t.panels p none shape lt) (c.in_ok-lines.ensures none) c.loop-panel.invariant)
