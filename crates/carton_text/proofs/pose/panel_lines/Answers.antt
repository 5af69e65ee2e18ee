use Rattle.std.proofs.Common.{◌≡◌, ◌∙◌, List, ap, sym, subst, get_or, string_bytes}
use Rattle.std.specs.Prelude.{IfOk, Contains}
use Rattle.std.proofs.lemmas.Option.{get_or_from_slice_get}
use Rattle.carton_base.specs.declared.motion.Turn.{Turn}
use Rattle.carton_base.specs.declared.numbers.Triple.{Triple}
use Rattle.carton_model.specs.Turning.{laid, placed, angles_of}
use Rattle.carton_panels.specs.Shapes.{Shape}
use Rattle.carton_tree.specs.Trees.{Tree, path, turns_up}
use Rattle.carton_tree.proofs.Meeting.{root_on}
use Rattle.carton_place.specs.States.{fold_in}
use Rattle.carton_text.specs.Poses.{ArePieces, IsSpotLine}
use Rattle.carton_text.proofs.pose.panel_lines.Goals as goal

pub turns-turns-requires-clause-frame : goal.turns-turns-requires-clause-frame
turns-turns-requires-clause-frame c =
    let t : Tree = c.args.carton.now in
    subst (λ n. Contains (path t.joints c.args.panel.0) (record { 0 = n })) (sym c.root.ensures)
    (root_on t c.args.panel.0 c.requires.carton c.requires.panel)

pub returns : goal.returns
returns c = λ s.
    let t : Tree = c.args.carton.now in
    let state = c.args.state.now in
    let p = c.args.panel.0 in
    let Told = λ (ts : List Turn) (cs : List Triple). IfOk c.corner_lines.result
    (λ text. ArePieces (λ k corner. IsSpotLine p k (placed (fold_in state) ts (laid corner))) 0 cs
    (string_bytes text)) in
    let ts = c.turns-turns.result.now in
    let cs = c.corners-corners.result.now in
    let told : Told ts cs = c.corner_lines.ensures (angles_of (fold_in state) ts)
    c.still_swings-swings.ensures.holds in
    let turns : ts ≡ turns_up t.joints p t.root = c.turns-turns.ensures.turns
    ∙ ap (turns_up t.joints p) c.root.ensures in
    let shape : c.panel.result.now ≡ get_or t.panels p s =
    sym (get_or_from_slice_get t.panels p c.panel.result.now s (sym c.panel.ensures)) in
    let corners : cs ≡ (get_or t.panels p s).corners = c.corners-corners.ensures.corners
    ∙ ap (λ (x : Shape). x.corners) shape in
    subst (Told (turns_up t.joints p t.root)) corners (subst (λ x. Told x cs) turns told)
