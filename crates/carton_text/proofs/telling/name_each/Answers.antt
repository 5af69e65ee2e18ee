use Rattle.std.proofs.Common.{◌≡◌, ap, sym, ◌∙◌, true, false, get_or}
use Rattle.std.specs.List.{list_any}
use Rattle.carton_text.specs.Jobs.{is_same, name_each}
use Rattle.carton_lines.proofs.Items.{first_left, none_left}
use Rattle.carton_text.proofs.Naming.{goes_on, ends, is_done}
use Rattle.carton_text.proofs.telling.name_each.Goals as goal

pub returns-then-contains : goal.returns-then-contains
returns-then-contains c = λ n.
    let e = get_or c.args.edges.now c.loop-edge.edge-index (record { 0 = 0 }) in
    let old : list_any (λ d. is_same d e) c.loop-edge.named ≡ true =
    ap (list_any (λ d. is_same d e)) (sym c.as_slice.ensures) ∙ sym c.contains.ensures.value
    ∙ c.if-contains.true in
    ends c.loop-edge.named _ e _ (name_each c.args.named c.args.edges.now)
    (first_left c.args.edges.now c.loop-edge.edge-index _ c.loop-edge-test.true) old c.loop-edge.invariant

pub loop-edge-preserved : goal.loop-edge-preserved
loop-edge-preserved c =
    let e = get_or c.args.edges.now c.loop-edge.edge-index (record { 0 = 0 }) in
    let new : list_any (λ d. is_same d e) c.loop-edge.named ≡ false =
    ap (list_any (λ d. is_same d e)) (sym c.as_slice.ensures) ∙ sym c.contains.ensures.value
    ∙ c.if-contains.false in
    rw c.in_ok-push.ensures.ok (goes_on c.loop-edge.named _ e _ (name_each c.args.named c.args.edges.now)
    (first_left c.args.edges.now c.loop-edge.edge-index _ c.loop-edge-test.true) new
    c.loop-edge.invariant)

pub returns : goal.returns
returns c = is_done c.loop-edge.named _ (name_each c.args.named c.args.edges.now)
    (none_left c.args.edges.now c.loop-edge.edge-index c.loop-edge-test.false) c.loop-edge.invariant
