use Rattle.std.proofs.Common.{◌≡◌, ◌+◌, ◌<◌, List, ◌++◌, ◌∙◌, ap, sym, subst, take, length, string_bytes}
use Rattle.std.proofs.Common.{arith}
use Rattle.std.specs.Prelude.{ℕ}
use Rattle.carton_base.specs.declared.numbers.Triple.{Triple}
use Rattle.carton_model.specs.Turning.{laid, turned_through}
use Rattle.carton_text.specs.Poses.{ArePieces, IsSpotLine}
use Rattle.carton_text.proofs.Pieces.{next_piece, all_pieces}
use Rattle.carton_text.proofs.pose.corner_lines.Goals as goal

pub loop-k-preserved : goal.loop-k-preserved
loop-k-preserved c = λ angles held.
    let IsLine : ℕ → Triple → List ℕ
    → Type 0 =
    λ k corner. IsSpotLine c.args.panel k (turned_through c.args.turns.now angles (laid corner)) in
    let corners = c.args.corners.now in
    let k = c.loop-k.k in
    let line = string_bytes c.in_ok-line.line in
    let so_far = string_bytes c.loop-k.text in
    let text : string_bytes c.push_str.new.self ≡ so_far ++ line = c.in_ok-push_str.ensures.bytes
    ∙ ap (λ b. so_far ++ b) c.deref.ensures in
    let lt : k < length corners = omega (arith, c.loop-k-test.true) in
    subst (ArePieces IsLine 0 (take (k + 1) corners)) (sym text)
    (next_piece IsLine corners k c.index-corners-k.result so_far line lt c.index-corners-k.is
    (c.spot_of.result, c.spot_of.ensures angles held, c.in_ok-line.ensures)
    (c.loop-k.invariant angles held))

pub returns : goal.returns
returns c = λ angles held.
    all_pieces
    (λ k (corner : Triple). IsSpotLine c.args.panel k
    (turned_through c.args.turns.now angles (laid corner))) c.args.corners.now c.loop-k.k
    (string_bytes c.loop-k.text) (omega (arith, c.loop-k-test.false)) (c.loop-k.invariant angles held)
