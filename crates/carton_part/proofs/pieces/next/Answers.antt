use Rattle.std.proofs.Common.{arith, ◌≡◌, ◌+◌, ◌-◌, ◌*◌, ◌/◌, ◌^◌, ◌<◌, ap, ◌∙◌, refl}
use Rattle.carton_part.proofs.Walks.{power_more}
use Rattle.carton_part.proofs.pieces.next.Goals.{then-loop-depth-test+else-index-eq0, else-loop-depth-test}
use Rattle.carton_part.proofs.pieces.next.Goals as goal

pub loop-depth-init : goal.loop-depth-init
loop-depth-init c = (omega arith, omega arith, omega (arith, c.args.piece.within), refl)

pub loop-depth-preserved : goal.loop-depth-preserved
loop-depth-preserved c =
    let i = c.loop-depth.index in
    let k = c.loop-depth.depth in
    let h = c.loop-depth.invariant in
    let even : i ≡ 2 * (i / 2) = omega (arith, c.if-index-eq0.true) in
    let deep : k ≡ (k - 1) + 1 = omega (arith, c.loop-depth-test.true) in
    let power : 2 ^ k ≡ 2 * 2 ^ (k - 1) = ap (λ x. 2 ^ x) deep ∙ power_more (k - 1) in
    let a : i * 2 ^ c.args.piece.depth ≡ 2 * (i / 2) * 2 ^ c.args.piece.depth =
    ap (λ x. x * 2 ^ c.args.piece.depth) even in
    let b : (c.args.piece.index + 1) * 2 ^ k ≡ (c.args.piece.index + 1) * (2 * 2 ^ (k - 1)) =
    ap (λ x. (c.args.piece.index + 1) * x) power in
    (omega (arith, h.0), omega (arith, even, h.1), omega (arith, even, power, h.2), omega (arith, a, b, h.3))

pub returns-then-depth-eq0-clause-none : goal.returns-then-depth-eq0-clause-none
returns-then-depth-eq0-clause-none c = λ _.
    let i = c.loop-depth.index in
    let k = c.loop-depth.depth in
    let h = c.loop-depth.invariant in
    let power : 2 ^ k ≡ 1 = ap (λ x. 2 ^ x) c.if-depth-eq0.true in
    let one : i ≡ 1 = omega (arith, power, h.1, h.2) in
    let a = ap (λ x. x * 2 ^ c.args.piece.depth) one in
    let b = ap (λ x. (c.args.piece.index + 1) * x) power in
    omega (arith, a, b, h.3)

pub invariant_of-result : goal.invariant_of-result
invariant_of-result c =
    let i = c.loop-depth.index in
    let k = c.loop-depth.depth in
    let h = c.loop-depth.invariant in
    let some : 0 < k = omega (arith, c.if-depth-eq0.false) in
    let deep : k ≡ (k - 1) + 1 = omega (arith, some) in
    let power : 2 ^ k ≡ 2 * 2 ^ (k - 1) = ap (λ x. 2 ^ x) deep ∙ power_more (k - 1) in
    elim c.loop-depth-test.branch [
      | then-loop-depth-test+else-index-eq0 w ↦ record {
        within = omega (arith, power, h.2, w.if-index-eq0);
        shallow = omega (arith, h.0, c.args.piece.shallow);
      }
      | else-loop-depth-test w ↦ absurd (omega (arith, some, w.loop-depth-test))
    ]

pub returns-clause-some : goal.returns-clause-some
returns-clause-some c = record { shallower = c.loop-depth.invariant.0; starts = c.loop-depth.invariant.3 }
