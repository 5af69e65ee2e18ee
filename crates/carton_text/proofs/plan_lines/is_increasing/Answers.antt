use Rattle.std.proofs.Common.{◌-◌, ◌∙◌, sym, drop, arith}
use Rattle.std.proofs.lemmas.List.{length-drop}
use Rattle.carton_text.proofs.Rising.{short_increasing}
use Rattle.carton_text.proofs.plan_lines.is_increasing.Goals as goal

pub returns : goal.returns
returns c =
    let zs = c.args.numbers.now in
    let k = c.loop-place.place - 1 in
    sym (short_increasing (drop k zs)
    (omega (arith, length-drop k zs, c.loop-place-test.false, c.loop-place.invariant.0)))
    ∙ c.loop-place.invariant.1
