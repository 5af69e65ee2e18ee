use Rattle.std.proofs.Common.{◌≡◌, ◌<◌, ◌^◌, Ok, true, false, arith, sym, ◌∙◌, ap}
use Rattle.std.specs.Fmt.{decimal}
use Rattle.std.proofs.lemmas.Fmt.{parse-decimal}
use Rattle.carton_words.proofs.givens.number_in.Goals as goal
use Rattle.carton_words.proofs.givens.number_in.Goals.{else-least-number-via-then-least-number+then-number-most+else-is_same}
use Rattle.carton_words.proofs.givens.number_in.Goals.{else-least-number-via-then-least-number+else-number-most}
use Rattle.carton_words.proofs.givens.number_in.Goals.{else-least-number-via-else-least-number}

pub returns-in_default : goal.returns-in_default
returns-in_default c = λ n above below e.
    let fits : n < 2 ^ 64 = omega (arith, below, c.ranges.most.fits) in
    let parsed : c.parse.result ≡ Ok n =
    parse-decimal 16 n c.args.word.now c.parse.result (omega arith) fits e c.parse.ensures.value.0 in
    cc

pub returns : goal.returns
returns c = λ n above below e.
    let fits : n < 2 ^ 64 = omega (arith, below, c.ranges.most.fits) in
    let parsed : c.parse.result ≡ Ok n =
    parse-decimal 16 n c.args.word.now c.parse.result (omega arith) fits e c.parse.ensures.value.0 in
    let same : c.in-Ok.number ≡ n = cc in
    elim c.else-least-number.branch [
      | else-least-number-via-then-least-number+then-number-most+else-is_same w ↦
          let spelled : w.as_str.result.now ≡ c.args.word.now =
          w.as_str.ensures.value ∙ c.in_ok-spelled.ensures.ok ∙ ap decimal same ∙ sym e in
          let found : w.is_same.result ≡ true = w.is_same.ensures.1 spelled in
          let missed : w.is_same.result ≡ false = w.if-is_same.false in
          cc
      | else-least-number-via-then-least-number+else-number-most w ↦
          absurd (omega (arith, same, below, w.if-number-most.false))
      | else-least-number-via-else-least-number w ↦
          absurd (omega (arith, same, above, w.if-least-number.false))
    ]
