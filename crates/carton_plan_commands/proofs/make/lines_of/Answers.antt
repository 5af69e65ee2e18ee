use Rattle.std.proofs.Common.{◌≡◌, ◌∙◌, ◌+◌, ap, sym, subst, List, ℕ, ◌++◌, arith}
use Rattle.carton_plan_commands.specs.Make.{made_line, moves_in, AreLinesOf}
use Rattle.carton_plan_commands.proofs.MadeLines.{next_line}
use Rattle.carton_plan_commands.proofs.make.lines_of.Goals as goal

pub loop-k-preserved : goal.loop-k-preserved
loop-k-preserved c =
    let k = c.loop-k.k in
    let so_far = c.loop-k.lines.items in
    let total = c.loop-k.total in
    let outcome = c.in_ok-outcome.outcome in
    let lines : c.extend_from_slice.new.self.items ≡ so_far ++ made_line k outcome =
    c.in_ok-extend_from_slice.ensures.items ∙ ap (λ (b : List ℕ). so_far ++ b) (c.as_bytes.ensures.value
    ∙ c.in_ok-made_line.ensures) in
    let next = next_line k so_far total outcome c.loop-k.invariant.0 c.in_ok-outcome.ensures.planned in (
      subst (λ n. AreLinesOf (k + 1) c.extend_from_slice.new.self.items (total + n)) (sym c.moves_in.ensures)
          (subst (λ ls. AreLinesOf (k + 1) ls (total + moves_in outcome)) (sym lines) next),
      omega (arith, c.loop-k.invariant.1, c.moves_in.ensures, c.in_ok-outcome.ensures.few),
    )
