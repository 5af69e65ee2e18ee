use Rattle.std.proofs.Common.{sym, map}
use Rattle.std.proofs.lemmas.Result.{err_from_is_err_and}
use Rattle.carton_base.specs.Steps.{entries_from}
use Rattle.carton_lines.specs.Numbers.{number_in}
use Rattle.carton_base.proofs.Entries.{goes_on, ends, is_done, no_entry}
use Rattle.carton_lines.proofs.Items.{next_copy}
use Rattle.carton_lines.proofs.decimals.numbers.Goals as goal

pub returns-in_err-number_at : goal.returns-in_err-number_at
returns-in_err-number_at c =
    let p = err_from_is_err_and c.from_residual.result c.from_residual.ensures.1 in
    rw (p.1, p.2) (λ n. ends (λ i. number_in) c.in_err-number_at.field-0.0 c.loop-word.found.items
    c.loop-word.word-index _ _ _ (entries_from (λ i. number_in) 0 (map (λ w. w.now) c.args.words.now))
    (next_copy (λ w. w.now) c.args.words.now c.loop-word.word-index _ c.loop-word-test.true)
    (sym c.in_err-number_at.ensures) c.loop-word.invariant)

pub loop-word-preserved : goal.loop-word-preserved
loop-word-preserved c =
    rw c.in_ok-push.ensures.items (goes_on (λ i. number_in) c.loop-word.found.items c.loop-word.word-index _ _
    _ c.in_ok-number_at.field-0 (entries_from (λ i. number_in) 0 (map (λ w. w.now) c.args.words.now))
    (next_copy (λ w. w.now) c.args.words.now c.loop-word.word-index _ c.loop-word-test.true)
    (sym c.in_ok-number_at.ensures) c.loop-word.invariant)

pub returns : goal.returns
returns c = is_done (λ i. number_in) c.loop-word.found.items c.loop-word.word-index _
    (entries_from (λ i. number_in) 0 (map (λ w. w.now) c.args.words.now))
    (no_entry (λ w. w.now) c.args.words.now c.loop-word.word-index c.loop-word-test.false)
    c.loop-word.invariant
