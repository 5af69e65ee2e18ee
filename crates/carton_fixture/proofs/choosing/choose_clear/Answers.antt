use Rattle.std.proofs.Common.{◌≡◌, ◌∙◌, ap, sym, add-one, false, get_or, length, slice_set, arith}
use Rattle.std.proofs.lemmas.List.{get_or-map, length-map}
use Rattle.carton_fixture.specs.Answers.{clears, clear_ones}
use Rattle.carton_fixture.proofs.Loops.{written}
use Rattle.carton_fixture.proofs.choosing.choose_clear.Goals as goal

pub loop-k-preserved : goal.loop-k-preserved
loop-k-preserved c =
    let ns = c.args.notes.now in
    let k = c.loop-k.k in
    let d = c.index-notes-k.result in
    let value : c.clears.result ≡ get_or (clear_ones ns) k false = c.clears.ensures
    ∙ ap clears c.index-notes-k.is ∙ sym (get_or-map clears ns k d false c.loop-k-test.true) in
    let one : length (clear_ones ns) ≡ length c.args.chosen.now = length-map ns clears ∙ sym c.requires in
    rw add-one ((λ i. slice_set (c.loop-k.invariant i) k (value i))
    ∙ written (clear_ones ns) c.args.chosen.now k one (omega
    (arith, c.loop-k-test.true, length-map ns clears)))
