use Rattle.std.proofs.Common.{◌≡◌, ◌+◌, sym, subst, get_or, slice_get, Some, false, arith}
use Rattle.std.proofs.lemmas.Option.{slice_get-get_or}
use Rattle.carton_fixture.specs.Steps.{AreFirst}
use Rattle.carton_fixture.proofs.Loops.{no_box, first_more}
use Rattle.carton_fixture.proofs.choosing.chosen_bodies.Goals as goal

pub loop-k-preserved : goal.loop-k-preserved
loop-k-preserved c =
    let k = c.loop-k.k in
    let boxes = c.args.candidates.now in
    let chosen = c.args.chosen.now in
    let at : slice_get boxes k ≡ Some (get_or boxes k no_box) =
    slice_get-get_or boxes k no_box c.loop-k-test.true in
    let marked : slice_get chosen k ≡ Some (get_or chosen k false) =
    slice_get-get_or chosen k false (omega (arith, c.loop-k-test.true, c.requires.one_each)) in
    record {
      first = subst (λ bs. AreFirst boxes chosen (k + 1) bs) (sym c.keep.ensures.items)
          (first_more boxes chosen k c.loop-k.bodies.items (get_or boxes k no_box) (get_or chosen k false) at
          marked c.loop-k.invariant.first);
      short = omega (arith, c.keep.ensures.len, c.loop-k.invariant.short);
      room = omega (arith, c.keep.ensures.room, c.loop-k.invariant.room);
    }
