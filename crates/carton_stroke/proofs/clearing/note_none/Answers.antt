use Rattle.std.proofs.Common.{arith, ◌≡◌, ◌∙◌, ◌<◌, length, refl}
use Rattle.std.proofs.lemmas.List.{length-set}
use Rattle.carton_place.proofs.Lists.{one_more_set}
use Rattle.carton_stroke.specs.declared.note.BodyNote.TheVariants.{Clears}
use Rattle.carton_stroke.proofs.clearing.note_none.Goals as goal

pub loop-k-preserved : goal.loop-k-preserved
loop-k-preserved c =
    let k = c.loop-k.k in
    let xs = c.loop-k.notes in
    let lt : k < length xs = omega (arith, c.loop-k.invariant.0, c.loop-k-test.true) in (
      length-set xs k Clears
          ∙ c.loop-k.invariant.0,
      one_more_set (λ k m. m ≡ Clears) xs k Clears lt refl c.loop-k.invariant.1,
    )

pub returns-clause-clear : goal.returns-clause-clear
returns-clause-clear c =
    λ k m lt. c.loop-k.invariant.1 k m (omega (arith, lt, c.loop-k.invariant.0, c.loop-k-test.false))
