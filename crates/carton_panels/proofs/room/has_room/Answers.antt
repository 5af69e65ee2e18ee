use Rattle.std.proofs.Common.{◌<◌, ◌≤◌, length, subst, arith, pos, ◌<ℤ◌}
use Rattle.std.specs.Prelude.{Any}
use Rattle.std.proofs.lemmas.List.{get_or_default}
use Rattle.carton_base.specs.declared.numbers.Triple.{Triple}
use Rattle.carton_panels.specs.Panels.{Side, sides_of, origin}
use Rattle.carton_panels.specs.Insets.{inset}
use Rattle.carton_panels.proofs.Steps.{length-around}
use Rattle.carton_base.proofs.Loops.{at_yes, at_no, below_more_all, all_end, any_read}
use Rattle.carton_panels.proofs.room.has_room.Goals as goal

pub returns-then-not-has_one_off-clause-none : goal.returns-then-not-has_one_off-clause-none
returns-then-not-has_one_off-clause-none c = λ e.
    let sides = sides_of c.args.face.places.now in
    let k = c.loop-k.k in
    let here : c.loop-k.k < length (sides_of c.args.face.places.now) =
    omega (arith, length-around c.args.face.places.now) in
    let off : Side
    → Type 0 =
    λ s. Any (λ (t : Triple). pos 0 <ℤ inset c.args.face.margin s t.x t.y t.w) c.args.found.now in
    let d : Side = record { from = origin; to = origin } in
    any_read (λ (s : Side). ¬ (off s)) sides c.loop-k.k d here
    (λ h. at_no c.if-not-has_one_off.true c.has_one_off.ensures
    (λ g. subst off (get_or_default sides c.loop-k.k d g here) h))

pub loop-k-preserved : goal.loop-k-preserved
loop-k-preserved c =
    below_more_all (λ (s : Side). Any (λ (t : Triple). pos 0 <ℤ inset c.args.face.margin s t.x t.y t.w)
    c.args.found.now) (sides_of c.args.face.places.now) c.loop-k.k
    (at_yes c.if-not-has_one_off.false c.has_one_off.ensures) c.loop-k.invariant

pub returns-clause-room : goal.returns-clause-room
returns-clause-room c = λ e.
    let end' : length (sides_of c.args.face.places.now) ≤ c.loop-k.k =
    omega (arith, length-around c.args.face.places.now) in
    all_end (λ (s : Side). Any (λ (t : Triple). pos 0 <ℤ inset c.args.face.margin s t.x t.y t.w)
    c.args.found.now) (sides_of c.args.face.places.now) c.loop-k.k end' c.loop-k.invariant
