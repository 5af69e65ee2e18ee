use Rattle.std.proofs.Common.{rules, ◌≡◌, ◌<◌, length, get_or, arith, subst, sym, true, SFits, pos, ◌≤ℤ◌}
use lib.Signed.{lt_z}
use Rattle.std.specs.Int.{w128}
use Rattle.std.proofs.lemmas.Int.{to_z-of_z}
use Rattle.std.proofs.lemmas.Result.{on_ok_weaker}
use Rattle.carton_panels.specs.Panels.{Side, sides_of, origin}
use Rattle.carton_base.proofs.Tests.{below_zero}
use Rattle.carton_panels.proofs.Steps.{length-around}
use Rattle.carton_panels.proofs.Crossed.{pair_covered, corner_at}
use Rattle.carton_panels.proofs.crossings.add_pair.Goals as goal

abbrev nowhere : Side
nowhere = record { from = origin; to = origin }

pub gap-requires-clause-t : goal.gap-requires-clause-t
gap-requires-clause-t c = (c.in-Some.ensures nowhere).0

pub returns-then-gap-lt0-clause-covers : goal.returns-then-gap-lt0-clause-covers
returns-then-gap-lt0-clause-covers c = λ d.
    let ps = c.args.face.places.now in
    let f : SFits w128 c.gap.result = search rules in
    let under : lt_z c.gap.result (pos 0) ≡ true = simp to_z-of_z at c.if-gap-lt0.true in
    let here : c.next_in_round.result < length (sides_of ps) =
    omega (arith, length-around ps, c.next_in_round.ensures.within) in
    pair_covered c.args.face.margin ps c.args.found.now.items (get_or (sides_of ps) c.args.i d)
    (get_or (sides_of ps) c.args.j d) c.in-Some.t (c.in-Some.ensures d)
    (λ keeps.
    absurd (below_zero c.gap.result under
    (subst (λ n. pos 0 ≤ℤ n) (sym (c.gap.ensures d)) (keeps c.next_in_round.result d here))))

pub add-requires-clause-t : goal.add-requires-clause-t
add-requires-clause-t c = (c.in-Some.ensures nowhere).0

pub add-requires-clause-corner : goal.add-requires-clause-corner
add-requires-clause-corner c = corner_at c.args.face.margin c.args.face.places.now c.args.i c.args.j nowhere
    c.in-Some.t c.requires.i c.requires.j (c.in-Some.ensures nowhere)

pub returns-clause-covers : goal.returns-clause-covers
returns-clause-covers c =
    on_ok_weaker c.add.result (λ h d. pair_covered c.args.face.margin c.args.face.places.now
    c.add.new.found.items (get_or (sides_of c.args.face.places.now) c.args.i d)
    (get_or (sides_of c.args.face.places.now) c.args.j d) c.in-Some.t (c.in-Some.ensures d) h)
    c.add.ensures.covers
