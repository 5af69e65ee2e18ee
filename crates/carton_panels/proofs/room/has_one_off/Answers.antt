use Rattle.std.proofs.Common.{rules, ◌≡◌, get_or, subst, sym, true, false, SFits, pos, ◌<ℤ◌}
use lib.Signed.{lt_z}
use Rattle.std.specs.Int.{w128}
use Rattle.std.proofs.lemmas.Int.{to_z-of_z}
use Rattle.carton_base.specs.declared.numbers.Triple.{Triple}
use Rattle.carton_panels.specs.Panels.{Side, sides_of, origin}
use Rattle.carton_panels.specs.Insets.{inset}
use Rattle.carton_base.proofs.Tests.{above_zero, not_above}
use Rattle.carton_base.proofs.Loops.{yes, no, none_more, any_at, none_any}
use Rattle.carton_panels.proofs.room.has_one_off.Goals as goal

pub returns-then-gap-gt0 : goal.returns-then-gap-gt0
returns-then-gap-gt0 c =
    let f : SFits w128 c.gap.result = search rules in
    let over : lt_z (pos 0) c.gap.result ≡ true = simp to_z-of_z at c.if-gap-gt0.true in
    yes (λ d.
    any_at (λ (t : Triple). pos 0
    <ℤ inset c.args.face.margin (get_or (sides_of c.args.face.places.now) c.args.k d) t.x t.y t.w)
    c.args.found.now c.loop-t.t-index c.t-item.result c.loop-t-test.true c.t-item.is
    (subst (λ n. pos 0 <ℤ n) (c.gap.ensures d) (above_zero c.gap.result over)))

pub loop-t-preserved : goal.loop-t-preserved
loop-t-preserved c = λ d.
    let f : SFits w128 c.gap.result = search rules in
    let under : lt_z (pos 0) c.gap.result ≡ false = simp to_z-of_z at c.if-gap-gt0.false in
    none_more
    (λ (t : Triple). pos 0
    <ℤ inset c.args.face.margin (get_or (sides_of c.args.face.places.now) c.args.k d) t.x t.y t.w)
    c.args.found.now c.loop-t.t-index c.t-item.result c.loop-t-test.true c.t-item.is
    (λ h. not_above c.gap.result under (subst (λ n. pos 0 <ℤ n) (sym (c.gap.ensures d)) h))
    (c.loop-t.invariant d)

pub returns : goal.returns
returns c =
    let d : Side = record { from = origin; to = origin } in
    no (λ h.
    none_any
    (λ (t : Triple). pos 0
    <ℤ inset c.args.face.margin (get_or (sides_of c.args.face.places.now) c.args.k d) t.x t.y t.w)
    c.args.found.now c.loop-t.t-index c.loop-t-test.false (c.loop-t.invariant d) (h d))
