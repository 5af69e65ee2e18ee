use Rattle.std.proofs.Common.{rules, ◌≡◌, ◌↔◌, IsTrue, get_or, subst, sym, true, false, SFits, arith, pos}
use Rattle.std.proofs.Common.{◌≤ℤ◌, ◌<ℤ◌}
use lib.Signed.{lt_z}
use Rattle.std.specs.Int.{w128}
use Rattle.std.proofs.lemmas.Int.{to_z-of_z}
use Rattle.carton_base.specs.declared.dieline.Point.{Point}
use Rattle.carton_panels.specs.Panels.{Side, sides_of, IsLeft, IsStrictlyLeft, origin}
use Rattle.carton_base.proofs.Tests.{below_zero, not_below, less_from_test, test_from_less}
use Rattle.carton_base.proofs.Loops.{no, all_more_read, all_end, any_start, any_more, any_known}
use Rattle.carton_panels.proofs.convexity.has_all_left.Goals as goal

abbrev nowhere : Side
nowhere = record { from = origin; to = origin }

pub loop-p-init : goal.loop-p-init
loop-p-init c =
    λ d. (
      λ j e below. absurd (omega (arith, below)),
      any_start
          (λ (p : Point). IsStrictlyLeft (get_or (sides_of c.args.face.places.now) c.args.k d) p.x p.y (pos 1))
          c.args.face.places.now,
    )

pub returns-then-gap-lt0 : goal.returns-then-gap-lt0
returns-then-gap-lt0 c =
    let f : SFits w128 c.leftness-gap.result = search rules in
    let under : lt_z c.leftness-gap.result (pos 0) ≡ true = simp to_z-of_z at c.if-gap-lt0.true in
    no (λ h. below_zero c.leftness-gap.result under
    (subst (λ n. pos 0 ≤ℤ n) (sym (c.leftness-gap.ensures nowhere))
    ((h nowhere).0 c.loop-p.p-index origin c.loop-p-test.true)))

pub loop-p-preserved : goal.loop-p-preserved
loop-p-preserved c = λ d.
    let f : SFits w128 c.leftness-gap.result = search rules in
    let ps = c.args.face.places.now in
    let side : Side = get_or (sides_of ps) c.args.k d in
    let gap = c.leftness-gap.result in
    let left : lt_z gap (pos 0) ≡ false = simp to_z-of_z at c.if-gap-lt0.false in
    let test : IsTrue (lt_z (pos 0) gap)
    ↔ pos 0 <ℤ gap = (less_from_test (pos 0) gap, test_from_less (pos 0) gap) in
    simp to_z-of_z (
      all_more_read (λ (p : Point). IsLeft side p.x p.y (pos 1)) ps c.loop-p.p-index origin c.loop-p-test.true
          (subst (λ n. pos 0 ≤ℤ n) (c.leftness-gap.ensures d) (not_below gap left)) (c.loop-p.invariant d).0,
      any_more (λ (p : Point). IsStrictlyLeft side p.x p.y (pos 1)) ps c.loop-p.p-index origin c.loop-p.some
          (lt_z (pos 0) gap) c.loop-p-test.true
          (subst (λ n. IsTrue (lt_z (pos 0) gap) ↔ pos 0 <ℤ n) (c.leftness-gap.ensures d) test)
          (c.loop-p.invariant d).1,
    )

pub returns : goal.returns
returns c =
    let ps = c.args.face.places.now in
    let known = λ (d : Side).
    any_known (λ (p : Point). IsStrictlyLeft (get_or (sides_of ps) c.args.k d) p.x p.y (pos 1)) ps
    c.loop-p.p-index c.loop-p.some c.loop-p-test.false (c.loop-p.invariant d).1 in (
      λ t d. (
        all_end (λ (p : Point). IsLeft (get_or (sides_of ps) c.args.k d) p.x p.y (pos 1)) ps
            c.loop-p.p-index c.loop-p-test.false (c.loop-p.invariant d).0,
        (known d).0 t,
      ),
      λ h. (known nowhere).1 (h nowhere).1,
    )
