use Rattle.std.proofs.Common.{◌≡◌, ◌<◌, length, get_or, arith, subst, sym, below_more, rules, true, SFits}
use Rattle.std.proofs.Common.{pos, ◌≤ℤ◌}
use Rattle.carton_panels.specs.Panels.{Side, sides_of}
use Rattle.carton_panels.specs.Insets.{inset}
use Rattle.carton_panels.proofs.Steps.{length-around}
use lib.Signed.{lt_z}
use Rattle.std.specs.Int.{w128}
use Rattle.std.proofs.lemmas.Int.{to_z-of_z}
use Rattle.carton_base.proofs.Loops.{yes, no}
use Rattle.carton_base.proofs.Tests.{below_zero, not_below}
use Rattle.carton_panels.proofs.inset.Inset.keeps_all.Goals as goal

pub returns-then-gap-lt0 : goal.returns-then-gap-lt0
returns-then-gap-lt0 c =
    let d : Side = record { from = record { x = pos 0; y = pos 0 }; to = record { x = pos 0; y = pos 0 } } in
    let f : SFits w128 c.gap.result = search rules in
    let under : lt_z c.gap.result (pos 0) ≡ true = simp to_z-of_z at c.if-gap-lt0.true in
    let here : c.loop-k.k < length (sides_of c.args.self.places.now) =
    omega (arith, length-around c.args.self.places.now) in
    no (λ h. below_zero c.gap.result under
    (subst (λ n. pos 0 ≤ℤ n) (sym (c.gap.ensures d)) (h c.loop-k.k d here)))

pub loop-k-preserved : goal.loop-k-preserved
loop-k-preserved c = λ j d l.
    below_more (λ j. (d : Side)
    → pos 0
    ≤ℤ inset c.args.self.margin (get_or (sides_of c.args.self.places.now) j d) c.args.t.x c.args.t.y
    c.args.t.w) c.loop-k.k (λ j l d. c.loop-k.invariant j d l)
    (λ d. subst (λ n. pos 0 ≤ℤ n) (c.gap.ensures d) (let f : SFits w128 c.gap.result = search rules in
    not_below c.gap.result (simp to_z-of_z at c.if-gap-lt0.false))) j l d

pub returns : goal.returns
returns c = yes (λ k d l. c.loop-k.invariant k d (omega (arith, length-around c.args.self.places.now)))
