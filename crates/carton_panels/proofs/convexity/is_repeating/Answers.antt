use Rattle.std.proofs.Common.{◌≡◌, ℕ, ◌<◌, get_or, arith, below_more}
use Rattle.carton_panels.specs.Panels.{origin}
use Rattle.carton_base.proofs.Loops.{yes, no, at_yes, at_no}
use Rattle.carton_panels.proofs.Repeats.{repeating_from_any, none_earlier}
use Rattle.carton_panels.proofs.convexity.is_repeating.Goals as goal

pub returns-then-stands_in : goal.returns-then-stands_in
returns-then-stands_in c =
    yes (repeating_from_any c.args.places.now c.loop-j.j c.loop-j-test.true
    (at_yes c.if-stands_in.true c.stands_in.ensures))

pub loop-j-preserved : goal.loop-j-preserved
loop-j-preserved c =
    below_more (λ j. (i : ℕ) → i < j
    → ¬ (get_or c.args.places.now i origin ≡ get_or c.args.places.now j origin)) c.loop-j.j c.loop-j.invariant
    (none_earlier c.args.places.now c.loop-j.j c.loop-j-test.true
    (at_no c.if-stands_in.false c.stands_in.ensures))

pub returns : goal.returns
returns c = no (λ r. c.loop-j.invariant r.1 (omega (arith, r.3)) r.0 r.2 r.4)
