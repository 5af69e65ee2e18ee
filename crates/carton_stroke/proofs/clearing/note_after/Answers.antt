use Rattle.std.proofs.Common.{refl, subst}
use Rattle.carton_stroke.specs.Steps.{IsNoteBefore}
use Rattle.carton_stroke.proofs.Noted.{kept_in, touched_in}
use Rattle.carton_stroke.proofs.clearing.note_after.Goals as goal

pub returns-in-Some : goal.returns-in-Some
returns-in-Some c = λ states is before. touched_in c.args.carton.now states c.args.motion.now c.args.body.now
    c.args.slack _ is c.in-Some.ensures.some

pub returns-in-None : goal.returns-in-None
returns-in-None c = λ states is before.
    let b = c.args.body.now in
    kept_in c.args.carton.now states c.args.motion.now b c.args.slack is (c.in-None.ensures.none refl)
    (subst (IsNoteBefore c.args.carton.now states b.stroke c.args.slack b.step b.shape) c.in-Clears.is
    before)
