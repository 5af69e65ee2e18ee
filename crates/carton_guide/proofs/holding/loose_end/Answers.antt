use Rattle.std.proofs.Common.{refl}
use Rattle.carton_guide.proofs.Probes.{both_ends}
use Rattle.carton_guide.specs.Notes.{IsHeldThrough}
use Rattle.carton_guide.proofs.holding.loose_end.Goals as goal

pub returns-in_err-moment-clause-held : goal.returns-in_err-moment-clause-held
returns-in_err-moment-clause-held c = λ _ s r end m.
    let h = c.args.holders.now in
    both_ends (λ end. IsHeldThrough c.args.carton.now c.args.guide.now h.stroke h.bodies.now h.chosen.now
    c.args.flap.panel.0 c.args.flap.place end c.args.step s r) (c.in_default.ensures.held refl s r m)
    (c.loose_during-2.ensures.held c.in_err-moment.was s r m) end
