use Rattle.std.proofs.Common.{sym, subst}
use Rattle.carton_panels.specs.Insets.{IsInsetLine}
use Rattle.carton_panels.specs.Panels.{Side, origin}
use Rattle.carton_panels.proofs.Steps.{step_at}
use Rattle.carton_panels.proofs.inset.Inset.line.Goals as goal

pub returns : goal.returns
returns c = λ d.
    let l = c.inset.result in
    subst (λ (s : Side). IsInsetLine c.args.self.margin s l.a l.b l.e)
    (sym (step_at c.args.self.places.now c.args.k c.next_in_round.result d origin c.requires
    c.next_in_round.ensures.inner c.next_in_round.ensures.last)) c.inset.ensures
