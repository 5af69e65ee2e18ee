use Rattle.carton_base.proofs.Loops.{at_yes}
use Rattle.carton_catalogue.proofs.Misfits.{guide_fits, probe_outside}
use Rattle.carton_catalogue.proofs.fitting.misfit.Goals as goal

pub returns-in_err-probe : goal.returns-in_err-probe
returns-in_err-probe c =
    let fits = guide_fits c.args.carton.now c.args.states.now c.args.guide.now c.in-Some.flap
    c.panel.result.now c.in-Some.ensures (at_yes c.if-not-has_window.false c.has_window.ensures)
    (at_yes c.if-not-keeps_band.false c.keeps_band.ensures) c.panel.ensures
    (rw c.as_slice.ensures at c.in_err-probe.ensures) in
    rw c.from_residual.ensures fits

pub returns : goal.returns
returns c = probe_outside c.args.carton.now c.args.states.now c.args.guide.now c.in-Some.flap
    c.panel.result.now c.in_ok-probe.probe c.in-Some.ensures
    (at_yes c.if-not-has_window.false c.has_window.ensures)
    (at_yes c.if-not-keeps_band.false c.keeps_band.ensures) c.panel.ensures
    (rw c.as_slice.ensures at c.in_ok-probe.ensures)
