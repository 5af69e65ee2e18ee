use Rattle.carton_enclose.proofs.Ends.{overlap_meets}
use Rattle.carton_place.proofs.ratios.along_ramp.Goals as goal

pub ramp-requires-clause-meet : goal.ramp-requires-clause-meet
ramp-requires-clause-meet g c = overlap_meets _ _ _ _ c.args.r.now.start.ordered c.args.r.now.all.ordered
    c.args.r.now.meets_below c.args.r.now.meets_above

pub returns-clause-holds : goal.returns-clause-holds
returns-clause-holds g c = λ n d x v m p h.
    let l = h.line in
    c.ramp.ensures.holds n d l.p l.q l.u x v m l.some p l.begins l.rate h.within h.reached
