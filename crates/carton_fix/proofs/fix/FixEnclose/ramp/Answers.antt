use Rattle.carton_fix.proofs.fix.FixEnclose.ramp.Goals as goal

pub returns-clause-holds : goal.returns-clause-holds
returns-clause-holds c = λ n d p q u x v m pu pv a b h r. c.between.ensures.holds n d x v m pv h
