use Rattle.carton_base.proofs.Loops.{at_yes}
use Rattle.carton_catalogue.proofs.fitting.fit_catalogue.Goals as goal

pub returns-in-None : goal.returns-in-None
returns-in-None c =
    let same = rw (c.as_slice.ensures, c.as_slice-2.ensures) at
    (at_yes c.if-not-have_same.false c.have_same.ensures) in
    let all = rw (c.as_slice-guides.ensures, c.as_slice-3.ensures) at c.in-None.ensures in
    record { creases = same; guides = all }
