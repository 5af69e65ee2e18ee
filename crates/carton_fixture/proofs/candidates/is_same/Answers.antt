use Rattle.std.proofs.lemmas.Bool.Decides.{Decides-at}
use Rattle.carton_fixture.proofs.Compared.{cuboid_eq-Decides}
use Rattle.carton_fixture.proofs.candidates.is_same.Goals as goal

pub returns : goal.returns
returns c = Decides-at _ _ c.eq.ensures (cuboid_eq-Decides c.args.first.now c.args.second.now)
