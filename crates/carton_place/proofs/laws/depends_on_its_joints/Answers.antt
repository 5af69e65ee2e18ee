use Rattle.carton_model.specs.Turning.{turned_through}
use Rattle.carton_place.proofs.Dependence.{same_angles}
use Rattle.carton_place.proofs.laws.depends_on_its_joints.Goals as goal

pub returns : goal.returns
returns c = λ a b turns g h n d p. λ i. turned_through turns (same_angles a b n d turns g h i) p
