use Rattle.carton_part.proofs.Less.{parted_by_less}
use Rattle.carton_part.proofs.laws.parted_by_less.Goals as goal

pub returns : goal.returns
returns c = λ t folds a b more less h le. parted_by_less t folds a b more less h le
