use Rattle.carton_part.proofs.Seen.{parted_apart}
use Rattle.carton_part.proofs.laws.parted_panels_do_not_meet.Goals as goal

pub returns : goal.returns
returns c = λ t folds a b k h la lb parted meet. parted_apart t folds a b k h la lb parted meet
