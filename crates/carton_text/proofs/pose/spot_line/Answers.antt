use Rattle.std.proofs.lemmas.List.{append_assoc}
use Rattle.carton_text.proofs.pose.spot_line.Goals as goal

pub returns : goal.returns
returns c = simp append_assoc c.format.ensures.ok
