use Rattle.carton_text.proofs.OneTeam.{one_team}
use Rattle.carton_text.proofs.laws.each_joint_that_moves_is_in_one_team.Goals as goal

pub returns : goal.returns
returns c = one_team
