use Rattle.carton_stroke.proofs.Noted.{slack_clear_told}
use Rattle.carton_stroke.proofs.laws.slack_clear_is_told.Goals as goal

pub returns : goal.returns
returns c = λ t plan stroke box slack note. slack_clear_told t plan stroke box slack note
