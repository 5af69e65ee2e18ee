use Rattle.std.proofs.lemmas.Bool.Decides.{Decides-at}
use Rattle.carton_text.proofs.Compared.{state_eq-Decides}
use Rattle.carton_check.proofs.comparing.is_same.Goals as goal

pub returns : goal.returns
returns c = Decides-at _ _ c.eq.ensures (state_eq-Decides c.args.first.now c.args.second.now)
