use Rattle.std.proofs.lemmas.Slice.Eq.{slice_eq-Decides}
use Rattle.carton_text.proofs.Compared.{crease_eq-Decides}
use Rattle.carton_cases.proofs.setting_up.are_same.Goals as goal

pub returns : goal.returns
returns c = slice_eq-Decides crease_eq-Decides c.args.first.now c.args.second.now c.eq.result c.eq.ensures
