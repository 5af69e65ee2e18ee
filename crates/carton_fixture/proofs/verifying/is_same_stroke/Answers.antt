use Rattle.std.proofs.lemmas.Bool.Decides.{Decides-int_eq}
use Rattle.std.proofs.lemmas.Slice.Eq.{slice_eq-Decides}
use Rattle.carton_fixture.proofs.verifying.is_same_stroke.Goals as goal

pub returns : goal.returns
returns c = slice_eq-Decides Decides-int_eq c.args.first c.args.second c.eq.result c.eq.ensures
