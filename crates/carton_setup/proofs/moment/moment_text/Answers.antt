use Rattle.std.proofs.Common.{SFits, rules}
use Rattle.std.specs.Int.{w64}
use Rattle.std.proofs.lemmas.Int.{to_z-of_z}
use Rattle.carton_setup.proofs.moment.moment_text.Goals as goal

pub returns : goal.returns
returns c =
    let n : SFits w64 c.args.moment.num = search rules in
    let d : SFits w64 c.args.moment.den = search rules in
    simp to_z-of_z at c.format.ensures.ok
