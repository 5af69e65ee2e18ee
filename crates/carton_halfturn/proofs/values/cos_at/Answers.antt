use Rattle.std.proofs.Common.{rules, SFits}
use Rattle.std.specs.Int.{w128}
use Rattle.std.proofs.lemmas.Int.{to_z-of_z}
use Rattle.carton_halfturn.proofs.values.cos_at.Goals as goal

pub returns : goal.returns
returns c =
    let x : SFits w128 c.ratios_of-turn.result.cos = search rules in
    let v : SFits w128 c.ratios_of-turn.result.over = search rules in
    rw (c.ratios_of-turn.ensures.cos, c.ratios_of-turn.ensures.over) at (simp to_z-of_z at c.ratio.ensures)
