use Rattle.std.proofs.Common.{rules, ◌≡◌, ◌∙◌, ◌^◌, pos, SFits, subst}
use Rattle.std.specs.Int.{w64, w128}
use Rattle.std.proofs.lemmas.Int.{to_z-of_z}
use Rattle.carton_base.specs.Rounding.{IsFloor, unit}
use Rattle.carton_bodies.proofs.Timed.{unit_over, length_small}
use Rattle.carton_bodies.proofs.span.length_of.Goals as goal

pub returns : goal.returns
returns c =
    let depth = c.args.piece.depth in
    let q = c.floor_div.result in
    let fq : SFits w128 c.floor_div.result = search rules in
    let fd : SFits w64 c.first.result.den = search rules in
    let ff : SFits w128 c.from.result = search rules in
    let den : c.from.result ≡ c.first.result.den = simp to_z-of_z at c.from.ensures in
    let by : IsFloor unit c.from.result q = simp to_z-of_z at c.floor_div.ensures in
    let floor : IsFloor unit (pos (2 ^ depth)) q = subst (λ z. IsFloor unit z q) (den ∙ c.first.ensures.den)
    by in
    simp to_z-of_z (record {
      value = unit_over depth q c.args.piece.shallow floor;
      size = length_small depth q c.args.piece.shallow floor;
    })
