use Rattle.std.proofs.Common.{SFits, rules, ◌∙◌}
use Rattle.std.specs.Int.{w32, w64}
use Rattle.std.proofs.lemmas.Int.{to_z-of_z}
use Rattle.carton_catalogue.proofs.Misfits.{on_shape}
use Rattle.carton_catalogue.proofs.fitting.is_on.Goals as goal

pub returns : goal.returns
returns c =
    let place = c.args.probe.now in
    let x : SFits w32 place.x = search rules in
    let y : SFits w32 place.y = search rules in
    let wide_x : SFits w64 c.from.result = search rules in
    let wide_y : SFits w64 c.from-2.result = search rules in
    on_shape c.args.shape.now place _ _ c.in_shrunk.result (to_z-of_z w64 c.from.result wide_x
    ∙ c.from.ensures ∙ to_z-of_z w32 place.x x) (to_z-of_z w64 c.from-2.result wide_y ∙ c.from-2.ensures
    ∙ to_z-of_z w32 place.y y) c.in_shrunk.ensures
