use Rattle.std.proofs.Common.{SFits, rules, refl, pos, ◌+ℤ◌, ◌*ℤ◌}
use Rattle.std.specs.Int.{w32, w8}
use Rattle.std.proofs.lemmas.Int.{to_z-of_z}
use Rattle.carton_catalogue.proofs.windows.with_more.Goals as goal

pub returns : goal.returns
returns c =
    let t : SFits w8 c.args.stop = search rules in
    let from = simp to_z-of_z at c.from.ensures in
    let s : SFits w32 c.from.result = search rules in
    let g : SFits w32 c.from-2.result = search rules in
    let e : SFits w32 c.args.eighths = search rules in
    let p : SFits w32 (pos 8 *ℤ c.from.result) = search rules in
    let q : SFits w32 (c.args.eighths *ℤ c.from-2.result) = search rules in
    let r : SFits w32 (pos 8 *ℤ c.from.result +ℤ c.args.eighths *ℤ c.from-2.result) = search rules in
    simp to_z-of_z (rw (from, c.from-2.ensures) refl)
