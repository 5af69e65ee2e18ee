use Rattle.std.proofs.Common.{rules, ◌∙◌, get_or}
use Rattle.std.proofs.lemmas.Int.{to_z-of_z}
use Rattle.carton_panels.specs.Panels.{sides_of}
use Rattle.carton_panels.proofs.Keeping.{inset_from_line}
use Rattle.carton_panels.proofs.inset.Inset.gap.Goals as goal

pub returns : goal.returns
returns c = λ d.
    let l = c.line.result in
    let t = c.args.t in
    let is = c.gap.ensures
    ∙ inset_from_line c.args.self.margin (get_or (sides_of c.args.self.places.now) c.args.k d) l.a l.b l.e
    t.x t.y t.w (c.line.ensures d) in
    grind (rules, to_z-of_z, is)
