use Rattle.std.proofs.Common.{rules, ◌≡◌, ◌↔◌, IsTrue, SFits, ◌*ℤ◌, subst}
use Rattle.std.specs.Int.{w128}
use Rattle.std.proofs.lemmas.Int.{to_z-of_z}
use Rattle.carton_reach.specs.Reaches.{AllNear, half}
use Rattle.carton_reach.proofs.nearness.are_near.Goals as goal

pub returns : goal.returns
returns c =
    let r : SFits w128 c.room_of.result = search rules in
    let value : c.room_of.result ≡ c.args.halves *ℤ half =
    grind (rules, to_z-of_z, c.room_of.ensures.value) in
    subst (λ m. IsTrue c.all_near.result ↔ AllNear m c.args.p.now.axes c.args.q.now.axes) value
    (simp to_z-of_z at c.all_near.ensures)
