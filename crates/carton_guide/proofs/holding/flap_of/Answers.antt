use Rattle.std.proofs.Common.{◌≡◌, arith}
use Rattle.carton_tree.proofs.Flaps.{hung_within}
use Rattle.carton_guide.proofs.holding.flap_of.Goals as goal

pub joint-requires : goal.joint-requires
joint-requires c =
    let l = hung_within (λ j. j.edge.0 ≡ c.args.edge.0) c.args.carton.now.joints c.in-Some.panel.0
    c.in-Some.ensures.0 in
    omega (arith, l, c.requires.carton.joints)
