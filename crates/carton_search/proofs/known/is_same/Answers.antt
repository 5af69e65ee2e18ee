use Rattle.std.proofs.Common.{◌≡◌}
use Rattle.carton_text.proofs.Compared.{state_eq-Decides}
use Rattle.carton_search.proofs.Keys.{state_eq, match_decided}
use Rattle.carton_search.proofs.known.is_same.Goals as goal

pub returns : goal.returns
returns c =
    let a = c.args.a.now in
    let b = c.args.b.now in
    rw c.eq.ensures (match_decided (state_eq a b) (a ≡ b) (state_eq-Decides a b))
