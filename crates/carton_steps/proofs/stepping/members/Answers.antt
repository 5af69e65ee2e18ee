use Rattle.std.proofs.Common.{◌≡◌, ◌<◌, get_or, All, sym, subst, arith}
use Rattle.carton_base.specs.declared.limits.TheConstants.{MOST_JOINTS}
use Rattle.carton_steps.proofs.Members.{each_has_places}
use Rattle.carton_steps.proofs.stepping.members.Goals as goal

pub returns-clause-within : goal.returns-clause-within
returns-clause-within c =
    let t = c.args.task.now in
    let is : c.as_slice-2.result.now ≡ (get_or t.teams c.from.result c.index-as_slice-from.result).places =
    cc in
    subst (All (λ k. k < MOST_JOINTS)) (sym is)
    (each_has_places t c.requires.rules c.from.result c.index-as_slice-from.result
    (omega (arith, c.from.ensures, c.requires.team)))
