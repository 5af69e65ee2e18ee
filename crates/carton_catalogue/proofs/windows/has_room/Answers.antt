use Rattle.std.proofs.Common.{SFits, rules, pos, ◌-ℤ◌}
use Rattle.std.specs.Int.{w32, w8}
use Rattle.std.proofs.lemmas.Int.{to_z-of_z}
use Rattle.carton_base.proofs.Loops.{at_yes}
use Rattle.carton_catalogue.proofs.Misfits.{negated}
use Rattle.carton_catalogue.proofs.windows.has_room.Goals as goal

pub returns-then-is_fold : goal.returns-then-is_fold
returns-then-is_fold c =
    let b : SFits w32 c.from-band.result = search rules in
    let n : SFits w32 (pos 0 -ℤ c.from-band.result) = search rules in
    let s : SFits w8 c.stop_at-stop.result = search rules in
    let under = rw (c.from-band.ensures, c.stop_at-stop.ensures, negated c.args.band) at
    (simp to_z-of_z at (at_yes c.if-is_fold.true c.is_fold.ensures)) in
    let over = rw (c.from-band.ensures, c.stop_at-stop.ensures) at
    (simp to_z-of_z at c.is_fold-then-is_fold.ensures) in
    (λ e. record { under = under; over = over.0 e }, λ h. over.1 h.over)
