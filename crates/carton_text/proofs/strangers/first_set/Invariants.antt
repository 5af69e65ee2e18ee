use Rattle.std.proofs.Common.{◌≡◌, drop, map, not}
use Rattle.std.specs.List.{find}
use Rattle.carton_text.specs.Tasks.{is_among}
use Rattle.carton_text.proofs.strangers.first_set.Given as goal

abbrev pub invariant-loop-setting : goal.invariant-loop-setting
invariant-loop-setting l =
    find (λ e. not (is_among e l.creases)) (map (λ s. s.edge) (drop l.setting-index l.settings))
    ≡ find (λ e. not (is_among e l.creases)) (map (λ s. s.edge) (l.settings))
