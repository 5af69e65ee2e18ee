use Rattle.std.proofs.Common.{◌≡◌, ◌++◌, take, flat_map, string_bytes}
use Rattle.carton_text.specs.Plans.{state_line}
use Rattle.carton_text.proofs.plan_writing.write_states.Given as goal

abbrev pub invariant-loop-state : goal.invariant-loop-state
invariant-loop-state l =
    string_bytes l.text ≡ string_bytes l.initial.text
    ++ flat_map (state_line l.joints) (take l.state-index l.states)
