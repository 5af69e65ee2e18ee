-- A plan is found where a slack path is within the budget, unless memory runs out: by what the other ends
-- say.
use Rattle.std.proofs.Common.{◌≡◌, ◌+◌, ◌<◌, ◌≤◌, List, length, inl, inr, arith}
use Rattle.carton_base.specs.declared.motion.State.{State}
use Rattle.carton_tree.specs.Trees.{Tree}
use Rattle.carton_text.specs.declared.task.Task.{Task}
use Rattle.carton_steps.specs.Steps.{IsGridStep}
use Rattle.carton_steps.specs.Estimates.{estimate_of}
use Rattle.carton_search.specs.declared.search_end.SearchEnd.{SearchEnd}
use Rattle.carton_search.specs.declared.search_end.SearchEnd.TheVariants.{Found, StartBlocked, NoPath}
use Rattle.carton_search.specs.declared.search_end.SearchEnd.TheVariants.{OutOfTurns, Memory}
use Rattle.carton_search.specs.Clear.{ClearStep}
use Rattle.carton_search.specs.Paths.{moves_of, IsSlackPath, IsWithinTurns}
use Rattle.carton_search.specs.Ends.{IsFoundOrMemory, IsEnd}
use Rattle.carton_search.proofs.Verdicts.{blocked_state}
use Rattle.carton_search.proofs.Wider.{path_wider}

pub budget : (task : Task) (carton : Tree) (end : SearchEnd) → IsEnd task carton end → (p : List State)
    → IsSlackPath task carton p → IsWithinTurns task (moves_of p) → IsFoundOrMemory end
budget task carton (Found v) is p path within = tt
budget task carton (StartBlocked a b) is p path within =
    blocked_state task carton task.start a.0 b.0 is.blocked path.1
budget task carton NoPath is p path within = is.none p path
budget task carton Memory is p path within = tt
budget task carton (OutOfTurns moves) is p path within =
    let few : moves ≤ moves_of p = is.few p path in
    elim is.cause [
      | inl many ↦
          let l : length many.0 ≤ task.turns = within.1 many.0 many.2 (λ i s h.
          let r = (many.3 i s h).1 in
          let m : moves_of r.0 + estimate_of task s ≤ moves = r.2 in (
            r.0,
            path_wider (ClearStep task carton) (IsGridStep task) (λ a b c. c.0) task.start s r.0 r.1,
            omega (arith, m, few),
          )) in
          let more : task.turns < length many.0 = many.1 in
          absurd (omega (arith, l, more))
      | inr far ↦
          let b : moves_of p ≤ 4095 = within.0 in
          let e : moves ≡ 4096 = far.0 in
          absurd (omega (arith, b, e, few))
    ]
