use Rattle.std.proofs.Common.{rules}
use Rattle.serde_json.specs.Errors.{IsMemory}
use Rattle.carton_fold.proofs.Bytes.{reads, refuses}
use Rattle.carton_fold.proofs.values.value_of.Goals as goal

pub returns-in-Ok : goal.returns-in-Ok
returns-in-Ok c = reads _ _ c.in-Ok.ensures.ok.0 c.in-Ok.ensures.ok.1

pub returns-else-is_memory : goal.returns-else-is_memory
returns-else-is_memory c = λ m.
    let n : ¬ (IsMemory c.in-Err.e) = search rules in
    refuses _ (c.in-Err.ensures.err n)
