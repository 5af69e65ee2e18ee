use Rattle.std.proofs.Common.{ap, sym, rules, List, ℕ, Result, Ok, nat_eq}
use Rattle.std.proofs.lemmas.Iterator.Consumers.{map_from_collect}
use Rattle.std.proofs.lemmas.Iterator.Splits.{YieldsList-from_slice_split}
use Rattle.carton_lines.specs.declared.fault.Fault.{Fault}
use Rattle.carton_lines.proofs.cutting.words.Goals as goal

pub returns : goal.returns
returns c =
    let ok : List (List ℕ) → Result (List (List ℕ)) Fault = λ ws. Ok ws in
    ap ok (sym (map_from_collect {E = Fault} (Ok c.in_ok-found.found) c.in_ok-found.ensures.ran
    (YieldsList-from_slice_split _ (λ b. nat_eq b 32) c.args.line.now c.split.ensures.rest
    c.split.ensures.done c.split.ensures.closure (λ x b q k. search rules))))
