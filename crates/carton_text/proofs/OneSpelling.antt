-- A text is read as a plan exactly where it is the plan's one spelling.
use Rattle.std.proofs.Common.{ℕ, List, ap, ◌∙◌}
use Rattle.carton_text.specs.Plans.{plan_of, HasOneSpelling}
use Rattle.carton_text.proofs.PlansRead.{plan_read}
use Rattle.carton_text.proofs.PlansWritten.{plan_spelled}

pub one_spelling : (bytes : List ℕ) → HasOneSpelling bytes
one_spelling bytes = λ p. (plan_read bytes p, λ h. ap plan_of h.1 ∙ plan_spelled p h.0)
