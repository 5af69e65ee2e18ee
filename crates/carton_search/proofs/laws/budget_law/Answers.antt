use Rattle.carton_search.proofs.Budget.{budget}
use Rattle.carton_search.proofs.laws.budget_law.Goals as goal

pub returns : goal.returns
returns c = budget
