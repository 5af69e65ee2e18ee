use Rattle.std.proofs.Common.{◌≡◌, ◌∙◌, ℕ, length, All}
use Rattle.carton_base.proofs.Steps.{count_entries, all_entries}
use Rattle.carton_lines.specs.Numbers.{at_most}
use Rattle.carton_catalogue.specs.declared.limits.TheConstants.{FARTHEST_CORNER}
use Rattle.carton_catalogue.specs.CatalogueRules.{IsCoordinate}
use Rattle.carton_catalogue.proofs.Kept.{if_given, sized}
use Rattle.carton_catalogue.proofs.values.coordinates.Goals as goal

pub returns-clause-count : goal.returns-clause-count
returns-clause-count c =
    let entry = λ (i : ℕ). at_most FARTHEST_CORNER in
    if_given (λ v. v.items) (λ xs. length xs ≡ c.args.count) c.values.result _ c.values.ensures
    (λ xs e. count_entries entry 0 c.args.numbers.now xs e ∙ c.if-numbers-count.false)

pub returns-clause-near : goal.returns-clause-near
returns-clause-near c =
    let entry = λ (i : ℕ). at_most FARTHEST_CORNER in
    if_given (λ v. v.items) (All IsCoordinate) c.values.result _ c.values.ensures
    (λ xs e. all_entries IsCoordinate entry (sized FARTHEST_CORNER) 0 c.args.numbers.now xs e)
