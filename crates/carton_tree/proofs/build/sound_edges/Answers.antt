use Rattle.std.proofs.Common.{ℕ, arith}
use Rattle.std.proofs.lemmas.Result.{err_from_is_err_and}
use Rattle.carton_tree.specs.Rules.{IsBare}
use Rattle.carton_tree.proofs.Deciding.{bare_answer}
use Rattle.carton_tree.proofs.FirstEdges.{none_bare}
use Rattle.carton_tree.proofs.build.sound_edges.Goals as goal

pub returns-in_err-sides-clause-refused : goal.returns-in_err-sides-clause-refused
returns-in_err-sides-clause-refused c =
    let p = err_from_is_err_and c.from_residual.result c.from_residual.ensures.1 in
    rw (p.1, p.2) (bare_answer c.args.raw.now c.in_err-sides.field-0.0 c.in_err-sides.ensures.bare)

pub returns-in-Some-clause-refused : goal.returns-in-Some-clause-refused
returns-in-Some-clause-refused c =
    let sides : (f i : ℕ) → ¬ (IsBare c.args.raw.now f i) =
    λ f i b. none_bare c.args.raw.now f i c.in_ok-sides.sides.items c.in_ok-sides.ensures.sides
    (omega (arith, b.panel, c.in_ok-sides.ensures.whole)) b in
    (sides, c.in-Some.ensures)

pub returns-in-Some-first_one_way-clause-refused : goal.returns-in-Some-first_one_way-clause-refused
returns-in-Some-first_one_way-clause-refused c =
    let sides : (f i : ℕ) → ¬ (IsBare c.args.raw.now f i) =
    λ f i b. none_bare c.args.raw.now f i c.in_ok-sides.sides.items c.in_ok-sides.ensures.sides
    (omega (arith, b.panel, c.in_ok-sides.ensures.whole)) b in
    ((sides, c.in_default.ensures), c.in-Some-first_one_way.ensures)

pub returns-in-Some-first_slanted-clause-refused : goal.returns-in-Some-first_slanted-clause-refused
returns-in-Some-first_slanted-clause-refused c =
    let sides : (f i : ℕ) → ¬ (IsBare c.args.raw.now f i) =
    λ f i b. none_bare c.args.raw.now f i c.in_ok-sides.sides.items c.in_ok-sides.ensures.sides
    (omega (arith, b.panel, c.in_ok-sides.ensures.whole)) b in
    (((sides, c.in_default.ensures), c.in_default-first_one_way.ensures), c.in-Some-first_slanted.ensures)

pub returns-clause-sides : goal.returns-clause-sides
returns-clause-sides c =
    λ f i b. none_bare c.args.raw.now f i c.in_ok-sides.sides.items c.in_ok-sides.ensures.sides
    (omega (arith, b.panel, c.in_ok-sides.ensures.whole)) b
