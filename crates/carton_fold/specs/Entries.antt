-- Lists that are read entry by entry.
use Rattle.std.specs.Prelude.{ℕ, ◌<◌, Result}
use Rattle.std.specs.Borrow.{Bor}
use Rattle.std.specs.Fn.{Shared}
use Rattle.serde_json.specs.Data.{Data}
use Rattle.serde_json.specs.View.{view}
use Rattle.serde_json.specs.declared.Value.{Value}
use Rattle.carton_base.specs.Steps.{Gives}
use Rattle.carton_fold.specs.declared.error.FoldError.{FoldError}
use Rattle.carton_fold.specs.declared.error.FoldError.TheVariants.{Memory}

-- a call at a place below a count and at a value gives what the rules of an entry give
abbrev pub ReadsBy : {F T : Type 0} → Shared F (ℕ × (Bor Value × Unit {0})) (Result T FoldError) → F → ℕ
    → (ℕ → Data → Result T FoldError) → Type 0
ReadsBy {F} {T} g f count entry = (i : ℕ) (v : Bor Value) (r : Result T FoldError) → i < count
    → g.post f (i, (v, tt)) r → Gives Memory (λ (x : T). x) r (entry i (view v.now))
