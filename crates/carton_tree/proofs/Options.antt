-- What holds of what an option has.
use Rattle.std.proofs.Common.{Option, Some, None}
use Rattle.std.specs.Prelude.{IfSome, IsSome, IsSomeAnd}
use Rattle.std.proofs.lemmas.Bool.{false≢true}

pub some_then : {A : Type 0} (P Q : A → Type 0) (o : Option A) → IsSomeAnd o P → ((x : A) → P x → Q x)
    → IsSomeAnd o Q
some_then P Q None h f = absurd h
some_then P Q (Some x) h f = f x h

pub some_of : {A : Type 0} (P Q : A → Type 0) (o : Option A) → IsSome o → IfSome o P
    → ((x : A) → P x → Q x) → IsSomeAnd o Q
some_of P Q None some h f = absurd (false≢true some)
some_of P Q (Some x) some h f = f x h
