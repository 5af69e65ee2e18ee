use Rattle.std.proofs.Common.{refl, sym, inl, inr, arith}
use Rattle.std.proofs.lemmas.Int.{ints}
use Rattle.carton_halfturn.proofs.slopes.is_even.Goals as goal

pub returns-then-r-3 : goal.returns-then-r-3
returns-then-r-3 c =
    (λ t. record { near = omega (arith, ints); side = inr (inl (omega (arith, ints))) }, λ s. refl)

pub returns-then-r-4 : goal.returns-then-r-4
returns-then-r-4 c = (λ t. absurd (cc t), λ s. absurd (omega (arith, ints)))

pub returns : goal.returns
returns c = (
  λ t. record {
    near = omega (arith, ints);
    side = inr (inr (omega (arith, ints), omega (arith, ints)));
  },
  λ s. sym (omega (arith, ints)),
)
