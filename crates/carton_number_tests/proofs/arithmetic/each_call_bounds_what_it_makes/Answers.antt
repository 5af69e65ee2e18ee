use Rattle.std.proofs.Common.{pos, negsuc, arith}
use Rattle.std.proofs.lemmas.Int.{ints}
use Rattle.carton_enclose.proofs.Ends.{overlap_meets}
use Rattle.carton_number_tests.proofs.arithmetic.each_call_bounds_what_it_makes.Goals as goal

pub made-requires : goal.made-requires
made-requires g c = (
  omega arith,
  (
    omega arith,
    (
      omega arith,
      overlap_meets (negsuc 0) (pos 4) (negsuc 0) (pos 4) (omega (arith, ints))
          (omega (arith, ints)) (omega (arith, ints)) (omega (arith, ints)),
    ),
  ),
)
