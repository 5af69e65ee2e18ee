-- Small numbers as they are written.
use Rattle.std.proofs.Common.{◌≡◌, refl, codes}
use Rattle.std.specs.Fmt.{decimal, digits}

pub text_0 : decimal 0 ≡ codes "0"
unfolding digits
text_0 = refl

pub text_1 : decimal 1 ≡ codes "1"
unfolding digits
text_1 = refl

pub text_60 : decimal 60 ≡ codes "60"
unfolding digits
text_60 = refl
