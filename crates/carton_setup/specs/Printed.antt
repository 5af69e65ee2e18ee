-- The parts of printed texts.
use Rattle.std.specs.Prelude.{ℕ, List, [], ◌∷◌, ◌++◌, codes}
use Rattle.std.specs.Fmt.{decimal, signed_decimal}
use Rattle.carton_base.specs.declared.moments.Moment.{Moment}

-- a text as a line
abbrev pub line : List ℕ → List ℕ
line text = text ++ 10 ∷ []

-- a space and a number
abbrev pub spaced : ℕ → List ℕ
spaced n = 32 ∷ decimal n

-- a moment, as a fraction
abbrev pub moment_text : Moment → List ℕ
moment_text m = signed_decimal m.num ++ (codes "/" ++ signed_decimal m.den)
