-- Going round a list: from each element to the next one, and from the last to the first.
use Rattle.std.specs.Prelude.{◌-◌, List, [], ◌∷◌, ◌++◌, length, take, drop}

pub record Step (X : Type 0) : Type 0 where
  pub from : X
  pub to : X

-- the steps from p through the elements and on to the last one
abbrev pub steps : {X : Type 0} → X → List X → X → List (Step X)
steps p [] last = (record { from = p; to = last }) ∷ []
steps p (q ∷ qs) last = (record { from = p; to = q }) ∷ steps q qs last

-- the steps round the list
abbrev pub around : {X : Type 0} → List X → List (Step X)
around [] = []
around (p ∷ ps) = steps p ps p

-- the list with its last element moved to the front
abbrev pub last_first : {X : Type 0} → List X → List X
last_first xs = drop (length xs - 1) xs ++ take (length xs - 1) xs
