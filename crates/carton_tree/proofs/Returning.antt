-- Turns of a way down: the last one first, each the other way.
use Rattle.std.proofs.Common.{◌≡◌, ℕ, ◌+◌, ◌-◌, ◌<◌, ◌≤◌, List, ◌++◌, length, get_or, take, map, reverse}
use Rattle.std.proofs.Common.{refl, sym, ◌∙◌, ap, arith}
use Rattle.std.proofs.lemmas.List.{get_or-append_right, get_or-reverse, get_or-map, get_or-take, length-map}
use Rattle.std.proofs.lemmas.List.{length-append, length-reverse, length-take, same_lists}
use Rattle.carton_base.specs.declared.motion.Turn.{Turn}
use Rattle.carton_model.specs.Turning.{turned_back}

-- a way up and a way down, both told from below
abbrev pub way : List Turn → List Turn → List Turn
way up down = up ++ reverse (map turned_back down)

pub length-way : (up down : List Turn) → length (way up down) ≡ length up + length down
length-way up down =
    omega (
      arith,
      length-append up (reverse (map turned_back down)),
      length-reverse (map turned_back down),
      length-map down turned_back,
    )

pub way_down : (up down : List Turn) (i : ℕ) (t e : Turn) → length up ≤ i → i < length up + length down
    → turned_back (get_or down (length up + length down - 1 - i) e) ≡ get_or (way up down) i t
way_down up down i t e ge lt =
    let back = map turned_back down in
    let k = i - length up in
    let in' : k < length back = omega (arith, length-map down turned_back) in
    let there : length back - 1 - k ≡ length up + length down - 1 - i =
    omega (arith, length-map down turned_back) in
    let below : length up + length down - 1 - i < length down = omega arith in
    sym (get_or-append_right up (reverse back) (length up) i t refl ge ∙ get_or-reverse back k t in'
    ∙ ap (λ n. get_or back n t) there
    ∙ get_or-map turned_back down (length up + length down - 1 - i) e t below)

-- a list that has the way at its first places
pub way_taken : (up down turns : List Turn) → length up + length down ≤ length turns
    → ((j : ℕ) (t : Turn) → j < length up + length down → get_or turns j t ≡ get_or (way up down) j t)
    → take (length up + length down) turns ≡ way up down
way_taken up down turns le each =
    let n = length up + length down in
    same_lists (take n turns) (way up down) (omega (arith, length-take n turns, length-way up down))
    (λ k t lt.
    let in' : k < n = omega (arith, lt, length-take n turns) in
    get_or-take n turns k t in' ∙ each k t in')
