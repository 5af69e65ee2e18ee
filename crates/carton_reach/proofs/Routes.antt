-- The turns between two panels of a carton are turns.
use Rattle.std.proofs.Common.{ℕ, ◌-◌, ◌<◌, List, length, get_or, map, reverse, arith, sym, subst}
use Rattle.std.specs.Prelude.{All}
use Rattle.std.proofs.lemmas.List.{get_or-reverse, length-reverse}
use Rattle.std.proofs.lemmas.List.Elements.{All-append, All-map, All-take}
use Rattle.carton_base.specs.declared.limits.TheConstants.{LONGEST_PATH}
use Rattle.carton_base.specs.declared.motion.Turn.{Turn}
use Rattle.carton_model.specs.Turning.{IsTurn, turned_back}
use Rattle.carton_tree.specs.Cartons.{IsCarton}
use Rattle.carton_tree.specs.Trees.{Tree, turns_between, turns_by, turns_up, steps_to, path, parting}
use Rattle.carton_tree.proofs.Meeting.{valid_turns}

reversed : (xs : List Turn) → All IsTurn xs → All IsTurn (reverse xs)
reversed xs h k d l =
    let in' : k < length xs = omega (arith, l, length-reverse xs) in
    subst IsTurn (sym (get_or-reverse xs k d in')) (h (length xs - 1 - k) d (omega (arith, in')))

turn_back : (t : Turn) → IsTurn t → IsTurn (turned_back t)
turn_back t h = record { near = h.near; place = h.place }

up_turns : (t : Tree) (p frame : ℕ) → IsCarton t → p < length t.panels
    → All IsTurn (turns_up t.joints p frame)
unfolding turns_up
up_turns t p frame h l = All-take IsTurn (steps_to frame (path t.joints p)) (turns_by LONGEST_PATH t.joints p)
    (valid_turns t LONGEST_PATH p h l)

pub turns_are : (t : Tree) (p frame : ℕ) → IsCarton t → p < length t.panels → frame < length t.panels
    → All IsTurn (turns_between t p frame)
unfolding turns_between
turns_are t p frame h l f =
    let top = parting t p frame in
    let down = turns_up t.joints frame top in
    All-append IsTurn (turns_up t.joints p top) (reverse (map turned_back down)) (up_turns t p top h l)
    (reversed (map turned_back down)
    (All-map IsTurn turned_back down
    (λ k d lt. turn_back (get_or down k d) (up_turns t frame top h f k d lt))))
