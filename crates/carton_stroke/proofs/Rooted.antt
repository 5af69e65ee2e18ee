-- No panel is more than 8 joints away from the root.
use Rattle.std.proofs.Common.{◌≡◌, ap, ℕ, ◌≤◌, List, [], ◌++◌, length, map, take, reverse, arith}
use Rattle.std.proofs.lemmas.List.{length-append, length-map, length-reverse, length-take}
use Rattle.carton_base.specs.declared.motion.Turn.{Turn}
use Rattle.carton_model.specs.Turning.{turned_back}
use Rattle.carton_tree.specs.Cartons.{IsCarton}
use Rattle.carton_tree.specs.Trees.{Tree, turns_between, turns_by, turns_up}
use Rattle.carton_tree.proofs.Meeting.{few_turns}
use Rattle.carton_part.proofs.Upward.{no_turns}

-- up by at most 8 turns, and from the root there are none
few_by : (k l : ℕ) (us ds : List Turn) → length us ≤ 8 → ds ≡ []
    → length (take k us ++ reverse (map turned_back (take l ds))) ≤ 8
few_by k l us ds few none =
    let down = take l ds in
    let a = length-append (take k us) (reverse (map turned_back down)) in
    let b = length-reverse (map turned_back down) in
    let e = length-map down turned_back in
    let f = length-take k us in
    let g = length-take l ds in
    let h = ap (λ (ts : List Turn). length ts) none in
    omega (arith, a, b, e, f, g, h, few)

pub few_to_root : (t : Tree) (p : ℕ) → IsCarton t → length (turns_between t p t.root) ≤ 8
unfolding turns_between turns_up
few_to_root t p c = few_by _ _ (turns_by 8 t.joints p) (turns_by 8 t.joints t.root) (few_turns 8 t.joints p)
    (no_turns t c)
