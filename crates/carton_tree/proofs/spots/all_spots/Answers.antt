use Rattle.std.proofs.Common.{List, set, replicate, Option, Some, None, refl, ◌∙◌}
use Rattle.std.proofs.lemmas.List.{get_or-set_same, get_or-set_other, length-set}
use Rattle.carton_tree.specs.declared.spots.Spot.{Spot}
use Rattle.carton_tree.proofs.Reaching.{root_hangs, nones}
use Rattle.carton_tree.proofs.spots.all_spots.Goals as goal

pub loop-r-init : goal.loop-r-init
loop-r-init c =
    let root = c.args.root.0 in
    let none : List (Option Spot) = replicate 24 None in
    let s : Spot = record { depth = 0; hinge = 0; parent = c.args.root } in
    root_hangs c.args.hinges.now root (set none root (Some s)) s (length-set none root (Some s))
    c.requires.root refl
    (get_or-set_same none root (Some s) None c.requires.root)
    (λ p n. get_or-set_other none root p (Some s) None n ∙ nones 24 p)

pub loop-r-preserved : goal.loop-r-preserved
loop-r-preserved c = c.hang_all.ensures c.args.root.0 c.loop-r.invariant
