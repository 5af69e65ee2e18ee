use Rattle.std.proofs.Common.{List, set, Option, ap}
use Rattle.std.proofs.lemmas.List.{get_or_default}
use Rattle.carton_tree.specs.declared.hinges.Hinge.{Hinge}
use Rattle.carton_tree.specs.declared.spots.Spot.{Spot}
use Rattle.carton_tree.proofs.Merging.{hinge_back, hinge_joins}
use Rattle.carton_tree.proofs.Tying.{blank, hinge_at}
use Rattle.carton_tree.proofs.Reaching.{hung_both}
use Rattle.carton_tree.proofs.spots.hang.Goals as goal

pub returns : goal.returns
returns c = λ root h.
    let hs : List Hinge = c.args.hinges.now in
    let i = c.args.i in
    let x : Hinge = hinge_at hs i in
    let old : List (Option Spot) = c.args.spots.now in
    let mid : List (Option Spot) = set old x.first.0 c.hung_from.result in
    let new : List (Option Spot) = set mid x.second.0 c.hung_from-2.result in
    let there = hinge_joins hs i x c.requires.i (get_or_default hs i blank x c.requires.i) in
    hung_both hs root c.args.r i x.first x.second old mid new (λ a b j. j.1 blank) there
    (hinge_back hs i x.first.0 x.second.0 there) (c.requires.within i blank c.requires.i).0
    (c.requires.within i blank c.requires.i).1
    (ap (λ s. set old x.first.0 s) c.hung_from.ensures) (ap (λ s. set mid x.second.0 s) c.hung_from-2.ensures)
    h
