use Rattle.std.proofs.Common.{rules, ◌≡◌, ℕ, ◌≤◌, List, get_or, SFits, sym, ◌∙◌, ap, subst, refl, to_z, of_z}
use Rattle.std.proofs.Common.{unsigned_abs, arith}
use Rattle.std.specs.Int.{w32, w8}
use Rattle.std.proofs.lemmas.Int.{to_z-of_z}
use Rattle.std.proofs.lemmas.List.{get_or_default}
use Rattle.carton_base.specs.declared.dieline.RawDieline.{RawDieline}
use Rattle.carton_base.specs.declared.ids.EdgeId.{EdgeId}
use Rattle.carton_base.specs.declared.motion.Turn.{Turn}
use Rattle.carton_base.specs.declared.limits.TheConstants.{FARTHEST, MOST_JOINTS}
use Rattle.carton_tree.specs.declared.hinges.Hinge.{Hinge}
use Rattle.carton_tree.specs.Joints.{IsPlace, IsTurnOf}
use Rattle.carton_tree.specs.Steps.{IsHinge}
use Rattle.carton_tree.proofs.Placing.{place_below, line_near}
use Rattle.carton_tree.proofs.hanging.turn_of.Goals as goal

-- a turn of one edge is that of an equal one
of_edge : (d : RawDieline) (cs : List EdgeId) (k l f : ℕ) (t : Turn) → k ≡ l → IsTurnOf d cs k f t
    → IsTurnOf d cs l f t
of_edge d cs k l f t e h = subst (λ m. IsTurnOf d cs m f t) e h

pub returns-clause-turn : goal.returns-clause-turn
returns-clause-turn c = λ h.
    let d = c.args.raw.now in
    let cs = c.args.hinges.now.creases.items in
    let hs = c.args.hinges.now.all.items in
    let x : Hinge = c.index-hinge.result.now in
    let is = subst (IsHinge d cs) (sym c.index-hinge.ensures)
    (c.requires.hinges.each c.args.i x c.requires.i) in
    let same : x ≡ get_or hs c.args.i h = c.index-hinge.ensures
    ∙ get_or_default hs c.args.i x h c.requires.i in
    let f : SFits w32 x.at = search rules in
    let g : SFits w8 c.sign_of.result = search rules in
    let back : to_z w8 (of_z w8 c.sign_of.result) ≡ c.sign_of.result = simp to_z-of_z refl in
    let greater = simp to_z-of_z at c.sign_of.ensures.greater in
    let smaller = simp to_z-of_z at c.sign_of.ensures.smaller in
    simp to_z-of_z (of_edge d cs _ _ c.args.child.0 _ (ap (λ (y : Hinge). y.edge.0) same)
    (record {
      place = subst (IsPlace d cs x.edge.0) (sym c.place_of.ensures) is.place;
      upright = is.upright;
      at = is.at;
      greater = λ l. back ∙ greater l;
      smaller = λ l. back ∙ smaller l;
    }))

pub returns-clause-valid : goal.returns-clause-valid
returns-clause-valid c =
    let d = c.args.raw.now in
    let cs = c.args.hinges.now.creases.items in
    let x : Hinge = c.index-hinge.result.now in
    let is = subst (IsHinge d cs) (sym c.index-hinge.ensures)
    (c.requires.hinges.each c.args.i x c.requires.i) in
    let f : SFits w32 x.at = search rules in
    let g : SFits w8 c.sign_of.result = search rules in
    let near : unsigned_abs x.at ≤ FARTHEST =
    subst (λ z. unsigned_abs z ≤ FARTHEST) (sym is.at)
    (line_near d x.edge.0 x.upright c.requires.dieline is.pair.joins.crease.side_of_first.3.within) in
    let place = place_below d cs x.edge.0 MOST_JOINTS c.place_of.result
    (omega (arith, c.requires.few, c.requires.hinges.few))
    (subst (IsPlace d cs x.edge.0) (sym c.place_of.ensures) is.place) in
    simp to_z-of_z (record { near = near; place = place })
