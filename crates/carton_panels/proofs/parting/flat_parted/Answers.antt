use Rattle.std.proofs.Common.{List, ℤ, [], ◌∷◌, get_or, subst, sym}
use Rattle.carton_base.proofs.Loops.{yes, no, at_yes, at_no, none_more_read, none_any}
use Rattle.carton_base.proofs.AllDirections.{directions, part, listed_direction, direction_stands}
use Rattle.carton_panels.proofs.Parted.{CornersParted, parted_at, parts_from_corners, corners_from_parts}
use Rattle.carton_panels.proofs.parting.flat_parted.Goals as goal

pub in_plane-requires : goal.in_plane-requires
in_plane-requires c = listed_direction c.loop-direction.direction-index [] c.loop-direction-test.true

pub returns-then-parts : goal.returns-then-parts
returns-then-parts c =
    let k = c.loop-direction.direction-index in
    let d : List ℤ = get_or directions k [] in
    let first = c.shrunk-first.ensures in
    let second = c.shrunk-second.ensures in
    let found : CornersParted (part d 0) (part d 1) c.shrunk-first.result.now c.shrunk-second.result.now =
    parted_at c.in_plane.result.u c.in_plane.result.v (part d 0) (part d 1) c.shrunk-first.result.now
    c.shrunk-second.result.now c.in_plane.ensures.u c.in_plane.ensures.v
    (at_yes c.if-parts.true c.parts.ensures) in
    let parted : CornersParted (part d 0) (part d 1) c.args.a.now.shrunk c.args.b.now.shrunk =
    subst (λ ts. CornersParted (part d 0) (part d 1) ts c.args.b.now.shrunk) first.corners
    (subst (λ us. CornersParted (part d 0) (part d 1) c.shrunk-first.result.now us) second.corners
    found) in
    yes (
      part d 0,
      part d 1,
      part d 2,
      listed_direction k [] c.loop-direction-test.true,
      parts_from_corners
          (part d 0) (part d 1) (part d 2) c.args.a.now c.args.b.now first.shape second.shape parted,
    )

pub loop-direction-preserved : goal.loop-direction-preserved
loop-direction-preserved c =
    let k = c.loop-direction.direction-index in
    let d : List ℤ = get_or directions k [] in
    let first = c.shrunk-first.result.now in
    let second = c.shrunk-second.result.now in
    none_more_read (λ (d : List ℤ). CornersParted (part d 0) (part d 1) first second) directions k []
    c.loop-direction-test.true
    (λ parted. at_no c.if-parts.false c.parts.ensures
    (parted_at (part d 0) (part d 1) c.in_plane.result.u c.in_plane.result.v first second
    (sym c.in_plane.ensures.u) (sym c.in_plane.ensures.v) parted))
    c.loop-direction.invariant

pub returns : goal.returns
returns c = no (λ h.
    let first = c.shrunk-first.ensures in
    let second = c.shrunk-second.ensures in
    let at = direction_stands h.0 h.1 h.2 h.3 in
    let parted : CornersParted h.0 h.1 c.args.a.now.shrunk c.args.b.now.shrunk = corners_from_parts h.0 h.1
    h.2 c.args.a.now c.args.b.now first.shape second.shape h.4 in
    let found : CornersParted h.0 h.1 c.shrunk-first.result.now c.shrunk-second.result.now =
    subst (λ ts. CornersParted h.0 h.1 ts c.shrunk-second.result.now) (sym first.corners)
    (subst (λ us. CornersParted h.0 h.1 c.args.a.now.shrunk us) (sym second.corners) parted) in
    let Q : List ℤ
    → Type 0 =
    λ d. CornersParted (part d 0) (part d 1) c.shrunk-first.result.now c.shrunk-second.result.now in
    none_any Q directions c.loop-direction.direction-index c.loop-direction-test.false
    c.loop-direction.invariant (at.0, h.0 ∷ h.1 ∷ h.2 ∷ [], at.1, at.2, found))
