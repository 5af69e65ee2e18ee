use Rattle.std.proofs.Common.{rules, arith, ◌≡◌, ◌<◌, ◌⊎◌, length, get_or, SFits, ◌*ℤ◌, subst}
use Rattle.std.specs.Int.{w128}
use Rattle.std.proofs.lemmas.Int.{to_z-of_z}
use Rattle.carton_base.proofs.Loops.{yes, no, at_yes, at_no}
use Rattle.carton_reach.specs.Reaches.{IsApart, half}
use Rattle.carton_reach.proofs.Lists.{one_more_pair, same_default}
use Rattle.carton_reach.proofs.nearness.are_apart.Goals as goal

pub returns-then-is_apart : goal.returns-then-is_apart
returns-then-is_apart c =
    let i = c.loop-a.a in
    let p = c.args.p.now.axes in
    let q = c.args.q.now.axes in
    let r : SFits w128 c.room_of-room.result = search rules in
    let value : c.room_of-room.result ≡ c.args.halves *ℤ half =
    grind (rules, to_z-of_z, c.room_of-room.ensures.value) in
    let hit : IsApart c.room_of-room.result (get_or p i c.index-p-a.result) (get_or q i c.index-q-a.result)
    ⊎ IsApart c.room_of-room.result (get_or q i c.index-q-a.result) (get_or p i c.index-p-a.result) =
    simp to_z-of_z at (at_yes c.if-is_apart.true c.is_apart.ensures) in
    let hq : i < length q = omega (arith, c.loop-a.invariant.1, c.loop-a-test.true) in
    yes (
      i,
      c.index-p-a.result,
      c.loop-a-test.true,
      subst (λ m. IsApart m (get_or p i c.index-p-a.result) (get_or q i c.index-p-a.result)
          ⊎ IsApart m (get_or q i c.index-p-a.result) (get_or p i c.index-p-a.result)) value
          (same_default (λ x y. IsApart c.room_of-room.result x y ⊎ IsApart c.room_of-room.result y x) p q i
          c.index-p-a.result c.index-q-a.result hq hit),
    )

pub loop-a-preserved : goal.loop-a-preserved
loop-a-preserved c =
    let i = c.loop-a.a in
    let p = c.args.p.now.axes in
    let q = c.args.q.now.axes in
    let room = c.room_of-room.result in
    let r : SFits w128 c.room_of-room.result = search rules in
    let before = simp to_z-of_z at c.loop-a.invariant in
    let missed : ¬ (IsApart room (get_or p i c.index-p-a.result) (get_or q i c.index-q-a.result)
    ⊎ IsApart room (get_or q i c.index-q-a.result) (get_or p i c.index-p-a.result)) =
    simp to_z-of_z at (at_no c.if-is_apart.false c.is_apart.ensures) in
    simp to_z-of_z (
      before.0,
      before.1,
      one_more_pair (λ x y. ¬ (IsApart room x y ⊎ IsApart room y x)) p q i
          c.index-p-a.result c.index-q-a.result before.0 before.1 c.loop-a-test.true missed before.2,
    )

pub returns : goal.returns
returns c =
    let r : SFits w128 c.room_of-room.result = search rules in
    let value : c.room_of-room.result ≡ c.args.halves *ℤ half =
    grind (rules, to_z-of_z, c.room_of-room.ensures.value) in
    let before = simp to_z-of_z at c.loop-a.invariant in
    no (λ s. subst (λ m. ¬ (IsApart m (get_or c.args.p.now.axes s.0 s.1) (get_or c.args.q.now.axes s.0 s.1)
    ⊎ IsApart m (get_or c.args.q.now.axes s.0 s.1) (get_or c.args.p.now.axes s.0 s.1))) value
    (before.2 s.0 s.1 (omega (arith, s.2, c.loop-a-test.false)) s.2) s.3)
