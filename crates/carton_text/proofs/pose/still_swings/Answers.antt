use Rattle.std.proofs.Common.{◌≡◌, ◌+◌, ◌*◌, ◌^◌, ◌<◌, length, take, get_or, length-take-le, None, true, pos}
use Rattle.std.proofs.Common.{refl, sym, subst, arith}
use Rattle.std.proofs.lemmas.List.{get_or-take}
use Rattle.std.proofs.lemmas.Nat.{pow_pos}
use Rattle.carton_base.specs.declared.motion.Turn.{Turn}
use Rattle.carton_halfturn.proofs.Sizes.{grid_bounds}
use Rattle.carton_model.specs.HalfTurns.{joint_fold}
use Rattle.carton_model.specs.Moves.{stop_of}
use Rattle.carton_model.specs.Turning.{angle_of, fold_of}
use Rattle.carton_place.specs.Held.{HoldsSwing, HoldSwings, IsSwingWithin}
use Rattle.carton_place.proofs.Lists.{beside}
use Rattle.carton_text.proofs.Still.{still_angles, no_change, within_two}
use Rattle.carton_text.proofs.pose.still_swings.Goals as goal

pub returns-clause-holds : goal.returns-clause-holds
returns-clause-holds c =
    let turns = c.args.turns.now in
    let count = length turns in
    let swings = c.swings_over.result in
    let state = c.args.state.now in
    let whole : length (take count swings) ≡ count =
    length-take-le count swings (omega (arith, c.swings_over.ensures.length, c.requires.count)) in
    let angle = λ (t : Turn).
    angle_of (fold_of (λ k. joint_fold (stop_of state k) (stop_of state k) state.grid 0 1) t.place) in
    let at_start : 0 + c.whole.result.index * 1 ≡ 0 * 2 ^ c.whole.result.depth =
    omega (arith, c.whole.ensures.index) in
    subst (HoldSwings (take count swings) 0 1) (still_angles state turns)
    (beside 0 1 angle (take count swings) turns whole
    (λ k s t l. subst (λ r. HoldsSwing r 0 1 (angle (get_or turns k t)))
    (sym (get_or-take count swings k s l))
    ((c.swings_over.ensures.swings k s t l).follows 0 0 1 record {
      within = omega arith;
      some = omega arith;
    } at_start)))

pub returns-clause-still : goal.returns-clause-still
returns-clause-still c = λ k s l.
    let turns = c.args.turns.now in
    let count = length turns in
    let swings = c.swings_over.result in
    let state = c.args.state.now in
    let den = state.grid * 2 ^ c.whole.result.depth in
    let grid : 0 < state.grid = omega (arith, (grid_bounds state.grid state.on_grid).0) in
    let parts : 0 < 2 ^ c.whole.result.depth = pow_pos c.whole.result.depth in
    let some : 0 < den = grind arith in
    let below : k < count =
    omega (
      arith,
      l,
      length-take-le count swings
          (omega (arith, c.swings_over.ensures.length, c.requires.count)),
    ) in
    let t : Turn = record { place = None; upright = true; at = pos 0; sign = pos 1; signed = refl } in
    let close = (c.swings_over.ensures.swings k s t below).close in
    let none = no_change state (get_or turns k t).place in
    subst (IsSwingWithin 2) (sym (get_or-take count swings k s below))
    record { cos = within_two _ _ den some none close.cos; sin = within_two _ _ den some none close.sin }
