use Rattle.std.proofs.Common.{◌≡◌, sym, subst, ℕ, ◌+◌, ◌-◌, ◌*◌, ◌/◌, ◌^◌, ◌<◌, ◌≤◌, length, get_or, take}
use Rattle.std.proofs.Common.{length-take-le, pos, None, true, SFits, to_z-of_z, arith, refl}
use Rattle.std.specs.Prelude.{All}
use Rattle.std.specs.Int.{w64}
use Rattle.std.proofs.lemmas.Nat.{pow_pos}
use Rattle.std.proofs.lemmas.Int.{ints, fits_signed_from_abs}
use Rattle.std.proofs.lemmas.List.{get_or-take}
use Rattle.carton_base.specs.declared.motion.Turn.{Turn}
use Rattle.carton_halfturn.proofs.Sizes.{grid_bounds}
use Rattle.carton_model.specs.Moves.{fold_at}
use Rattle.carton_model.specs.Turning.{angle_of, fold_of, angles_of, laid}
use Rattle.carton_place.specs.Held.{HoldsSwing, IsSwingWithin}
use Rattle.carton_place.proofs.Numbers.{within_quotient, from_quotient}
use Rattle.carton_place.proofs.Lists.{beside}
use Rattle.carton_place.proofs.Starts.{rounded_between}
use Rattle.carton_place.proofs.placing.place.Goals as goal

pub returns-clause-holds : goal.returns-clause-holds
returns-clause-holds g c = λ m n d o p.
    let count = length c.args.turns.now in
    let swings = c.swings_over-swings.result in
    let whole : length (take count swings) ≡ count =
    length-take-le count swings (omega (arith, c.swings_over-swings.ensures.length, c.requires.count)) in
    let angle = λ (t : Turn). angle_of (fold_of (fold_at c.args.motion.now n d) t.place) in
    let each = beside m d angle (take count swings) c.args.turns.now whole
    (λ k s t l. subst (λ r. HoldsSwing r m d (angle (get_or c.args.turns.now k t)))
    (sym (get_or-take count swings k s l)) ((c.swings_over-swings.ensures.swings k s t l).follows m n d o
    p)) in
    let w : SFits w64 c.args.corner.w = fits_signed_from_abs w64 c.args.corner.w
    (omega (arith, ints, c.args.corner.positive, c.requires.fine)) in
    let x : SFits w64 c.args.corner.x = fits_signed_from_abs w64 c.args.corner.x
    (omega (arith, ints, c.args.corner.positive, c.requires.fine, c.requires.near.x)) in
    let y : SFits w64 c.args.corner.y = fits_signed_from_abs w64 c.args.corner.y
    (omega (arith, ints, c.args.corner.positive, c.requires.fine, c.requires.near.y)) in
    let along_x = simp to_z-of_z at c.coordinate-x.ensures.rounded in
    let along_y = simp to_z-of_z at c.coordinate-y.ensures.rounded in
    c.place_from.ensures.holds m d (angles_of (fold_at c.args.motion.now n d) c.args.turns.now)
    (laid c.args.corner) o each record {
      positive = c.args.corner.positive;
      level = refl;
      along_x = rounded_between _ _ _ _ along_x;
      along_y = rounded_between _ _ _ _ along_y;
    }

pub returns-clause-within : goal.returns-clause-within
returns-clause-within g c = λ n d o p.
    let part : n * 2 ^ c.args.piece.depth - c.args.piece.index * d ≤ d = omega (arith, p.from, p.upto) in
    returns-clause-holds g c (n * 2 ^ c.args.piece.depth - c.args.piece.index * d) n d record {
      within = part;
      some = o.some;
    } (omega (arith, p.from))

pub returns-clause-spread : goal.returns-clause-spread
returns-clause-spread g c = λ most h.
    let n = length c.args.turns.now in
    let den = c.args.motion.now.from.grid * 2 ^ c.args.piece.depth in
    let grid : 0 < c.args.motion.now.from.grid =
    omega (arith, (grid_bounds c.args.motion.now.from.grid c.args.motion.now.from.on_grid).0) in
    let parts : 0 < 2 ^ c.args.piece.depth = pow_pos c.args.piece.depth in
    let some : 0 < den = grind arith in
    let e = 2 ^ 41 * most / den + 2 in
    let one : (u change : ℕ) → change ≤ most → u * den ≤ 2 ^ 41 * change + 2 * den
    → u ≤ e = λ u change k l. within_quotient u (2 ^ 41 * most) den some (omega (arith, k, l)) in
    let all : All (IsSwingWithin e) (take n c.swings_over-swings.result) = λ k s l.
    let below : k < n =
    omega (
      arith,
      l,
      length-take-le n c.swings_over-swings.result
          (omega (arith, c.swings_over-swings.ensures.length, c.requires.count)),
    ) in
    let t : Turn = record { place = None; upright = true; at = pos 0; sign = pos 1; signed = refl } in
    subst (IsSwingWithin e) (sym (get_or-take n c.swings_over-swings.result k s below))
    (let close = (c.swings_over-swings.ensures.swings k s t below).close in
    record { cos = one _ _ (h k t below) close.cos; sin = one _ _ (h k t below) close.sin }) in
    from_quotient _ (2 ^ 41 * most) den
    (c.place_from.ensures.spread e (omega arith) c.coordinate-x.ensures.spread
    c.coordinate-y.ensures.spread all)
