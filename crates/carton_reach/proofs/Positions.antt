-- The w of a position that was turned is positive.
use Rattle.std.proofs.Common.{◌≡◌, ℕ, zero, suc, ◌*◌, ◌<◌, List, [], ◌∷◌, get_or, map, Bool, true, false}
use Rattle.std.proofs.Common.{cond, Option, None, Some, ℤ, pos, negsuc, neg_ℤ, ◌+ℤ◌, ◌-ℤ◌, ◌*ℤ◌, ◌<ℤ◌, ◌≤ℤ◌}
use Rattle.std.proofs.Common.{unsigned_abs, arith, ap, refl, ◌∙◌}
use Rattle.std.proofs.lemmas.Int.{ints}
use Rattle.carton_base.specs.declared.motion.Motion.{Motion}
use Rattle.carton_base.specs.declared.motion.Turn.{Turn}
use Rattle.carton_base.specs.declared.numbers.Triple.{Triple}
use Rattle.carton_base.proofs.Polynomials.{mul_neg_left, nonneg_square, positive_product}
use Rattle.carton_base.proofs.Products.{mul_neg_right}
use Rattle.carton_model.specs.HalfTurns.{Fold, half_cosine, half_sine, square_sum, is_slight, with_sign}
use Rattle.carton_model.specs.Moves.{fold_at}
use Rattle.carton_model.specs.Parting.{Position}
use Rattle.carton_model.specs.Turning.{Angle, angle_of, exchanged, fold_of, laid, placed, turned_about}
use Rattle.carton_model.specs.Turning.{turned_by, turned_through, with_side}
use Rattle.carton_halfturn.proofs.HalfPairs.{square_sum_is}
use Rattle.carton_halfturn.proofs.Sizes.{grid_bounds}
use Rattle.carton_tree.specs.Trees.{Tree, turns_between}
use Rattle.carton_reach.specs.Beyond.{ArePositive}
use Rattle.carton_reach.specs.Spots.{spots_after, spots_in, origin, shape_at}

-- of a half pair one number is the den, either way
one_is_den : (b : Bool) (d c s t : ℤ) → t *ℤ t ≡ d *ℤ d
    → (d *ℤ d) ≤ℤ (cond b d c *ℤ cond b d c +ℤ cond b s t *ℤ cond b s t)
one_is_den true d c s t e = let q = nonneg_square s in omega (arith, ints, q)
one_is_den false d c s t e = let q = nonneg_square c in omega (arith, ints, q, e)

sign_square : (n : ℤ) (d : ℕ) → with_sign n d *ℤ with_sign n d ≡ pos d *ℤ pos d
sign_square (pos n) d = refl
sign_square (negsuc n) d = mul_neg_right (pos d) (neg_ℤ (pos d)) ∙ ap neg_ℤ (mul_neg_left (pos d) (pos d))
    ∙ omega (arith, ints)

den_squares : (n : ℤ) (d : ℕ)
    → (pos d *ℤ pos d) ≤ℤ (half_cosine n d *ℤ half_cosine n d +ℤ half_sine n d *ℤ half_sine n d)
unfolding half_cosine half_sine
den_squares n d = one_is_den (is_slight n d) (pos d) (pos (2 * d) -ℤ pos (unsigned_abs n)) n (with_sign n d)
    (sign_square n d)

-- the sum of the squares is positive
squares : (n : ℤ) (d : ℕ) → 0 < d → 0 < square_sum n d
squares n d p =
    let s = square_sum_is n d in
    let l = den_squares n d in
    let q = positive_product (pos d) (pos d) (omega (arith, ints, p)) (omega (arith, ints, p)) in
    omega (arith, ints, s, l, q)

-- one turn
turned_positive : (t : Turn) (a : Angle) (p : Position) → 0 < a.over → pos 0 <ℤ p.w
    → pos 0 <ℤ (turned_by t a p).w
unfolding turned_by turned_about
turned_positive t a p o w = either t.upright
  where
    either : (b : Bool)
        → pos 0
        <ℤ (cond b (turned_about t.at (with_side t.sign a) p)
        (exchanged (turned_about t.at (with_side t.sign a) (exchanged p)))).w
    either true = positive_product p.w (pos a.over) w (omega (arith, ints, o))
    either false = positive_product p.w (pos a.over) w (omega (arith, ints, o))

-- all turns, where each fold has a positive den
placed_positive : (folds : ℕ → Fold) (ts : List Turn) (p : Position)
    → ((o : Option ℕ) → 0 < (fold_of folds o).den) → pos 0 <ℤ p.w → pos 0 <ℤ (placed folds ts p).w
unfolding turned_through
placed_positive folds [] p dens w = w
placed_positive folds (t ∷ ts) p dens w =
    let f = fold_of folds t.place in
    placed_positive folds ts (turned_by t (angle_of f) p) dens
    (turned_positive t (angle_of f) p (squares f.num f.den (dens t.place)) w)

laid_positive : (xs : List Triple) (k : ℕ) → pos 0 <ℤ (get_or (map laid xs) k origin).w
laid_positive [] k = omega (arith, ints)
laid_positive (x ∷ xs) zero = x.positive
laid_positive (x ∷ xs) (suc k) = laid_positive xs k

-- flat corners after any turns
pub after_positive : (motion : Motion) (turns : List Turn) (corners : List Triple)
    → ArePositive (spots_after motion turns corners)
after_positive motion turns corners k n d m =
    placed_positive (fold_at motion n d) turns _ dens (laid_positive corners k)
  where
    dens : (o : Option ℕ) → 0 < (fold_of (fold_at motion n d) o).den
    dens None = omega arith
    dens (Some j) =
        let g : 0 < motion.from.grid = omega (arith, (grid_bounds motion.from.grid motion.from.on_grid).0) in
        let some : 0 < d = m.some in grind arith

-- the corners of a shrunk panel in any frame
pub spots_positive : (t : Tree) (motion : Motion) (p frame : ℕ) → ArePositive (spots_in t motion p frame)
spots_positive t motion p frame = after_positive motion (turns_between t p frame) (shape_at t p).shrunk
