-- Turns keep the w of a position positive, where the folds have positive dens.
use Rattle.std.proofs.Common.{◌≡◌, refl, sym, subst, ℕ, ◌*◌, ◌<◌, List, [], ◌∷◌, Bool, true, false, cond}
use Rattle.std.proofs.Common.{Option, None, Some, ℤ, pos, negsuc, ◌+ℤ◌, ◌-ℤ◌, ◌*ℤ◌, ◌<ℤ◌, unsigned_abs, arith}
use Rattle.std.proofs.lemmas.Int.{ints}
use Rattle.carton_base.specs.Moments.{IsMoment}
use Rattle.carton_base.specs.declared.motion.Motion.{Motion}
use Rattle.carton_base.specs.declared.motion.Turn.{Turn}
use Rattle.carton_base.proofs.Identities.{less, ◌⊗◌, ◌⊜◌, by2}
use Rattle.carton_base.proofs.Polynomials.{nonneg_square, positive_product}
use Rattle.carton_halfturn.proofs.Sizes.{grid_bounds}
use Rattle.carton_model.specs.HalfTurns.{Fold, is_slight, with_sign, half_cosine, half_sine, square_sum}
use Rattle.carton_model.specs.Moves.{fold_at}
use Rattle.carton_model.specs.Parting.{Position}
use Rattle.carton_model.specs.Turning.{Angle, angle_of, turned_about, turned_by, turned_through, fold_of}
use Rattle.carton_model.specs.Turning.{placed}
use Rattle.carton_part.specs.Points.{HaveDens}
use Rattle.carton_part.proofs.Linear.{by_line}

some_squares : (a b : ℤ) → pos 0 <ℤ a → 0 < unsigned_abs (a *ℤ a +ℤ b *ℤ b)
some_squares a b h = let p = positive_product a a h h in let q = nonneg_square b in omega (arith, ints, p, q)

some_squares_after : (a b : ℤ) → pos 0 <ℤ b → 0 < unsigned_abs (a *ℤ a +ℤ b *ℤ b)
some_squares_after a b h = let p = positive_product b b h h in let q = nonneg_square a in
    omega (arith, ints, p, q)

signed_squares : (a : ℤ) (n : ℤ) (d : ℕ) → 0 < d → 0 < unsigned_abs (a *ℤ a +ℤ with_sign n d *ℤ with_sign n d)
signed_squares a (pos n) d h = some_squares_after a (pos d) (omega (arith, ints, h))
signed_squares a (negsuc n) d h =
    subst (λ z. 0 < unsigned_abs (a *ℤ a +ℤ z))
    (sym (by2 (λ x y. less x ⊗ less x ⊜ x ⊗ x) refl (pos d) (pos 0)))
    (some_squares_after a (pos d) (omega (arith, ints, h)))

-- cosine and sine of a fold stand over a positive number
pub some_over : (f : Fold) → 0 < f.den → 0 < (angle_of f).over
unfolding square_sum half_cosine half_sine
some_over f h = at (is_slight f.num f.den)
  where
    at : (b : Bool)
        → 0 < unsigned_abs (cond b (pos f.den) (pos (2 * f.den) -ℤ pos (unsigned_abs f.num))
        *ℤ cond b (pos f.den) (pos (2 * f.den) -ℤ pos (unsigned_abs f.num))
        +ℤ cond b f.num (with_sign f.num f.den) *ℤ cond b f.num (with_sign f.num f.den))
    at true = some_squares (pos f.den) f.num (omega (arith, ints, h))
    at false = signed_squares (pos (2 * f.den) -ℤ pos (unsigned_abs f.num)) f.num f.den h

pub some_over_of : (folds : ℕ → Fold) (o : Option ℕ) → HaveDens folds → 0 < (angle_of (fold_of folds o)).over
some_over_of folds None h = some_over (record { num = pos 0; den = 1 }) (omega arith)
some_over_of folds (Some k) h = some_over (folds k) (h k)

w_about : (at : ℤ) (g : Angle) (p : Position) → (turned_about at g p).w ≡ p.w *ℤ pos g.over
unfolding turned_about
w_about at g p = refl

pub w_by : (t : Turn) (g : Angle) (p : Position) → (turned_by t g p).w ≡ p.w *ℤ pos g.over
w_by t g p = by_line (λ turned. (turned p).w ≡ p.w *ℤ pos g.over) t g (w_about t.at _ p) (w_about t.at _ _)

pub positive_placed : (folds : ℕ → Fold) (ts : List Turn) (p : Position) → HaveDens folds → pos 0 <ℤ p.w
    → pos 0 <ℤ (placed folds ts p).w
unfolding turned_through
positive_placed folds [] p h w = w
positive_placed folds (t ∷ ts) p h w =
    let g = angle_of (fold_of folds t.place) in
    let o = some_over_of folds t.place h in
    positive_placed folds ts (turned_by t g p) h
    (subst (λ z. pos 0 <ℤ z) (sym (w_by t g p))
    (positive_product p.w (pos g.over) w (omega (arith, ints, o))))

pub dens_at : (motion : Motion) (n d : ℕ) → IsMoment n d → HaveDens (fold_at motion n d)
dens_at motion n d m k =
    let g = (grid_bounds motion.from.grid motion.from.on_grid).0 in
    let e = m.some in
    let g0 : 0 < motion.from.grid = omega (arith, g) in
    grind arith
