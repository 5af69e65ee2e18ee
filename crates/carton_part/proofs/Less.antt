-- Panels that are parted by more than so many halves are parted by more than fewer.
use Rattle.std.proofs.Common.{sym, subst, ℕ, List, [], ◌∷◌, ℤ, pos, ◌*ℤ◌, ◌≤ℤ◌, arith}
use Rattle.std.proofs.lemmas.Int.{ints}
use Rattle.carton_base.proofs.Polynomials.{nonneg_product}
use Rattle.carton_base.proofs.Products.{mul_le_right}
use Rattle.carton_base.specs.declared.motion.Turn.{Turn}
use Rattle.carton_model.specs.HalfTurns.{Fold}
use Rattle.carton_model.specs.Parting.{Position}
use Rattle.carton_model.specs.Turning.{angle_of, turned_by, turned_through, fold_of, placed}
use Rattle.carton_reach.specs.Beyond.{IsBeyond}
use Rattle.carton_tree.specs.Trees.{Tree, turns_between}
use Rattle.carton_part.specs.Parted.{ArePartedIn, ArePartedBy}
use Rattle.carton_part.specs.Points.{IsPointOf, flat_at}
use Rattle.carton_part.proofs.Positive.{w_by}

-- turns make no w negative, whatever the folds
nonneg_placed : (folds : ℕ → Fold) (ts : List Turn) (p : Position) → pos 0 ≤ℤ p.w
    → pos 0 ≤ℤ (placed folds ts p).w
unfolding turned_through
nonneg_placed folds [] p w = w
nonneg_placed folds (t ∷ ts) p w =
    let g = angle_of (fold_of folds t.place) in
    nonneg_placed folds ts (turned_by t g p)
    (subst (λ z. pos 0 ≤ℤ z) (sym (w_by t g p)) (nonneg_product p.w (pos g.over) w (omega (arith, ints))))

nonneg_w : (t : Tree) (folds : ℕ → Fold) (a f : ℕ) (p : Position) → IsPointOf t folds a f p → pos 0 ≤ℤ p.w
nonneg_w t folds a f p h =
    subst (λ (q : Position). pos 0 ≤ℤ q.w) (sym h.at)
    (nonneg_placed folds (turns_between t a f) (flat_at h.x h.y h.w) (let w = h.positive in
    omega (arith, ints, w)))

pub beyond_less : (more less u v t : ℤ) (p q : Position) → pos 0 ≤ℤ p.w → pos 0 ≤ℤ q.w → less ≤ℤ more
    → IsBeyond more u v t p q → IsBeyond less u v t p q
beyond_less more less u v t p q wp wq le h =
    let fewer = mul_le_right less more (p.w *ℤ q.w) le (nonneg_product p.w q.w wp wq) in
    omega (arith, ints, h, fewer)

pub parted_in_less : (t : Tree) (folds : ℕ → Fold) (a b : ℕ) (more less : ℤ) (f : ℕ)
    → ArePartedIn t folds a b more f → less ≤ℤ more → ArePartedIn t folds a b less f
parted_in_less t folds a b more less f h le = (
  h.0,
  h.1,
  h.2,
  h.3,
  λ p q hp hq. beyond_less more less h.0 h.1 h.2 p q (nonneg_w t folds a f p hp)
      (nonneg_w t folds b f q hq) le (h.4 p q hp hq),
)

pub parted_by_less : (t : Tree) (folds : ℕ → Fold) (a b : ℕ) (more less : ℤ) → ArePartedBy t folds a b more
    → less ≤ℤ more → ArePartedBy t folds a b less
parted_by_less t folds a b more less h le = (h.0, h.1, parted_in_less t folds a b more less h.0 h.2 le)
