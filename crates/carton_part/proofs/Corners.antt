-- A direction parts all points of two shrunk panels exactly where it parts their corners.
use Rattle.std.proofs.Common.{◌≡◌, ◌∙◌, ap, sym, subst, ℕ, ◌<◌, List, length, map, get_or, ℤ, pos, ◌<ℤ◌}
use Rattle.std.proofs.Common.{arith}
use Rattle.std.specs.Prelude.{Contains}
use Rattle.std.proofs.lemmas.Int.{ints}
use Rattle.std.proofs.lemmas.List.{get_or-map}
use Rattle.carton_base.specs.Moments.{IsMoment}
use Rattle.carton_base.specs.declared.motion.Motion.{Motion}
use Rattle.carton_base.specs.declared.numbers.Triple.{Triple}
use Rattle.carton_model.specs.Moves.{fold_at}
use Rattle.carton_model.specs.Parting.{Position}
use Rattle.carton_model.specs.Turning.{laid, placed}
use Rattle.carton_panels.specs.Shapes.{IsShape}
use Rattle.carton_panels.specs.Shrinking.{IsMean}
use Rattle.carton_tree.specs.Trees.{Tree, turns_between}
use Rattle.carton_reach.specs.Beyond.{IsBeyond, AreCornersParted}
use Rattle.carton_reach.specs.Spots.{shape_at, corners_in, spots_in, origin}
use Rattle.carton_part.specs.Parted.{ArePartedIn}
use Rattle.carton_part.specs.Points.{IsPointOf, flat_at}
use Rattle.carton_part.proofs.Linear.{AreSums, sum_placed}
use Rattle.carton_part.proofs.Positive.{positive_placed, dens_at}
use Rattle.carton_part.proofs.Means.{IsMeanOfThree, first_mean, second_mean}

-- where a corner of the list stands
spot_of : (ts : List Triple) (k : ℕ) (t : Triple) → k < length ts → get_or (map laid ts) k origin
    ≡ laid (get_or ts k t)
spot_of ts k t lt = get_or-map laid ts k t origin lt

-- a position of a panel's point is a mean of the positions of three of its corners
pub record IsOfCorners (t : Tree) (motion : Motion) (a f n d : ℕ) (p : Position) : Type 0 where
  pub positive : pos 0 <ℤ p.w
  pub i : ℕ
  pub j : ℕ
  pub k : ℕ
  pub at_i : i < corners_in t a
  pub at_j : j < corners_in t a
  pub at_k : k < corners_in t a
  pub mean : IsMeanOfThree p (spots_in t motion a f i n d) (spots_in t motion a f j n d)
      (spots_in t motion a f k n d)

laid_mean : (x y w : ℤ) (a b c : Triple) (h : IsMean x y w a b c)
    → AreSums (pos h.k) (pos h.l) (pos h.m) (pos h.n) (flat_at x y w) (laid a) (laid b) (laid c)
laid_mean x y w a b c h = record { x = h.x_part; y = h.y_part; z = omega (arith, ints); w = h.w_part }

pub of_corners : (t : Tree) (motion : Motion) (a f n d : ℕ) (p : Position) → IsShape (shape_at t a)
    → IsMoment n d → IsPointOf t (fold_at motion n d) a f p → IsOfCorners t motion a f n d p
of_corners t motion a f n d p s m h =
    let folds = fold_at motion n d in
    let turns = turns_between t a f in
    let g = s.generates h.x h.y h.w h.positive h.inside in
    let mean = g.6 in
    let at = λ (c : Triple) (i : Contains (shape_at t a).shrunk c).
    sym (spot_of (shape_at t a).shrunk i.0 c i.1 ∙ ap laid i.2) in
    let flat = laid_mean h.x h.y h.w g.0 g.1 g.2 mean in
    let sums = sum_placed folds turns (pos mean.k) (pos mean.l) (pos mean.m) (pos mean.n) _ _ _ _ flat in
    let e : p ≡ placed folds turns (flat_at h.x h.y h.w) = h.at in
    let ea = at g.0 g.3 in
    let eb = at g.1 g.4 in
    let ec = at g.2 g.5 in
    record {
      positive =
          subst (λ (q : Position). pos 0 <ℤ q.w) (sym e)
          (positive_placed folds turns (flat_at h.x h.y h.w) (dens_at motion n d m) h.positive);
      i = g.3.0;
      j = g.4.0;
      k = g.5.0;
      at_i = g.3.1;
      at_j = g.4.1;
      at_k = g.5.1;
      mean = record {
        k = mean.k;
        l = mean.l;
        m = mean.m;
        n = mean.n;
        some = mean.some;
        sums = subst (λ q. AreSums (pos mean.k) (pos mean.l) (pos mean.m) (pos mean.n) q
            (spots_in t motion a f g.3.0 n d) (spots_in t motion a f g.4.0 n d)
            (spots_in t motion a f g.5.0 n d)) (sym e)
            (subst (λ q. AreSums (pos mean.k) (pos mean.l) (pos mean.m) (pos mean.n)
            (placed folds turns (flat_at h.x h.y h.w)) q (spots_in t motion a f g.4.0 n d)
            (spots_in t motion a f g.5.0 n d)) (ap (placed folds turns) ea)
            (subst (λ q. AreSums (pos mean.k) (pos mean.l) (pos mean.m) (pos mean.n)
            (placed folds turns (flat_at h.x h.y h.w)) (placed folds turns (laid g.0)) q
            (spots_in t motion a f g.5.0 n d)) (ap (placed folds turns) eb)
            (subst (λ q. AreSums (pos mean.k) (pos mean.l) (pos mean.m) (pos mean.n)
            (placed folds turns (flat_at h.x h.y h.w)) (placed folds turns (laid g.0))
            (placed folds turns (laid g.1)) q) (ap (placed folds turns) ec) sums)));
      };
    }

-- from the corners to all points
pub parted_in : (t : Tree) (motion : Motion) (a b f : ℕ) (halves : ℤ) (n d : ℕ) → IsShape (shape_at t a)
    → IsShape (shape_at t b) → IsMoment n d
    → AreCornersParted halves (spots_in t motion a f) (corners_in t a) (spots_in t motion b f) (corners_in t
    b) n d → ArePartedIn t (fold_at motion n d) a b halves f
parted_in t motion a b f halves n d sa sb m h = (
  h.0,
  h.1,
  h.2,
  h.3,
  λ p q hp hq.
      let x = of_corners t motion a f n d p sa m hp in
      let y = of_corners t motion b f n d q sb m hq in
      let to : (l : ℕ) → l < corners_in t b → IsBeyond halves h.0 h.1 h.2 p (spots_in t motion b f l n d) =
      λ l at. first_mean halves h.0 h.1 h.2 p _ _ _ (spots_in t motion b f l n d) x.positive x.mean
      (h.4 x.i l x.at_i at) (h.4 x.j l x.at_j at) (h.4 x.k l x.at_k at) in
      second_mean halves h.0 h.1 h.2 p q _ _ _ y.positive y.mean (to y.i y.at_i) (to y.j y.at_j)
      (to y.k y.at_k),
)

-- a flat point, for reading past a list
blank : Triple
blank = record { x = pos 0; y = pos 0; w = pos 1; positive = omega (arith, ints) }

-- each corner of the shrunk panel is a point of it
pub corner_is : (t : Tree) (motion : Motion) (a f n d k : ℕ) → IsShape (shape_at t a) → k < corners_in t a
    → IsPointOf t (fold_at motion n d) a f (spots_in t motion a f k n d)
corner_is t motion a f n d k s lt =
    let c = get_or (shape_at t a).shrunk k blank in
    record {
      x = c.x;
      y = c.y;
      w = c.w;
      positive = c.positive;
      inside = s.members k blank lt;
      at = ap (placed (fold_at motion n d) (turns_between t a f)) (spot_of (shape_at t a).shrunk k blank lt);
    }

-- and from all points to the corners
pub corners_parted : (t : Tree) (motion : Motion) (a b f : ℕ) (halves : ℤ) (n d : ℕ) → IsShape (shape_at t a)
    → IsShape (shape_at t b) → IsMoment n d
    → ArePartedIn t (fold_at motion n d) a b halves f
    → AreCornersParted halves (spots_in t motion a f) (corners_in t a) (spots_in t motion b f) (corners_in
    t b) n d
corners_parted t motion a b f halves n d sa sb m h = (
  h.0,
  h.1,
  h.2,
  h.3,
  λ k l i j. h.4 _ _ (corner_is t motion a f n d k sa i) (corner_is t motion b f n d l sb j),
)
