use Rattle.std.proofs.Common.{rules, ap, ◌∙◌, ◌≡◌, ℕ, ◌*◌, ◌≤◌, ◌^◌, ℤ, pos, ◌+ℤ◌, ◌-ℤ◌, ◌*ℤ◌, ◌≤ℤ◌, ◌<ℤ◌}
use Rattle.std.proofs.Common.{unsigned_abs, SFits, to_z, of_z, arith}
use Rattle.std.specs.Int.{w64, w8}
use Rattle.std.proofs.lemmas.Int.{ints, to_z-of_z, to_z_pos}
use Rattle.std.proofs.Math.Pow.{pow_mono}
use Rattle.carton_halfturn.proofs.Joints.{HasEnds, follows, leaves, reaches, goes}
use Rattle.carton_halfturn.proofs.Sizes.{span_sizes, grid_bounds, next_part}
use Rattle.carton_halfturn.proofs.pieces.span.Goals as goal

-- the numbers of a span without the casts: its three products, and its ends
record Plain (s t d n p q r : ℤ) (g : ℕ) : Type 0 where
  first : p ≡ s *ℤ d
  moved : q ≡ (t -ℤ s) *ℤ n
  den : r ≡ pos g *ℤ d
  start : to_z w64 (of_z w64 (to_z w64 (of_z w64 p) +ℤ to_z w64 (of_z w64 q))) ≡ p +ℤ q
  stop : to_z w64 (of_z w64 (to_z w64 (of_z w64 p) +ℤ to_z w64 (of_z w64 q)))
      +ℤ to_z w64 (of_z w64 (to_z w64 (of_z w64 (to_z w8 (of_z w8 t)))
      -ℤ to_z w64 (of_z w64 (to_z w8 (of_z w8 s)))))
      ≡ p +ℤ q +ℤ (t -ℤ s)
  whole : to_z w64 (of_z w64 r) ≡ r

plain : (s t d n p q r : ℤ) (g : ℕ) → SFits w8 s → SFits w8 t → unsigned_abs (t -ℤ s) ≤ 4
    → SFits w64 d → SFits w64 n → g ≤ 16
    → unsigned_abs p ≤ 2 ^ 41 → unsigned_abs q ≤ 2 ^ 41 → unsigned_abs r ≤ 2 ^ 41
    → p ≡ to_z w64 (of_z w64 (to_z w8 (of_z w8 s))) *ℤ to_z w64 (of_z w64 d)
    → q ≡ to_z w64 (of_z w64 (to_z w64 (of_z w64 (to_z w8 (of_z w8 t)))
    -ℤ to_z w64 (of_z w64 (to_z w8 (of_z w8 s))))) *ℤ to_z w64 (of_z w64 n)
    → r ≡ to_z w64 g *ℤ to_z w64 (of_z w64 d) → Plain s t d n p q r g
plain s t d n p q r g s8 t8 step d64 n64 g16 psize qsize rsize a b e =
    let s64 : SFits w64 s = omega (arith, ints) in
    let t64 : SFits w64 t = omega (arith, ints) in
    let step64 : SFits w64 (t -ℤ s) = omega (arith, ints, step) in
    let p64 : SFits w64 p = omega (arith, ints, psize) in
    let q64 : SFits w64 q = omega (arith, ints, qsize) in
    let r64 : SFits w64 r = omega (arith, ints, rsize) in
    let start64 : SFits w64 (p +ℤ q) = omega (arith, ints, psize, qsize) in
    let stop64 : SFits w64 (p +ℤ q +ℤ (t -ℤ s)) = omega (arith, ints, psize, qsize, step) in
    let grid : to_z w64 g ≡ pos g = to_z_pos w64 g (omega (arith, g16)) in
    record {
      first = simp to_z-of_z at a;
      moved = simp to_z-of_z at b;
      den = simp (grid, to_z-of_z) at e;
      start = simp to_z-of_z;
      stop = simp to_z-of_z;
      whole = simp to_z-of_z;
    }

pub parts-requires-clause-of : goal.parts-requires-clause-of
parts-requires-clause-of c =
    let depth : 2 ^ c.args.piece.depth ≤ 2 ^ 36 = pow_mono c.args.piece.shallow in
    omega (arith, ints, c.first-first.ensures.den, depth)

pub parts-requires-2-clause-of : goal.parts-requires-2-clause-of
parts-requires-2-clause-of c =
    let depth : 2 ^ c.args.piece.depth ≤ 2 ^ 36 = pow_mono c.args.piece.shallow in
    omega (arith, ints, c.first-first.ensures.num, c.args.piece.within, depth)

pub parts-requires-3-clause-of : goal.parts-requires-3-clause-of
parts-requires-3-clause-of c =
    let depth : 2 ^ c.args.piece.depth ≤ 2 ^ 36 = pow_mono c.args.piece.shallow in
    omega (arith, ints, c.first-first.ensures.den, depth)

pub overflow_add-start : goal.overflow_add-start
overflow_add-start c = omega (arith, ints, c.parts.ensures.size, c.parts-2.ensures.size)

plain_at : (c : goal.After-parts-3)
    → Plain c.args.from.0 c.args.to.0 c.first-first.result.den c.first-first.result.num c.parts.result
    c.parts-2.result c.parts-3.result c.args.grid
plain_at c =
    plain c.args.from.0 c.args.to.0 c.first-first.result.den c.first-first.result.num
    c.parts.result c.parts-2.result c.parts-3.result c.args.grid
    (search rules) (search rules) c.requires.step (search rules) (search rules)
    (grid_bounds c.args.grid c.requires.grid).1
    c.parts.ensures.size c.parts-2.ensures.size c.parts-3.ensures.size
    c.parts.ensures.value c.parts-2.ensures.value c.parts-3.ensures.value

pub going-requires : goal.going-requires
going-requires c =
    let grid = grid_bounds c.args.grid c.requires.grid in
    let h = plain_at c in
    let depth : 2 ^ c.args.piece.depth ≤ 2 ^ 36 = pow_mono c.args.piece.shallow in
    let k = span_sizes c.args.from.0 c.args.to.0 c.first-first.result.den c.first-first.result.num
    c.args.grid grid.0 grid.1 c.requires.from c.requires.to c.first-first.result.divides
    (omega (arith, ints, c.first-first.ensures.den, depth)) c.first-first.result.begun
    (omega (arith, ints, c.first-first.ensures.num, c.first-first.ensures.den, c.args.piece.within)) in
    let positive : pos 0 <ℤ c.parts-3.result = rw h.den k.positive in
    let fine : c.parts-3.result ≤ℤ pos (2 ^ 40) = rw h.den k.fine in
    let first : unsigned_abs (c.parts.result +ℤ c.parts-2.result) ≤ 2 * unsigned_abs c.parts-3.result =
    rw (h.first, h.moved, h.den) k.first in
    let second : unsigned_abs (c.parts.result +ℤ c.parts-2.result +ℤ (c.args.to.0 -ℤ c.args.from.0))
    ≤ 2 * unsigned_abs c.parts-3.result =
    rw (h.first, h.moved, h.den) k.second in
    record {
      positive = omega (arith, ints, positive, h.whole);
      fine = omega (arith, ints, fine, h.whole);
      first = omega (arith, ints, first, h.start, h.whole);
      second = omega (arith, ints, second, h.stop, h.whole);
    }

pub returns : goal.returns
returns c =
    let h = plain_at c.before in
    let step = c.args.to.0 -ℤ c.args.from.0 in
    let first : c.parts.result +ℤ c.parts-2.result
    ≡ c.args.from.0 *ℤ pos (2 ^ c.args.piece.depth)
    +ℤ (c.args.to.0 -ℤ c.args.from.0) *ℤ pos c.args.piece.index =
    (λ i. h.first i +ℤ h.moved i)
    ∙ (λ i. c.args.from.0 *ℤ c.first-first.ensures.den i +ℤ step *ℤ c.first-first.ensures.num i) in
    let last = ap (λ z. z +ℤ step) first
    ∙ next_part c.args.from.0 c.args.to.0 (pos (2 ^ c.args.piece.depth)) (pos c.args.piece.index) in
    let den : c.parts-3.result ≡ pos (c.args.grid * 2 ^ c.args.piece.depth) =
    h.den ∙ ap (λ z. pos c.args.grid *ℤ z) c.first-first.ensures.den in
    let f = c.going.result in
    let s = c.args.from.0 in
    let t = c.args.to.0 in
    let i = c.args.piece.index in
    let depth = c.args.piece.depth in
    let e : HasEnds c.going.result c.args.from.0 c.args.to.0 c.args.grid i depth = record {
      first = c.going.ensures.from ∙ h.start ∙ first;
      last = c.going.ensures.to ∙ h.stop ∙ last;
      den = c.going.ensures.den ∙ h.whole ∙ den;
    } in
    record {
      first_end = e.first;
      last_end = e.last;
      den = e.den;
      change = goes f s t c.args.grid i depth e;
      follows = follows f s t c.args.grid i depth e;
      leaves = leaves f s t c.args.grid i depth e;
      reaches = reaches f s t c.args.grid i depth e;
    }
