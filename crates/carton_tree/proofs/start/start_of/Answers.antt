use Rattle.std.proofs.Common.{rules, ◌≡◌, ℤ, SFits, subst, unsigned_abs}
use Rattle.std.specs.Int.{w128, w64}
use Rattle.std.proofs.lemmas.Int.{to_z-of_z}
use Rattle.carton_base.specs.declared.numbers.Bounds.{Bounds}
use Rattle.carton_base.specs.Fractions.{IsRounded}
use Rattle.carton_tree.proofs.start.start_of.Goals as goal

pub returns : goal.returns
returns c =
    let x0 : SFits w64 c.args.point.x = search rules in
    let y0 : SFits w64 c.args.point.y = search rules in
    let w0 : SFits w64 c.args.point.w = search rules in
    let fw : SFits w128 c.from-w.result = search rules in
    let fx : SFits w128 c.from.result = search rules in
    let fy : SFits w128 c.from-2.result = search rules in
    let w : c.from-w.result ≡ c.args.point.w = simp to_z-of_z at c.from-w.ensures in
    let x : c.from.result ≡ c.args.point.x = simp to_z-of_z at c.from.ensures in
    let y : c.from-2.result ≡ c.args.point.y = simp to_z-of_z at c.from-2.ensures in
    let along_x : IsRounded c.from.result (unsigned_abs c.from-w.result) c.fraction.result.lo
    c.fraction.result.hi = simp to_z-of_z at c.fraction.ensures in
    let along_y : IsRounded c.from-2.result (unsigned_abs c.from-w.result) c.fraction-2.result.lo
    c.fraction-2.result.hi = simp to_z-of_z at c.fraction-2.ensures in
    let place : (n : ℤ) (m : ℤ) (b : Bounds) → n ≡ m → IsRounded n (unsigned_abs c.from-w.result) b.lo b.hi
    → IsRounded m (unsigned_abs c.args.point.w) b.lo b.hi =
    λ n m b e h. subst (λ k. IsRounded m (unsigned_abs k) b.lo b.hi) w
    (subst (λ k. IsRounded k (unsigned_abs c.from-w.result) b.lo b.hi) e h) in
    record {
      x = place c.from.result c.args.point.x c.fraction.result x along_x;
      y = place c.from-2.result c.args.point.y c.fraction-2.result y along_y;
    }
