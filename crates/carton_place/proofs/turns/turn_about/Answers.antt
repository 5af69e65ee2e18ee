use Rattle.std.proofs.Common.{◌≡◌, ◌+◌, ◌*◌, ◌<◌, ◌≤◌, ◌^◌, max, pos, ◌*ℤ◌, unsigned_abs, SFits, to_z-of_z}
use Rattle.std.proofs.Common.{arith}
use Rattle.std.proofs.lemmas.Int.{ints}
use Rattle.std.specs.Int.{w32}
use Rattle.carton_base.proofs.Products.{mul_assoc_ℤ}
use Rattle.carton_place.proofs.Numbers.{turned_size, turned_spread}
use Rattle.carton_place.proofs.About.{turned_held}
use Rattle.carton_place.proofs.turns.turn_about.Goals as goal

pub add-requires-clause-right : goal.add-requires-clause-right
add-requires-clause-right g c =
    let m : max (g.E.Enclose.size c.args.ratio.cos) (g.E.Enclose.size c.args.ratio.sin) ≤ 2 ^ 40 =
    omega (arith, c.requires.ratio.cos, c.requires.ratio.sin) in
    omega (
      arith,
      turned_size (g.E.Enclose.size c.turn_pair-across.result.0)
          (max (g.E.Enclose.size c.args.ratio.cos) (g.E.Enclose.size c.args.ratio.sin))
          (g.E.Enclose.size c.sub.result + g.E.Enclose.size c.args.p.z) m c.turn_pair-across.ensures.first_size,
      c.sub.ensures.size,
      c.line_at-line.ensures.size,
      c.requires.near,
      c.requires.room,
    )

pub returns-clause-holds : goal.returns-clause-holds
returns-clause-holds g c = λ n d a q m ha hq.
    let v = unsigned_abs q.w in
    let w : q.w ≡ pos v = omega (arith, ints, hq.positive) in
    let pv : 0 < v = omega (arith, ints, hq.positive) in
    let po : 0 < a.over = ha.positive in
    let pov : 0 < a.over * v = grind arith in
    let at : SFits w32 c.args.at = c.ranges.at in
    let line = simp to_z-of_z at c.line_at-line.ensures.holds in
    let off = c.sub.ensures.holds n d q.x (c.args.at *ℤ pos v) v m pv hq.point.0 (line n d v m pv) in
    let across = c.turn_pair-across.ensures.first_holds n d _ q.z a.cos a.sin a.over v m po pv ha.cos ha.sin
    off hq.point.2 in
    let up = c.turn_pair-across.ensures.second_holds n d _ q.z a.cos a.sin a.over v m po pv ha.cos ha.sin off
    hq.point.2 in
    let x = c.add.ensures.holds n d _ _ (a.over * v) m pov (line n d (a.over * v) m pov) across in
    let y = g.met.E.Enclose.same c.args.p.y n d q.y (q.y *ℤ pos a.over) v (a.over * v) m pv pov
    (omega (arith, ints, mul_assoc_ℤ q.y (pos a.over) (pos v))) hq.point.1 in
    turned_held g.E.Enclose.holds _ n d c.args.at a q v w pv po x y up

pub returns-clause-size : goal.returns-clause-size
returns-clause-size g c =
    let m : max (g.E.Enclose.size c.args.ratio.cos) (g.E.Enclose.size c.args.ratio.sin) ≤ 2 ^ 40 =
    omega (arith, c.requires.ratio.cos, c.requires.ratio.sin) in
    omega (
      arith,
      turned_size (g.E.Enclose.size c.turn_pair-across.result.0)
          (max (g.E.Enclose.size c.args.ratio.cos) (g.E.Enclose.size c.args.ratio.sin))
          (g.E.Enclose.size c.sub.result + g.E.Enclose.size c.args.p.z) m c.turn_pair-across.ensures.first_size,
      turned_size (g.E.Enclose.size c.turn_pair-across.result.1)
          (max (g.E.Enclose.size c.args.ratio.cos) (g.E.Enclose.size c.args.ratio.sin))
          (g.E.Enclose.size c.sub.result + g.E.Enclose.size c.args.p.z) m
          c.turn_pair-across.ensures.second_size,
      c.sub.ensures.size,
      c.line_at-line.ensures.size,
      c.add.ensures.size,
      c.requires.near,
    )

pub returns-clause-spread : goal.returns-clause-spread
returns-clause-spread g c = λ e h.
    let m : max (g.E.Enclose.size c.args.ratio.cos) (g.E.Enclose.size c.args.ratio.sin) ≤ 2 ^ 40 =
    omega (arith, c.requires.ratio.cos, c.requires.ratio.sin) in
    let k : max (g.E.Enclose.spread c.args.ratio.cos) (g.E.Enclose.spread c.args.ratio.sin) ≤ e =
    omega (arith, h.cos, h.sin) in
    let f : g.E.Enclose.spread c.sub.result + g.E.Enclose.spread c.args.p.z
    ≤ 2 * max (g.E.Enclose.spread c.args.p.x) (max (g.E.Enclose.spread c.args.p.y)
    (g.E.Enclose.spread c.args.p.z)) =
    omega (arith, c.sub.ensures.spread, c.line_at-line.ensures.spread) in
    let r : g.E.Enclose.size c.sub.result + g.E.Enclose.size c.args.p.z
    ≤ 2 * max (g.E.Enclose.size c.args.p.x) (max (g.E.Enclose.size c.args.p.y)
    (g.E.Enclose.size c.args.p.z)) + 8191 * 2 ^ 40 =
    omega (arith, c.sub.ensures.size, c.line_at-line.ensures.size, c.requires.near) in
    let a = turned_spread _ _ _ _ _ _ e _ m k f r c.turn_pair-across.ensures.first_spread in
    let b = turned_spread _ _ _ _ _ _ e _ m k f r c.turn_pair-across.ensures.second_spread in
    omega (arith, a, b, c.add.ensures.spread, c.line_at-line.ensures.spread)
