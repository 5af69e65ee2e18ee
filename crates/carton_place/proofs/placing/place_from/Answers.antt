use Rattle.std.proofs.Common.{◌≡◌, ◌<◌, length, pos, ◌*ℤ◌, unsigned_abs, subst, arith}
use Rattle.std.proofs.lemmas.Int.{ints}
use Rattle.carton_place.proofs.Numbers.{room_at_start, size_at_end, spread_at_end}
use Rattle.carton_place.proofs.placing.place_from.Goals as goal

pub turn_through-requires-clause-room : goal.turn_through-requires-clause-room
turn_through-requires-clause-room g c =
    room_at_start (length c.args.turns.now) _ c.requires.count
    (omega (
      arith,
      c.between.ensures.size,
      c.between-2.ensures.size,
      c.whole.ensures.size,
      c.requires.x,
      c.requires.y,
    ))

pub returns-clause-holds : goal.returns-clause-holds
returns-clause-holds g c = λ m d angles q o h f.
    let v = unsigned_abs q.w in
    let pv : 0 < v = omega (arith, ints, f.positive) in
    let z : pos 0 *ℤ pos v ≡ q.z = omega (arith, ints, f.level) in
    let flat = subst (λ y. g.E.Enclose.holds c.whole.result m d y v) z (c.whole.ensures.holds m d v o pv) in
    c.turn_through.ensures.holds m d angles q o h record {
      positive = f.positive;
      point = (
        c.between.ensures.holds m d q.x v o pv f.along_x,
        c.between-2.ensures.holds m d q.y v o pv f.along_y,
        flat,
      );
    }

pub returns-clause-size : goal.returns-clause-size
returns-clause-size g c =
    size_at_end (length c.args.turns.now) _ _ c.requires.count
    (omega (
      arith,
      c.between.ensures.size,
      c.between-2.ensures.size,
      c.whole.ensures.size,
      c.requires.x,
      c.requires.y,
    )) c.turn_through.ensures.size

pub returns-clause-spread : goal.returns-clause-spread
returns-clause-spread g c = λ e two x y all. spread_at_end (length c.args.turns.now) _ _ e c.requires.count
    two (omega (arith, c.between.ensures.spread, c.between-2.ensures.spread, c.whole.ensures.spread, x, y))
    (c.turn_through.ensures.spread e all)
