use Rattle.std.proofs.Common.{pos, arith, ◌+◌, ◌*◌, ◌<◌, length, get_or, SFits, rules}
use Rattle.std.specs.Int.{w32}
use Rattle.std.proofs.lemmas.Int.{to_z-of_z}
use Rattle.carton_catalogue.proofs.Rows.{more_points, all_points}
use Rattle.carton_catalogue.proofs.guides.points.Goals as goal

pub loop-k-preserved : goal.loop-k-preserved
loop-k-preserved c =
    let going = c.loop-k-test.true in
    let two : 2 * c.loop-k.k + 1 < length c.args.numbers.now = omega (arith, going) in
    let x : SFits w32 (get_or c.args.numbers.now (2 * c.loop-k.k) (pos 0)) = search rules in
    let y : SFits w32 (get_or c.args.numbers.now (2 * c.loop-k.k + 1) (pos 0)) = search rules in
    let items = simp to_z-of_z at c.in_ok-push.ensures.items in
    rw items (more_points c.loop-k.found.items c.args.numbers.now c.args.numbers.now c.loop-k.k (pos 0)
    (pos 0) two c.loop-k.invariant)

pub returns : goal.returns
returns c = let done = c.loop-k-test.false in
    all_points c.loop-k.found.items c.args.numbers.now c.args.numbers.now c.loop-k.k (omega (arith, done))
    c.loop-k.invariant
