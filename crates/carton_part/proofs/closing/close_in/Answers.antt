use Rattle.std.proofs.Common.{arith, ◌<◌, length}
use Rattle.carton_part.proofs.Closed.{row_between, table_with}
use Rattle.carton_part.proofs.closing.close_in.Goals as goal

pub loop-a-preserved : goal.loop-a-preserved
loop-a-preserved g c =
    let table = c.loop-a.invariant.1 in
    let few : c.loop-a.a < 24 =
    omega (arith, c.loop-a-test.true, c.panels-a-end.ensures.count, c.panels-a-end.ensures.carton.few) in
    let lt : c.loop-a.a < length c.loop-a.rows = omega (arith, table.count, few) in (
      c.closed_row.ensures.known,
      table_with c.loop-a.a c.loop-a.rows c.closed_row.result table lt c.closed_row.ensures.count,
      row_between _ _ _ c.loop-a.a _ c.loop-a.rows c.closed_row.result c.loop-a.invariant.2 lt few
          c.closed_row.ensures.row,
    )
