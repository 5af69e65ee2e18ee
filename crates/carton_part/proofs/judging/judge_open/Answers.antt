use Rattle.carton_part.proofs.Closed.{between_ends, own_range, rows_table}
use Rattle.carton_part.proofs.judging.judge_open.Goals as goal

pub close_all-requires-clause-range : goal.close_all-requires-clause-range
close_all-requires-clause-range g c = own_range c.args.motion.now c.requires.motion

pub close_all-requires-clause-table : goal.close_all-requires-clause-table
close_all-requires-clause-table g c = rows_table _ _ _ c.requires.pairs

pub walk_rows-requires-clause-rows : goal.walk_rows-requires-clause-rows
walk_rows-requires-clause-rows g c =
    c.close_all.ensures.rows c.args.motion.now (between_ends c.args.motion.now) c.requires.pairs
