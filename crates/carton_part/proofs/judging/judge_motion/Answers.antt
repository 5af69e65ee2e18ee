use Rattle.carton_part.proofs.judging.judge_motion.Goals as goal

pub judge_open-requires-clause-pairs : goal.judge_open-requires-clause-pairs
judge_open-requires-clause-pairs g c = c.all_strangers-rows.ensures.rows c.args.motion.now
