use Rattle.carton_part.proofs.judging.open_pairs.Goals as goal

pub returns-clause-pairs : goal.returns-clause-pairs
returns-clause-pairs g c =
    λ motion m. c.close_all.ensures.rows motion m (c.all_strangers-rows.ensures.rows motion)
