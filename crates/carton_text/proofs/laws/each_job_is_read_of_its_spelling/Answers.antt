use Rattle.carton_text.proofs.JobsReadBack.{read_back}
use Rattle.carton_text.proofs.laws.each_job_is_read_of_its_spelling.Goals as goal

pub returns : goal.returns
returns c = read_back
