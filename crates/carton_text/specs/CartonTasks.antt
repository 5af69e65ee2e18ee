-- The task of a job on a carton.
use Rattle.std.specs.Prelude.{List, [], ◌∷◌, filter_map, is_none, if◌then◌else◌, Option, Some, None, Result}
use Rattle.carton_base.specs.declared.dieline.RawDieline.{RawDieline}
use Rattle.carton_base.specs.declared.ids.EdgeId.{EdgeId}
use Rattle.carton_tree.specs.declared.joint.Joint.{Joint}
use Rattle.carton_tree.specs.Trees.{Tree}
use Rattle.carton_text.specs.declared.job.Job.{Job}
use Rattle.carton_text.specs.declared.job_error.JobError.{JobError}
use Rattle.carton_text.specs.Tasks.{Outline, task_of}

-- the edge of a joint that has no place in the states
abbrev pub locked_edge : Option Joint → Option EdgeId
locked_edge None = None
locked_edge (Some j) = if is_none j.turn.place then Some j.edge else None

-- the edge alone, or nothing where there is none
abbrev pub given : Option EdgeId → List EdgeId
given None = []
given (Some e) = e ∷ []

-- the locked joints
abbrev pub locked_joints : Tree → List EdgeId
locked_joints t = filter_map locked_edge t.joints

-- the task of a job on a carton and its dieline
abbrev pub task_for : Tree → RawDieline → Job → Result Outline JobError
task_for t raw job = task_of t.creases (locked_joints t) raw.angles job
