-- Where a search stands between two turns, and while the steps of one state are tried.
use Rattle.std.specs.Prelude.{◌≡◌, ℕ, ◌+◌, ◌*◌, ◌<◌, ◌≤◌, true, List, Some, slice_get, length}
use Rattle.carton_base.specs.declared.motion.State.{State}
use Rattle.carton_tree.specs.Trees.{Tree}
use Rattle.carton_text.specs.declared.task.Task.{Task}
use Rattle.carton_text.specs.TaskRules.{IsTask}
use Rattle.carton_queue.specs.Waits.{nodes_of, priority_of}
use Rattle.carton_steps.specs.Steps.{step_of}
use Rattle.carton_steps.specs.Estimates.{estimate_of}
use Rattle.carton_search.specs.declared.known.Entry.{Entry}
use Rattle.carton_search.specs.declared.turns.Turn.{Turn}
use Rattle.carton_search.specs.declared.exploring.Outcome.{Outcome}
use Rattle.carton_search.specs.declared.exploring.Outcome.TheVariants.{Arrived, NoWay, Stopped}
use Rattle.carton_search.specs.Clear.{ClearStep, SlackStep, StayApart, slack_of}
use Rattle.carton_search.specs.Paths.{IsPath, moves_of}
use Rattle.carton_search.specs.Ends.{IsTurnsCause}
use Rattle.carton_search.specs.Known.{IsTree, Reached, Stands, AllClosed, ClosedBut, Queued, picked}
use Rattle.carton_search.specs.Knowledge.{Knowledge}

-- the task is one for the carton, and its slack is that of the judge
pub record Suits (task : Task) (carton : Tree) (most : ℕ) : Type 0 where
  pub rules : IsTask task
  pub creases : task.creases ≡ carton.creases
  pub slack : task.slack ≡ most

-- the steps of a state: two of each team
abbrev pub steps_of : Task → ℕ
steps_of task = 2 * length task.teams

-- the states that a search may find: the start, and as many in each turn as there are steps
abbrev pub room_of : Task → ℕ
room_of task = 1 + steps_of task * task.turns

-- the queue has room for all of them
pub record HasRoom (task : Task) (k : Knowledge) : Type 0 where
  pub nodes : nodes_of k.waiting ≡ room_of task
  pub buckets : k.waiting.buckets ≡ 4096

-- the queue has what waits
abbrev pub IsQueued : Task → Tree → Knowledge → Type 0
IsQueued task carton k = Queued (ClearStep task carton) (estimate_of task) task.start k.entries
    (priority_of k.waiting) k.dropped

-- the first so many steps of an entry have been tried, in the turn of that count
pub record Trying (task : Task) (carton : Tree) (k : Knowledge) (number : ℕ) (entry : Entry)
    (count tries : ℕ) : Type 0 where
  pub room : HasRoom task k
  pub there : slice_get k.entries number ≡ Some entry
  pub tried : entry.tried ≡ true
  pub few : entry.moves + estimate_of task entry.state ≤ 4095
  pub other : entry.state ≡ task.target → ⊥
  pub stands : Stands (ClearStep task carton) (estimate_of task) task.start k.entries
      (entry.moves + estimate_of task entry.state)
  pub queued : IsQueued task carton k
  pub closed : ClosedBut (SlackStep task carton) task.target k.entries number
  pub steps : (i : ℕ) (b : State) → i < tries → step_of task entry.state i ≡ Some b
      → StayApart carton (slack_of task) entry.state b → Reached k.entries b (entry.moves + 1)
  pub picks : length (picked k.entries) ≡ count
  pub long : length k.entries + steps_of task ≤ 1 + steps_of task * count + tries
  pub turns : count ≤ task.turns
  pub near : (i : ℕ) (e : Entry) → slice_get k.entries i ≡ Some e → e.moves ≤ count
  pub before : entry.moves + 1 ≤ count

-- the same of a turn
abbrev pub AreTried : Task → Tree → Knowledge → Turn → ℕ → Type 0
AreTried task carton k turn tries = Trying task carton k turn.number turn.entry turn.count tries

-- so many turns are over, and the last taken state had this priority
pub record Going (task : Task) (carton : Tree) (k : Knowledge) (turns last : ℕ) : Type 0 where
  pub room : HasRoom task k
  pub stands : Stands (ClearStep task carton) (estimate_of task) task.start k.entries last
  pub queued : IsQueued task carton k
  pub closed : AllClosed (SlackStep task carton) task.target k.entries
  pub picks : length (picked k.entries) ≡ turns
  pub long : length k.entries ≤ 1 + steps_of task * turns
  pub few : turns ≤ task.turns
  pub near : (i : ℕ) (e : Entry) → slice_get k.entries i ≡ Some e → e.moves ≤ turns

-- no path that is clear by the slack has fewer moves
abbrev pub AreLeast : Task → Tree → ℕ → Type 0
AreLeast task carton moves = (p : List State) → IsPath (SlackStep task carton) task.start task.target p
    → moves ≤ moves_of p

-- the target was found, by a path of clear steps, with fewest moves
pub record IsArrival (task : Task) (carton : Tree) (k : Knowledge) (number : ℕ) : Type 0 where
  pub tree : IsTree (ClearStep task carton) task.start k.entries
  pub entry : Entry
  pub there : slice_get k.entries number ≡ Some entry
  pub target : entry.state ≡ task.target
  pub few : entry.moves ≤ 4095
  pub near : entry.moves ≤ task.turns
  pub least : AreLeast task carton entry.moves

-- what an outcome says
abbrev pub IsOutcome : Task → Tree → Knowledge → Outcome → Type 0
IsOutcome task carton k (Arrived number) = IsArrival task carton k number
IsOutcome task carton k NoWay = (p : List State) → IsPath (SlackStep task carton) task.start task.target p → ⊥
IsOutcome task carton k (Stopped moves) = AreLeast task carton moves × IsTurnsCause task carton moves
