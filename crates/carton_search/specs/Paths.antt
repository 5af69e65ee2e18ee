-- Paths of states, and when a path is within the budget of turns.
use Rattle.std.specs.Prelude.{◌≡◌, ℕ, ◌+◌, ◌<◌, ◌≤◌, List, [], ◌∷◌, Some, slice_get, length}
use Rattle.carton_base.specs.declared.motion.State.{State}
use Rattle.carton_tree.specs.Trees.{Tree}
use Rattle.carton_text.specs.declared.task.Task.{Task}
use Rattle.carton_steps.specs.Steps.{IsGridStep}
use Rattle.carton_search.specs.Clear.{SlackStep, AreApart, slack_of}

-- each state and the next are related
abbrev pub Follows : (State → State → Type 0) → State → List State → Type 0
Follows R a [] = Unit {0}
Follows R a (b ∷ rest) = R a b × Follows R b rest

abbrev pub last_of : State → List State → State
last_of a [] = a
last_of a (b ∷ rest) = last_of b rest

-- states that begin with a, go on by related ones, and end with b
abbrev pub IsPath : (State → State → Type 0) → State → State → List State → Type 0
IsPath R a b [] = ⊥
IsPath R a b (s ∷ rest) = (s ≡ a) × Follows R a rest × (last_of a rest ≡ b)

-- the moves of a path
abbrev pub moves_of : List State → ℕ
moves_of [] = 0
moves_of (s ∷ rest) = length rest

-- no state stands at two places
abbrev pub AreDifferent : List State → Type 0
AreDifferent xs = (i j : ℕ) (s : State) → slice_get xs i ≡ Some s → slice_get xs j ≡ Some s → i ≡ j

-- a path of at most so many moves leads from a to b
abbrev pub ReachedBy : (State → State → Type 0) → State → ℕ → State → Type 0
ReachedBy R a most b = (p : List State) × IsPath R a b p × (moves_of p ≤ most)

-- each of the states is reached so
abbrev pub AllReachedBy : (State → State → Type 0) → State → ℕ → List State → Type 0
AllReachedBy R a most xs = (i : ℕ) (s : State) → slice_get xs i ≡ Some s → ReachedBy R a most s

-- a path from the start to the target on which all panels that share no crease stay parted by more than the
-- slack
abbrev pub IsSlackPath : Task → Tree → List State → Type 0
IsSlackPath task carton p = IsPath (SlackStep task carton) task.start task.target p
    × AreApart carton (slack_of task) task.start

-- so many moves are within the budget: at most as many states as there are turns are reached by them, clear
-- or not
abbrev pub IsWithinTurns : Task → ℕ → Type 0
IsWithinTurns task moves =
    (moves ≤ 4095) × ((xs : List State) → AreDifferent xs → AllReachedBy (IsGridStep task) task.start moves xs
    → length xs ≤ task.turns)

-- a state lies within so many moves: it isn't the target, and a path of clear steps leads to it whose moves,
-- with those that the estimate says are still to come, are at most so many
abbrev pub LiesWithin : (State → State → Type 0) → (State → ℕ) → State → State → ℕ → State → Type 0
LiesWithin C h start target most s = (s ≡ target → ⊥)
    × ((p : List State) × IsPath C start s p × (moves_of p + h s ≤ most))

-- more different states than there are turns lie within so many moves
abbrev pub AreManyWithin : (State → State → Type 0) → (State → ℕ) → State → State → ℕ → ℕ → Type 0
AreManyWithin C h start target turns most = (xs : List State) × (turns < length xs) × AreDifferent xs
    × ((i : ℕ) (s : State) → slice_get xs i ≡ Some s → LiesWithin C h start target most s)

-- a path of more than 3000 different states begins at the start
abbrev pub HasFarPath : (State → State → Type 0) → State → Type 0
HasFarPath C start = (p : List State) × (s : State) × (3000 < length p) × AreDifferent p × IsPath C start s p
