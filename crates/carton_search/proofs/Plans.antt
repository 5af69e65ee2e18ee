-- The plan of a search that came to the target.
use Rattle.std.proofs.Common.{◌≡◌, ℕ, ◌+◌, ◌≤◌, List, [], ◌∷◌, Some, slice_get, length, All, ap, sym, ◌∙◌}
use Rattle.std.proofs.Common.{subst, arith, pos}
use Rattle.std.proofs.lemmas.List.Elements.{All-nil, All-cons}
use Rattle.carton_base.specs.declared.ids.EdgeId.{EdgeId}
use Rattle.carton_base.specs.declared.ids.PanelId.{PanelId}
use Rattle.carton_base.specs.declared.motion.State.{State}
use Rattle.carton_tree.specs.Trees.{Tree}
use Rattle.carton_text.specs.PlanRules.{AreCreases, AreStates, IsPlan, grid_of}
use Rattle.carton_text.specs.TaskRules.{IsTask}
use Rattle.carton_text.specs.declared.plan.Plan.{Plan}
use Rattle.carton_text.specs.declared.task.Task.{Task}
use Rattle.carton_steps.specs.Steps.{IsStateOf}
use Rattle.carton_steps.proofs.Moves.{is_start}
use Rattle.carton_search.specs.declared.known.Entry.{Entry}
use Rattle.carton_search.specs.declared.search_end.SearchEnd.TheVariants.{Found, StartBlocked, NoPath}
use Rattle.carton_search.specs.declared.search_end.SearchEnd.TheVariants.{OutOfTurns}
use Rattle.carton_search.specs.declared.exploring.Outcome.TheVariants.{NoWay, Stopped}
use Rattle.carton_search.specs.Clear.{ClearStep, SlackStep, AreApart}
use Rattle.carton_search.specs.Ends.{IsShortest, AreBlockedAt, IsEnd}
use Rattle.carton_search.specs.Known.{IsTree, IsParent}
use Rattle.carton_search.specs.Knowledge.{Knowledge}
use Rattle.carton_search.specs.Paths.{Follows, IsPath, moves_of}
use Rattle.carton_search.specs.Turns.{IsArrival, IsOutcome}
use Rattle.carton_search.proofs.Born.{parents_tree, parent_clear}
use Rattle.carton_search.proofs.Keeping.{step_keeps}
use Rattle.carton_search.proofs.Lists.{same_get}
use Rattle.carton_search.proofs.Wider.{path_wider, path_long}

-- the states are the path by parents to the entry of that number
abbrev pub Born : Knowledge → ℕ → List State → Type 0
Born k number states = (s : State) (e : Entry) → IsTree (IsParent k.entries) s k.entries
    → slice_get k.entries number ≡ Some e → IsPath (IsParent k.entries) s e.state states
    × (length states ≡ e.moves + 1)

module _ (task : Task) (carton : Tree) (rules : IsTask task) where
  follows_all : (a : State) (rest : List State) → IsStateOf task a → Follows (ClearStep task carton) a rest
      → All (IsStateOf task) (a ∷ rest)
  follows_all a [] at walk = All-cons (IsStateOf task) a [] at (All-nil (IsStateOf task))
  follows_all a (b ∷ rest) at walk =
      All-cons (IsStateOf task) a (b ∷ rest) at
      (follows_all b rest (step_keeps task rules a b at walk.0.0) walk.1)

  -- the states of a path are states of the task
  path_all : (b : State) (p : List State) → IsPath (ClearStep task carton) task.start b p
      → All (IsStateOf task) p
  path_all b [] h = absurd h
  path_all b (s ∷ rest) h =
      subst (λ a. All (IsStateOf task) (a ∷ rest)) (sym h.0)
      (follows_all task.start rest (is_start task rules) h.1)

  first_grid : (b : State) (p : List State) → IsPath (ClearStep task carton) task.start b p
      → grid_of p ≡ task.start.grid
  first_grid b [] h = absurd h
  first_grid b (s ∷ rest) h = ap (λ a. a.grid) h.0

  are_states : (b : State) (p : List State) → IsPath (ClearStep task carton) task.start b p → length p ≤ 4096
      → AreStates (length task.creases) p
  are_states b p path few =
      let all = path_all b p path in
      let long = path_long (ClearStep task carton) task.start b p path in
      record {
        some = omega (arith, long);
        few = few;
        each = λ k d l. (all k d l).state;
        one_grid = λ k d l. (all k d l).grid ∙ sym (first_grid b p path);
      }

  module _ (k : Knowledge) (number : ℕ) (a : IsArrival task carton k number) where
    pub arrival_tree : IsTree (IsParent k.entries) task.start k.entries
    arrival_tree = parents_tree (ClearStep task carton) task.start k.entries a.tree

    module _ (creases : List EdgeId) (same : creases ≡ task.creases) (states : List State)
        (born : Born k number states) where
      parents : IsPath (IsParent k.entries) task.start a.entry.state states
          × (length states ≡ a.entry.moves + 1)
      parents = born task.start a.entry arrival_tree a.there

      clear_path : IsPath (ClearStep task carton) task.start task.target states
      clear_path =
          path_wider (IsParent k.entries) (ClearStep task carton)
          (parent_clear (ClearStep task carton) task.start k.entries a.tree) task.start task.target states
          (subst (λ b. IsPath (IsParent k.entries) task.start b states) a.target parents.0)

      few : length states ≤ 4096
      few = let l : length states ≡ a.entry.moves + 1 = parents.1 in let f : a.entry.moves ≤ 4095 = a.few in
          omega (arith, l, f)

      shortest : IsShortest task carton states
      shortest p path =
          let l : length states ≡ a.entry.moves + 1 = parents.1 in
          let m : a.entry.moves ≤ moves_of p = a.least p path.0 in
          let n : moves_of p + 1 ≡ length p =
          path_long (SlackStep task carton) task.start task.target p path.0 in
          omega (arith, l, m, n)

      -- the start is found by no move
      still : task.start ≡ task.target → length states ≡ 1
      still stays =
          let l : length states ≡ a.entry.moves + 1 = parents.1 in
          let at : number ≡ 0 = a.tree.apart number 0 a.entry a.tree.root a.there a.tree.first (a.target
          ∙ sym stays ∙ sym a.tree.begins) in
          let e : a.entry ≡ a.tree.root =
          same_get k.entries number 0 a.entry a.tree.root at a.there a.tree.first in
          let m : a.entry.moves ≡ 0 = ap (λ z. z.moves) e ∙ a.tree.no_moves in
          omega (arith, l, m)

      abbrev plan : Plan
      plan = record { creases = creases; states = states }

      plan_keeps : AreCreases task.creases → IsPlan plan
      plan_keeps keep = record {
        creases = subst AreCreases (sym same) keep;
        states =
            subst (λ cs. AreStates (length cs) states) (sym same)
            (are_states task.target states clear_path few);
      }

      pub found_end : AreApart carton (pos 0) task.start → IsEnd task carton (Found plan)
      found_end clear = record {
        plan = (same, plan_keeps);
        path = (clear_path, few);
        clear = clear;
        least = shortest;
        still = still;
        turns =
            let l : length states ≡ a.entry.moves + 1 = parents.1 in
            let t : a.entry.moves ≤ task.turns = a.near in
            let n : moves_of states + 1 ≡ length states =
            path_long (ClearStep task carton) task.start task.target states clear_path in
            omega (arith, l, t, n);
        blocked = tt;
        none = tt;
        begun = tt;
        few = tt;
        cause = tt;
      }

  -- the other ends
  pub blocked_end : (a b : PanelId) → AreBlockedAt task carton task.start a.0 b.0
      → IsEnd task carton (StartBlocked a b)
  blocked_end a b near = record {
    plan = tt;
    path = tt;
    clear = tt;
    least = tt;
    still = tt;
    turns = tt;
    blocked = near;
    none = tt;
    begun = tt;
    few = tt;
    cause = tt;
  }

  pub none_end : (k : Knowledge) → IsOutcome task carton k NoWay → AreApart carton (pos 0) task.start
      → IsEnd task carton NoPath
  none_end k way clear = record {
    plan = tt;
    path = tt;
    clear = tt;
    least = tt;
    still = tt;
    turns = tt;
    blocked = tt;
    none = λ p path. way p path.0;
    begun = clear;
    few = tt;
    cause = tt;
  }

  pub turns_end : (k : Knowledge) (moves : ℕ) → IsOutcome task carton k (Stopped moves)
      → IsEnd task carton (OutOfTurns moves)
  turns_end k moves stop = record {
    plan = tt;
    path = tt;
    clear = tt;
    least = tt;
    still = tt;
    turns = tt;
    blocked = tt;
    none = tt;
    begun = tt;
    few = λ p path. stop.0 p path.0;
    cause = stop.1;
  }
