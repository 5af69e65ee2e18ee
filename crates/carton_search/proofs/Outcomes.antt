-- The outcomes of a search, from where it stands, and its beginning.
use Rattle.std.proofs.Common.{◌≡◌, ℕ, zero, suc, ◌+◌, ◌*◌, ◌<◌, ◌≤◌, true, false, [], ◌∷◌, Some, None}
use Rattle.std.proofs.Common.{slice_get, length, inl, inr, refl, ap, sym, ◌∙◌, subst, arith, if◌then◌else◌}
use Rattle.std.proofs.Math.ListN.{set}
use Rattle.carton_base.specs.declared.motion.State.{State}
use Rattle.carton_tree.specs.Trees.{Tree}
use Rattle.carton_text.specs.declared.task.Task.{Task}
use Rattle.carton_text.specs.TaskRules.{IsTask}
use Rattle.carton_queue.specs.Waits.{Waiting, nodes_of, priority_of, with_entry, IsLeast, IsEmpty}
use Rattle.carton_queue.proofs.CallerLemmas.{here, elsewhere, nodes-with_entry}
use Rattle.carton_steps.specs.Estimates.{estimate_of}
use Rattle.carton_steps.proofs.Falling as falling
use Rattle.carton_search.specs.declared.known.Entry.{Entry}
use Rattle.carton_search.specs.declared.exploring.Outcome.TheVariants.{Arrived, NoWay, Stopped}
use Rattle.carton_search.specs.Clear.{ClearStep, SlackStep}
use Rattle.carton_search.specs.Known.{IsTree, Stands, Queued, picked}
use Rattle.carton_search.specs.Knowledge.{Knowledge, IsBlank, with_priority}
use Rattle.carton_search.specs.Paths.{moves_of}
use Rattle.carton_search.specs.Turns.{steps_of, room_of, Going, AreLeast, IsOutcome}
use Rattle.carton_search.proofs.Frontier as front
use Rattle.carton_search.proofs.Priorities.{below}
use Rattle.carton_search.proofs.Keeping.{step_falls}
use Rattle.carton_search.proofs.Best.{changed_get}
use Rattle.carton_search.proofs.Places.{set_changed}
use Rattle.carton_search.proofs.Turning.{the_entry, there_is, e_priority, taken_stands, taken_picks}
use Rattle.carton_search.proofs.Chains.{out_of_turns}

module _ (task : Task) (carton : Tree) (rules : IsTask task) where
  slack_falls : (a b : State) → SlackStep task carton a b → estimate_of task a ≤ estimate_of task b + 1
  slack_falls a b s = step_falls task rules a b s.0

  module _ (k : Knowledge) (turns last : ℕ) (o : Going task carton k turns last) where
    -- nothing waits
    pub no_way : k.dropped ≡ false → IsEmpty k.waiting → IsOutcome task carton k NoWay
    no_way d empty = front.none (SlackStep task carton) (estimate_of task) task.target slack_falls
        (falling.none_left task rules) k.entries o.closed (ClearStep task carton) task.start o.stands.tree
        (priority_of k.waiting)
        (subst (Queued (ClearStep task carton) (estimate_of task) task.start k.entries
        (priority_of k.waiting)) d o.queued) empty

    pub too_far : k.dropped ≡ true → IsEmpty k.waiting → IsOutcome task carton k (Stopped 4096)
    too_far d empty = (
      front.far (SlackStep task carton) (estimate_of task) task.target slack_falls
          (falling.none_left task rules) k.entries o.closed (ClearStep task carton) task.start o.stands.tree
          (priority_of k.waiting) k.dropped o.queued empty,
      inr (refl, o.queued.far d),
    )

    -- a state is taken
    module _ (number p : ℕ) (least : IsLeast k.waiting number p) (e : Entry)
        (there : slice_get k.entries number ≡ Some e) where
      few_moves : AreLeast task carton p
      few_moves = front.least (SlackStep task carton) (estimate_of task) task.target slack_falls
          (falling.none_left task rules) k.entries o.closed (ClearStep task carton) task.start o.stands.tree
          (priority_of k.waiting) k.dropped p o.queued
          (the_entry task carton rules k turns last o number p least).4 least.1

      priority_is : p ≡ e.moves + estimate_of task e.state
      priority_is = e_priority task carton rules k turns last o number p least e (record e { tried = true })
          there refl refl refl refl

      -- no tried state is the target, nor is this one
      others : (e.state ≡ task.target → ⊥) → (j : ℕ) (f : Entry)
          → slice_get (set k.entries number (record e { tried = true })) j ≡ Some f → f.tried ≡ true
          → f.state ≡ task.target → ⊥
      others other j f g t same =
          let y : Entry = record e { tried = true } in
          let found = there_is task carton rules k turns last o number p least in
          elim (changed_get k.entries (set k.entries number y) number y
          (set_changed k.entries number y found) j f g) [
            | inl a ↦ other (sym (ap (λ z. z.state) a.1) ∙ same)
            | inr b ↦ (o.closed j f b.1 t).other same
          ]

      pub stopped : task.turns ≤ turns → (e.state ≡ task.target → ⊥) → (after : Knowledge)
          → IsOutcome task carton after (Stopped p)
      stopped past other after =
          let y : Entry = record e { tried = true } in
          let t : length (picked (set k.entries number y)) ≡ turns + 1 =
          taken_picks task carton rules k turns last o number p least e y there refl refl refl refl in (
            few_moves,
            inl (out_of_turns (ClearStep task carton) (estimate_of task) task.start task.target
                (set k.entries number y) p task.turns
                (taken_stands task carton rules k turns last o number p least e y there refl refl refl refl)
                (others other) (omega (arith, t, past))),
          )

      pub arrived : e.state ≡ task.target → (after : Knowledge) → after.entries ≡ k.entries
          → IsOutcome task carton after (Arrived number)
      arrived target after same =
          let pe : p ≡ e.moves + estimate_of task e.state = priority_is in
          let few : p ≤ 4095 = (the_entry task carton rules k turns last o number p least).4 in
          record {
            tree = subst (λ es. IsTree (ClearStep task carton) task.start es) (sym same) o.stands.tree;
            entry = e;
            there = ap (λ es. slice_get es number) same ∙ there;
            target = target;
            few = omega (arith, pe, few);
            near =
                let b : e.moves ≤ turns = o.near number e there in
                let t : turns ≤ task.turns = o.few in
                omega (arith, b, t);
            least = λ w path. let m : p ≤ moves_of w = few_moves w path in omega (arith, m, pe);
          }

  get_only : (e f : Entry) (i : ℕ) → slice_get (e ∷ []) i ≡ Some f → (i ≡ 0) × (f ≡ e)
  get_only e f zero h = (refl, cc)
  get_only e f (suc i) h = cc

  -- the start alone
  module _ (k : Knowledge) (blank : IsBlank k (room_of task)) (e : Entry) (begins : e.state ≡ task.start)
      (none : e.moves ≡ 0) (waits : e.tried ≡ false) where
    abbrev before : Knowledge
    before = record { entries = e ∷ []; waiting = k.waiting; dropped = k.dropped }

    room_for_start : 0 < nodes_of k.waiting
    room_for_start = let n : nodes_of k.waiting ≡ 1 + steps_of task * task.turns = blank.nodes in
        omega (arith, n)

    module _ (p : ℕ) (is : p ≡ estimate_of task task.start) (low : p ≤ 768) where
      at_start : p ≡ e.moves + estimate_of task e.state
      at_start = let a : estimate_of task e.state ≡ estimate_of task task.start =
          ap (estimate_of task) begins in omega (arith, a, none, is)

      alone : Stands (ClearStep task carton) (estimate_of task) task.start (e ∷ []) 0
      alone = record {
        tree = record {
          root = e;
          first = refl;
          begins = begins;
          no_moves = none;
          parents = λ i x more g. let z : i ≡ 0 = (get_only e x i g).0 in absurd (omega (arith, more, z));
          apart = λ i j a b g m same. (get_only e a i g).0 ∙ sym (get_only e b j m).0;
        };
        early =
            λ i x g tried.
            absurd (let v : true ≡ false = sym tried ∙ ap (λ z. z.tried) (get_only e x i g).1 ∙ waits in cc);
        late = λ i x g w. omega arith;
      }

      abbrev after : Waiting
      after = with_entry k.waiting 0 (Some p)

      stood : (i m : ℕ) → priority_of after i ≡ Some m → (x : Entry) × (slice_get (e ∷ []) i ≡ Some x)
          × (x.tried ≡ false) × (m ≡ x.moves + estimate_of task x.state) × (m ≤ 4095)
      stood zero m g =
          let same : p ≡ m =
          (let v : Some p ≡ Some m = sym (here k.waiting 0 (Some p) room_for_start) ∙ g in cc) in
          (e, refl, waits, sym same ∙ at_start, omega (arith, same, low))
      stood (suc i) m g = let v : None ≡ Some m = sym (blank.empty (suc i))
          ∙ sym (elsewhere k.waiting 0 (Some p) (suc i) (λ z. omega (arith, z))) ∙ g in absurd cc

      waiting_start : Queued (ClearStep task carton) (estimate_of task) task.start (e ∷ [])
          (priority_of after) false
      waiting_start = record {
        waits = λ i x g w. let only = get_only e x i g in
            inl (ap (priority_of after) only.0 ∙ here k.waiting 0 (Some p) room_for_start
            ∙ ap Some (at_start ∙ ap (λ z. z.moves + estimate_of task z.state) (sym only.1)));
        stands = stood;
        far = λ d. absurd (let v : false ≡ true = d in cc);
      }

      started_low : Going task carton (record { entries = e ∷ []; waiting = after; dropped = k.dropped }) 0 0
      started_low = record {
        room = record {
          nodes = nodes-with_entry k.waiting 0 (Some p) ∙ blank.nodes;
          buckets = blank.buckets;
        };
        stands = alone;
        queued =
            subst (Queued (ClearStep task carton) (estimate_of task) task.start (e ∷ []) (priority_of after))
            (sym blank.dropped) waiting_start;
        closed =
            λ i x g tried.
            absurd (let v : true ≡ false = sym tried ∙ ap (λ z. z.tried) (get_only e x i g).1 ∙ waits in cc);
        picks = ap (λ b. length (picked (record e { tried = b } ∷ []))) waits;
        long = omega arith;
        few = omega arith;
        near = λ i x g.
            let m : x.moves ≡ e.moves = ap (λ z. z.moves) (get_only e x i g).1 in
            omega (arith, m, none);
      }

    pub started : (number p : ℕ) → number ≡ 0 → p ≡ estimate_of task task.start
        → Going task carton (with_priority before number p) 0 0
    started number p is_number is =
        let low : estimate_of task task.start ≤ 768 = falling.low task task.start rules rules.start in
        let few : p ≤ 768 = omega (arith, low, is) in
        subst (λ n. Going task carton (with_priority before n p) 0 0) (sym is_number)
        (subst (λ b. Going task carton (if b then record before { waiting = with_entry k.waiting 0 (Some p) }
        else record before { dropped = true }) 0 0) (sym (below p 4096 (omega (arith, few))))
        (started_low p is few))
