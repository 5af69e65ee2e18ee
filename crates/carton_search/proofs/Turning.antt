-- From one turn to the next: a state is taken and marked, and after its steps it is closed.
use Rattle.std.proofs.Common.{◌≡◌, ℕ, ◌+◌, ◌*◌, ◌<◌, ◌≤◌, true, false, Some, None, slice_get, length, inl}
use Rattle.std.proofs.Common.{inr, refl, ap, sym, ◌∙◌, subst, arith}
use Rattle.std.proofs.Math.ListN.{set, length-set}
use Rattle.carton_tree.specs.Trees.{Tree}
use Rattle.carton_text.specs.declared.task.Task.{Task}
use Rattle.carton_text.specs.TaskRules.{IsTask}
use Rattle.carton_queue.specs.Waits.{Waiting, priority_of, with_entry, IsLeast}
use Rattle.carton_queue.proofs.CallerLemmas.{here, elsewhere, within, nodes-with_entry}
use Rattle.carton_steps.specs.Estimates.{estimate_of}
use Rattle.carton_steps.proofs.Moves.{number_of_step}
use Rattle.carton_search.specs.declared.known.Entry.{Entry}
use Rattle.carton_search.specs.Clear.{ClearStep, SlackStep}
use Rattle.carton_search.specs.Known.{IsClosed, Stands, Changed, picked}
use Rattle.carton_search.specs.Knowledge.{Knowledge}
use Rattle.carton_search.specs.Turns.{steps_of, Trying, Going}
use Rattle.carton_search.proofs.Lists.{get_within, same_get, which}
use Rattle.carton_search.proofs.Best.{changed_get}
use Rattle.carton_search.proofs.Take.{IsMarked, stands_marked, queued_marked, closed_marked}
use Rattle.carton_search.proofs.Chains.{picked_set}
use Rattle.carton_search.proofs.Places.{set_changed}

module _ (task : Task) (carton : Tree) (rules : IsTask task) where
  -- all steps of a turn have been tried
  module _ (k : Knowledge) (number : ℕ) (entry : Entry) (count : ℕ)
      (o : Trying task carton k number entry count (steps_of task)) where
    done_closed : IsClosed (SlackStep task carton) task.target k.entries entry
    done_closed = record {
      other = o.other;
      onward = λ b s. let m = number_of_step task entry.state b s.0 in o.steps m.0 b m.1 m.2 s.1;
    }

    pub gone_on : Going task carton k count (entry.moves + estimate_of task entry.state)
    gone_on = record {
      room = o.room;
      stands = o.stands;
      queued = o.queued;
      closed = λ i e there tried. elim (which i number) [
        | inl same ↦
            subst (IsClosed (SlackStep task carton) task.target k.entries)
            (same_get k.entries number i entry e (sym same) o.there there) done_closed
        | inr n ↦ o.closed i e n there tried
      ];
      picks = o.picks;
      long = let l : length k.entries + steps_of task ≤ 1 + steps_of task * count + steps_of task = o.long in
          omega (arith, l);
      few = o.turns;
      near = o.near;
    }

  -- a state is taken from the queue
  module _ (k : Knowledge) (turns last : ℕ) (o : Going task carton k turns last) (number p : ℕ)
      (least : IsLeast k.waiting number p) where
    pub the_entry : (e : Entry) × (slice_get k.entries number ≡ Some e) × (e.tried ≡ false)
        × (p ≡ e.moves + estimate_of task e.state) × (p ≤ 4095)
    the_entry = o.queued.stands number p least.0

    pub there_is : number < length k.entries
    there_is = get_within k.entries number the_entry.0 the_entry.1

    abbrev after : Waiting
    after = with_entry k.waiting number None

    module _ (e y : Entry) (there : slice_get k.entries number ≡ Some e) (tried : y.tried ≡ true)
        (state : y.state ≡ e.state) (moves : y.moves ≡ e.moves) (parent : y.parent ≡ e.parent) where
      same_e : the_entry.0 ≡ e
      same_e = same_get k.entries number number the_entry.0 e refl the_entry.1 there

      e_waits : e.tried ≡ false
      e_waits = sym (ap (λ z. z.tried) same_e) ∙ the_entry.2

      pub e_priority : p ≡ e.moves + estimate_of task e.state
      e_priority = the_entry.3 ∙ ap (λ z. z.moves + estimate_of task z.state) same_e

      marked : IsMarked k.entries number e y
      marked = record {
        there = there;
        waits = e_waits;
        tried = tried;
        state = state;
        moves = moves;
        parent = parent;
      }

      set_here : Changed k.entries (set k.entries number y) number y
      set_here = set_changed k.entries number y there_is

      gone : priority_of after number ≡ None
      gone = here k.waiting number None (within k.waiting number p least.0)

      pub taken_stands : Stands (ClearStep task carton) (estimate_of task) task.start (set k.entries number y)
          p
      taken_stands = stands_marked k.entries (set k.entries number y) number e y set_here marked
          (ClearStep task carton) (estimate_of task) task.start last p (priority_of k.waiting)
          (priority_of after) k.dropped o.stands o.queued least.0 gone (elsewhere k.waiting number None)
          least.1

      pub taken_picks : length (picked (set k.entries number y)) ≡ turns + 1
      taken_picks = let l = picked_set k.entries number e y there e_waits tried in
          let t : length (picked k.entries) ≡ turns = o.picks in omega (arith, l, t)

      pub begun : turns < task.turns → (e.state ≡ task.target → ⊥)
          → Trying task carton (record {
            entries = set k.entries number y;
            waiting = after;
            dropped = k.dropped;
          }) number y (turns + 1) 0
      begun fewer other =
          let pe : p ≡ e.moves + estimate_of task e.state = e_priority in
          let few : p ≤ 4095 = the_entry.4 in
          let ms : y.moves ≡ e.moves = moves in
          let hs : estimate_of task y.state ≡ estimate_of task e.state = ap (estimate_of task) state in
          let l : length k.entries ≤ 1 + steps_of task * turns = o.long in
          let same : p ≡ y.moves + estimate_of task y.state = omega (arith, pe, ms, hs) in
          record {
            room = record {
              nodes = nodes-with_entry k.waiting number None ∙ o.room.nodes;
              buckets = o.room.buckets;
            };
            there = set_here.at;
            tried = tried;
            few = omega (arith, same, few);
            other = λ t. other (sym state ∙ t);
            stands =
                subst (Stands (ClearStep task carton) (estimate_of task) task.start (set k.entries number y))
                same taken_stands;
            queued = queued_marked k.entries (set k.entries number y) number e y set_here marked
                (ClearStep task carton) (estimate_of task) task.start last p (priority_of k.waiting)
                (priority_of after) k.dropped o.stands o.queued least.0 gone (elsewhere k.waiting number None)
                least.1;
            closed = closed_marked k.entries (set k.entries number y) number e y set_here marked
                (SlackStep task carton) task.target o.closed;
            steps = λ i b less. absurd (omega arith);
            picks = taken_picks;
            long = omega (arith, l, length-set k.entries number y);
            turns = omega (arith, fewer);
            near = λ i x h. elim (changed_get k.entries (set k.entries number y) number y set_here i x h) [
              | inl a ↦
                  let m : x.moves ≡ y.moves = ap (λ z. z.moves) a.1 in
                  let b : e.moves ≤ turns = o.near number e there in
                  omega (arith, m, ms, b)
              | inr c ↦ let b : x.moves ≤ turns = o.near i x c.1 in omega (arith, b)
            ];
            before = let b : e.moves ≤ turns = o.near number e there in omega (arith, ms, b);
          }
