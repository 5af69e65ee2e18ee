-- The steps of one state, tried in turn.
use Rattle.std.proofs.Common.{◌≡◌, ℕ, ◌+◌, ◌*◌, ◌<◌, ◌≤◌, Bool, true, false, List, [], ◌∷◌, ◌++◌, Option}
use Rattle.std.proofs.Common.{Some, None, slice_get, length, length-append, ◌⊎◌, inl, inr, refl, ap, sym, ◌∙◌}
use Rattle.std.proofs.Common.{subst, arith, pos, nat_lt, if◌then◌else◌}
use Rattle.std.proofs.Math.ListN.{set, length-set}
use Rattle.std.proofs.Math.Nat.{mul-le-mul_left}
use Rattle.carton_base.specs.declared.motion.State.{State}
use Rattle.carton_tree.specs.Trees.{Tree}
use Rattle.carton_text.specs.declared.task.Task.{Task}
use Rattle.carton_text.specs.TaskRules.{IsTask}
use Rattle.carton_queue.specs.Waits.{Waiting, nodes_of, priority_of, with_entry}
use Rattle.carton_queue.proofs.CallerLemmas.{here, elsewhere, nodes-with_entry}
use Rattle.carton_steps.specs.Steps.{IsGridStep, IsStateOf, step_of}
use Rattle.carton_steps.specs.Estimates.{estimate_of}
use Rattle.carton_steps.proofs.Moves.{grid_step_of}
use Rattle.carton_search.specs.declared.known.Entry.{Entry}
use Rattle.carton_search.specs.Clear.{ClearStep, SlackStep, StayApart, slack_of}
use Rattle.carton_search.specs.Known.{Has, Reached, Stands, Queued, Changed, picked}
use Rattle.carton_search.specs.Knowledge.{Knowledge, queued_at, with_priority}
use Rattle.carton_search.specs.Turns.{steps_of, HasRoom, Trying}
use Rattle.carton_search.proofs.Lists.{get_within, same_get, split}
use Rattle.carton_search.proofs.Best.{Fresh, IsNext, reached_changed, closed_changed, stands_changed}
use Rattle.carton_search.proofs.Best.{changed_get, place_kept, queued_put, queued_drop, not_queued}
use Rattle.carton_search.proofs.Chains.{chain, far_path, picked_write, picked_push}
use Rattle.carton_search.proofs.Places.{push_changed, set_changed}
use Rattle.carton_search.proofs.Priorities.{few_queued, many_queued, under, over}
use Rattle.carton_search.proofs.Keeping.{step_falls, path_keeps, low_along}

module _ (task : Task) (carton : Tree) (rules : IsTask task) (k : Knowledge) (number : ℕ) (entry : Entry)
    (count : ℕ) (n : ℕ) (o : Trying task carton k number entry count n) (less : n < steps_of task) where
  abbrev from : State
  from = entry.state

  abbrev moves : ℕ
  moves = entry.moves + 1

  -- nothing changed
  pub pass : ((b : State) → step_of task from n ≡ Some b → StayApart carton (slack_of task) from b
      → Reached k.entries b moves) → Trying task carton k number entry count (n + 1)
  pass now = record {
    room = o.room;
    there = o.there;
    tried = o.tried;
    few = o.few;
    other = o.other;
    stands = o.stands;
    queued = o.queued;
    closed = o.closed;
    steps = λ i b below s c. elim (split i n) [
      | inl p ↦ o.steps i b p s c
      | inr p ↦ let e : i ≡ n = omega (arith, p, below) in
          now b (subst (λ j. step_of task from j ≡ Some b) e s) c
    ];
    picks = o.picks;
    long = let l : length k.entries + steps_of task ≤ 1 + steps_of task * count + n = o.long in
        omega (arith, l);
    turns = o.turns;
    near = o.near;
    before = o.before;
  }

  pub pass_none : step_of task from n ≡ None → Trying task carton k number entry count (n + 1)
  pass_none e = pass (λ b s c. let v : None ≡ Some b = sym e ∙ s in absurd cc)

  -- there is room for one state more
  pub room_left : length k.entries < nodes_of k.waiting
  room_left =
      let l : length k.entries + steps_of task ≤ 1 + steps_of task * count + n = o.long in
      let t : count ≤ task.turns = o.turns in
      let r : nodes_of k.waiting ≡ 1 + steps_of task * task.turns = o.room.nodes in
      let m : steps_of task * count ≤ steps_of task * task.turns = mul-le-mul_left (steps_of task) t in
      omega (arith, l, r, m, less)

  -- the number of the next new state doesn't wait
  pub past : (m : ℕ) → m ≡ length k.entries → priority_of k.waiting m ≡ None
  past m at = by (priority_of k.waiting m) refl
    where
      by : (v : Option ℕ) → priority_of k.waiting m ≡ v → v ≡ None
      by None e = refl
      by (Some p) e = let b = o.queued.stands m p e in
          let l : m < length k.entries = get_within k.entries m b.0 b.1 in absurd (omega (arith, l, at))

  -- no state was found by more moves than a plan may have
  pub short : (j : ℕ) (u : Entry) → slice_get k.entries j ≡ Some u → u.moves ≤ 4096
  short j u there = elim (split 0 j) [
    | inl later ↦
        let p = o.stands.tree.parents j u later there in
        let m : u.moves ≡ p.parent.moves + 1 = p.more in
        let l : p.parent.moves + estimate_of task p.parent.state ≤ entry.moves + estimate_of task from =
        o.stands.early u.parent p.parent p.there p.tried in
        let f : entry.moves + estimate_of task from ≤ 4095 = o.few in
        omega (arith, m, l, f)
    | inr first ↦
        let at : j ≡ 0 = omega (arith, first) in
        let m : u.moves ≡ o.stands.tree.root.moves =
        ap (λ z. z.moves) (same_get k.entries j 0 u o.stands.tree.root at there o.stands.tree.first) in
        let z : o.stands.tree.root.moves ≡ 0 = o.stands.tree.no_moves in
        omega (arith, m, z)
  ]

  -- the entry's state is one of the task's
  pub of_task : IsStateOf task from
  of_task =
      let w = chain (ClearStep task carton) task.start k.entries o.stands.tree number entry o.there in
      path_keeps task rules (ClearStep task carton) (λ a b m. m.0) from w.path w.is

  module _ (to : State) (found : step_of task from n ≡ Some to) where
    same_to : (b : State) → step_of task from n ≡ Some b → to ≡ b
    same_to b s = let v : Some to ≡ Some b = sym found ∙ s in cc

    grid_step : IsGridStep task from to
    grid_step = grid_step_of task from to n less found

    pub pass_near : (StayApart carton (slack_of task) from to → ⊥)
        → Trying task carton k number entry count (n + 1)
    pass_near near =
        pass (λ b s c. absurd (near (subst (StayApart carton (slack_of task) from) (sym (same_to b s)) c)))

    fall : estimate_of task from ≤ estimate_of task to + 1
    fall = step_falls task rules from to grid_step

    pass_few : (j : ℕ) (u : Entry) → slice_get k.entries j ≡ Some u → u.state ≡ to → u.moves ≤ moves
        → Trying task carton k number entry count (n + 1)
    pass_few j u there same few =
        pass (λ b s c. record { place = j; entry = u; there = there; same = same ∙ same_to b s; few = few })

    module _ (j : ℕ) (u : Entry) (there : slice_get k.entries j ≡ Some u) (same : u.state ≡ to) where
      -- an entry that was tried has no more moves than this step would give it
      pub pass_known : (u.tried ≡ true) ⊎ (u.moves ≤ moves) → Trying task carton k number entry count (n + 1)
      pass_known old = elim old [
        | inl t ↦
            let l : u.moves + estimate_of task u.state ≤ entry.moves + estimate_of task from =
            o.stands.early j u there t in
            let e : estimate_of task u.state ≡ estimate_of task to = ap (estimate_of task) same in
            let v : estimate_of task from ≤ estimate_of task to + 1 = fall in
            pass_few j u there same (omega (arith, l, e, v))
        | inr few ↦ pass_few j u there same few
      ]

      -- an entry that wasn't waits with its priority, or was dropped
      pub waits : u.tried ≡ false → priority_of k.waiting j ≡ queued_at (u.moves + estimate_of task to)
      waits w = elim (o.queued.waits j u there w) [
        | inl stays ↦
            let b = o.queued.stands j (u.moves + estimate_of task u.state) stays in
            let few : u.moves + estimate_of task u.state ≤ 4095 = b.4 in
            stays ∙ few_queued (u.moves + estimate_of task u.state) few
            ∙ ap (λ s. queued_at (u.moves + estimate_of task s)) same
        | inr gone ↦ gone.0 ∙ many_queued (u.moves + estimate_of task u.state) gone.2
            ∙ ap (λ s. queued_at (u.moves + estimate_of task s)) same
      ]

    abbrev next : Entry
    next = record { state = to; parent = number; moves = moves; tried = false }

    module _ (clear : StayApart carton (pos 0) from to) (new : List Entry) (j : ℕ)
        (c : Changed k.entries new j next) (fresh : Fresh k.entries j next)
        (picks : length (picked new) ≡ length (picked k.entries)) (long : length new ≤ length k.entries + 1)
        (within : j < nodes_of k.waiting) where
      is_next : IsNext (ClearStep task carton) k.entries number entry next
      is_next = record {
        there = o.there;
        tried = o.tried;
        parent = refl;
        moves = refl;
        waits = refl;
        clear = (grid_step, clear);
      }

      new_stands : Stands (ClearStep task carton) (estimate_of task) task.start new
          (entry.moves + estimate_of task from)
      new_stands = stands_changed k.entries new j next c fresh (ClearStep task carton) number entry is_next
          (estimate_of task) task.start (entry.moves + estimate_of task from) fall refl o.stands

      built : (w : Waiting) (d : Bool) → HasRoom task (record { entries = new; waiting = w; dropped = d })
          → Queued (ClearStep task carton) (estimate_of task) task.start new (priority_of w) d
          → Trying task carton (record { entries = new; waiting = w; dropped = d }) number entry count (n + 1)
      built w d room queued = record {
        room = room;
        there = place_kept k.entries new j next c fresh (ClearStep task carton) number entry is_next;
        tried = o.tried;
        few = o.few;
        other = o.other;
        stands = new_stands;
        queued = queued;
        closed = closed_changed k.entries new j next c fresh (SlackStep task carton) task.target number refl
            o.closed;
        steps = λ i b below s v. elim (split i n) [
          | inl p ↦ reached_changed k.entries new j next c fresh b moves (o.steps i b p s v)
          | inr p ↦
              let e : i ≡ n = omega (arith, p, below) in
              record {
                place = j;
                entry = next;
                there = c.at;
                same = same_to b (subst (λ m. step_of task from m ≡ Some b) e s);
                few = omega arith;
              }
        ];
        picks = picks ∙ o.picks;
        long = let l : length k.entries + steps_of task ≤ 1 + steps_of task * count + n = o.long in
            omega (arith, l, long);
        turns = o.turns;
        near = λ i e h. elim (changed_get k.entries new j next c i e h) [
          | inl a ↦
              let m : e.moves ≡ moves = ap (λ z. z.moves) a.1 in
              let b : entry.moves + 1 ≤ count = o.before in
              omega (arith, m, b)
          | inr b ↦ o.near i e b.1
        ];
        before = o.before;
      }

      put_low : (p : ℕ) → p ≡ moves + estimate_of task to → p < 4096
          → Trying task carton (record {
            entries = new;
            waiting = with_entry k.waiting j (Some p);
            dropped = k.dropped;
          }) number entry count (n + 1)
      put_low p is few =
          let w = with_entry k.waiting j (Some p) in
          built w k.dropped (record {
            nodes = nodes-with_entry k.waiting j (Some p) ∙ o.room.nodes;
            buckets = o.room.buckets;
          })
          (queued_put k.entries new j next c fresh (ClearStep task carton) (estimate_of task) task.start
          (priority_of k.waiting) (priority_of w) k.dropped p refl is (omega (arith, few))
          (here k.waiting j (Some p) within) (elsewhere k.waiting j (Some p)) o.queued)

      put_high : (p : ℕ) → p ≡ moves + estimate_of task to → 4096 ≤ p
          → Trying task carton (record { entries = new; waiting = k.waiting; dropped = true }) number entry
          count (n + 1)
      put_high p is many =
          let w = chain (ClearStep task carton) task.start new new_stands.tree j next c.at in
          let l : estimate_of task to ≤ 768 =
          low_along task rules (ClearStep task carton) (λ a b m. m.0) to w.path w.is in
          let far = far_path (ClearStep task carton) task.start new new_stands.tree j next c.at
          (omega (arith, is, l, many)) in
          let m : 4095 < moves + estimate_of task to = omega (arith, is, many) in
          built k.waiting true (record { nodes = o.room.nodes; buckets = o.room.buckets })
          (queued_drop k.entries new j next c fresh (ClearStep task carton) (estimate_of task) task.start
          (priority_of k.waiting) k.dropped refl m
          (not_queued k.entries new j next c fresh (ClearStep task carton) (estimate_of task) task.start
          (priority_of k.waiting) k.dropped m o.queued) far o.queued)

      pub put : (p : ℕ) → p ≡ moves + estimate_of task to
          → Trying task carton (with_priority (record k { entries = new }) j p) number entry count (n + 1)
      put p is = by (nat_lt p 4096) refl
        where
          by : (b : Bool) → nat_lt p 4096 ≡ b
              → Trying task carton (if b then record {
                entries = new;
                waiting = with_entry k.waiting j (Some p);
                dropped = k.dropped;
              } else record {
                entries =
                    new;
                waiting = k.waiting;
                dropped = true;
              }) number entry count (n + 1)
          by true t = put_low p is (under p 4096 t)
          by false t = put_high p is (over p 4096 t)

    -- a state that was not found before
    module _ (unknown : Has k.entries to → ⊥) (clear : StayApart carton (pos 0) from to) where
      fresh_new : Fresh k.entries (length k.entries) next
      fresh_new = record {
        before = λ u there. let l : length k.entries < length k.entries =
            get_within k.entries (length k.entries) u there in absurd (omega (arith, l));
        only = λ i e there same. absurd (unknown (i, e, there, same));
      }

      pub put_new : (place p : ℕ) → place ≡ length k.entries → p ≡ moves + estimate_of task to
          → Trying task carton (with_priority (record k { entries = k.entries ++ next ∷ [] }) place p) number
          entry count (n + 1)
      put_new place p is_place is =
          subst (λ m. Trying task carton (with_priority (record k { entries = k.entries ++ next ∷ [] }) m p)
          number entry count (n + 1)) (sym is_place)
          (put clear (k.entries ++ next ∷ []) (length k.entries) (push_changed k.entries next) fresh_new
          (picked_push k.entries next refl) (omega (arith, length-append k.entries (next ∷ []))) room_left
          p is)

    -- a state that was found before, by more moves
    module _ (j : ℕ) (u : Entry) (there : slice_get k.entries j ≡ Some u) (same : u.state ≡ to)
        (w : u.tried ≡ false) (fewer : moves < u.moves) (clear : StayApart carton (pos 0) from to) where
      fresh_again : Fresh k.entries j next
      fresh_again = record {
        before = λ v h. let is : u ≡ v = same_get k.entries j j u v refl there h in (
          sym (ap (λ z. z.state) is) ∙ same,
          sym (ap (λ z. z.tried) is)
              ∙ w,
          subst (λ z. moves < z.moves) is fewer,
        );
        only = λ i e h is. o.stands.tree.apart i j e u h there (is ∙ sym same);
      }

      pub put_again : (p : ℕ) → p ≡ moves + estimate_of task to
          → Trying task carton (with_priority (record k { entries = set k.entries j next }) j p) number entry
          count (n + 1)
      put_again p is =
          let l : j < length k.entries = get_within k.entries j u there in
          let r : length k.entries < nodes_of k.waiting = room_left in
          put clear (set k.entries j next) j (set_changed k.entries j next l) fresh_again
          (picked_write k.entries j u next there w refl) (omega (arith, length-set k.entries j next))
          (omega (arith, l, r)) p is
