-- On every path that comes near nothing some entry waits, found early enough.
use Rattle.std.proofs.Common.{◌≡◌, ℕ, ◌+◌, ◌<◌, ◌≤◌, Bool, true, false, List, [], ◌∷◌, Option, Some, None}
use Rattle.std.proofs.Common.{slice_get, length, ◌⊎◌, inl, inr, refl, ap, sym, ◌∙◌, subst, arith}
use Rattle.carton_base.specs.declared.motion.State.{State}
use Rattle.carton_search.specs.declared.known.Entry.{Entry}
use Rattle.carton_search.specs.Known.{Reached, IsTree, AllClosed, Queued}
use Rattle.carton_search.specs.Paths.{Follows, last_of, IsPath, moves_of}

-- a entry that isn't tried, whose priority is at most so many moves
pub record Waits (h : State → ℕ) (es : List Entry) (moves : ℕ) : Type 0 where
  pub place : ℕ
  pub entry : Entry
  pub there : slice_get es place ≡ Some entry
  pub waits : entry.tried ≡ false
  pub few : entry.moves + h entry.state ≤ moves

tried_or : (t : Bool) → (t ≡ true) ⊎ (t ≡ false)
tried_or true = inl refl
tried_or false = inr refl

module _ (S : State → State → Type 0) (h : State → ℕ) (target : State)
    (falls : (a b : State) → S a b → h a ≤ h b + 1) (none_left : h target ≡ 0) where
  -- the estimate is at most the moves that are left
  left : (a : State) (rest : List State) → Follows S a rest → last_of a rest ≡ target → h a ≤ length rest
  left a [] walk ends = let e : h a ≡ h target = ap h ends in omega (arith, e, none_left)
  left a (b ∷ rest) walk ends = let l : h b ≤ length rest = left b rest walk.1 ends in
      let f : h a ≤ h b + 1 = falls a b walk.0 in omega (arith, l, f)

  module _ (es : List Entry) (closed : AllClosed S target es) where
    frontier : (rest : List State) (i : ℕ) (e : Entry) (g : ℕ) → slice_get es i ≡ Some e → e.moves ≤ g
        → Follows S e.state rest → last_of e.state rest ≡ target → Waits h es (g + length rest)
    frontier [] i e g there few walk ends = elim (tried_or e.tried) [
      | inl t ↦ absurd ((closed i e there t).other ends)
      | inr w ↦ let l : h e.state ≤ 0 = left e.state [] walk ends in
          record { place = i; entry = e; there = there; waits = w; few = omega (arith, few, l) }
    ]
    frontier (b ∷ rest) i e g there few walk ends = elim (tried_or e.tried) [
      | inl t ↦
          let r : Reached es b (e.moves + 1) = (closed i e there t).onward b walk.0 in
          let rf : r.entry.moves ≤ e.moves + 1 = r.few in
          let w : Waits h es (g + 1 + length rest) = frontier rest r.place r.entry (g + 1) r.there
          (omega (arith, rf, few)) (subst (λ s. Follows S s rest) (sym r.same) walk.1)
          (subst (λ s. last_of s rest ≡ target) (sym r.same) ends) in
          let wf : w.entry.moves + h w.entry.state ≤ g + 1 + length rest = w.few in
          record {
            place = w.place;
            entry = w.entry;
            there = w.there;
            waits = w.waits;
            few = omega (arith, wf);
          }
      | inr w ↦ let l : h e.state ≤ length (b ∷ rest) = left e.state (b ∷ rest) walk ends in
          record { place = i; entry = e; there = there; waits = w; few = omega (arith, few, l) }
    ]

    module _ (C : State → State → Type 0) (start : State) (t : IsTree C start es) where
      pub waits : (p : List State) → IsPath S start target p → Waits h es (moves_of p)
      waits [] k = absurd k
      waits (s ∷ rest) k =
          let none : t.root.moves ≡ 0 = t.no_moves in
          let w : Waits h es (0 + length rest) = frontier rest 0 t.root 0 t.first (omega (arith, none))
          (subst (λ a. Follows S a rest) (sym t.begins) k.1)
          (subst (λ a. last_of a rest ≡ target) (sym t.begins) k.2) in
          let wf : w.entry.moves + h w.entry.state ≤ 0 + length rest = w.few in
          record {
            place = w.place;
            entry = w.entry;
            there = w.there;
            waits = w.waits;
            few = omega (arith, wf);
          }

      -- a least priority is at most the moves of the path
      pub least : (q : ℕ → Option ℕ) (dropped : Bool) (m : ℕ) → Queued C h start es q dropped → m ≤ 4095
          → ((n p : ℕ) → q n ≡ Some p → m ≤ p) → (p : List State) → IsPath S start target p → m ≤ moves_of p
      least q dropped m k small bound p path =
          let w : Waits h es (moves_of p) = waits p path in
          let wf : w.entry.moves + h w.entry.state ≤ moves_of p = w.few in
          elim (k.waits w.place w.entry w.there w.waits) [
            | inl stays ↦ let b : m ≤ w.entry.moves + h w.entry.state =
                bound w.place (w.entry.moves + h w.entry.state) stays in omega (arith, b, wf)
            | inr gone ↦ let l : 4095 < w.entry.moves + h w.entry.state = gone.2 in
                omega (arith, l, wf, small)
          ]

      -- where none waits and none was dropped there is no path; where one was, no path is short
      pub none : (q : ℕ → Option ℕ) → Queued C h start es q false → ((n : ℕ) → q n ≡ None) → (p : List State)
          → IsPath S start target p → ⊥
      none q k empty p path =
          let w : Waits h es (moves_of p) = waits p path in
          elim (k.waits w.place w.entry w.there w.waits) [
            | inl stays ↦ let v : None ≡ Some (w.entry.moves + h w.entry.state) = sym (empty w.place)
                ∙ stays in cc
            | inr gone ↦ let v : false ≡ true = gone.1 in cc
          ]

      pub far : (q : ℕ → Option ℕ) (dropped : Bool) → Queued C h start es q dropped → ((n : ℕ) → q n ≡ None)
          → (p : List State) → IsPath S start target p → 4096 ≤ moves_of p
      far q dropped k empty p path =
          let w : Waits h es (moves_of p) = waits p path in
          let wf : w.entry.moves + h w.entry.state ≤ moves_of p = w.few in
          elim (k.waits w.place w.entry w.there w.waits) [
            | inl stays ↦
                absurd (let v : None ≡ Some (w.entry.moves + h w.entry.state) = sym (empty w.place) ∙ stays in
                cc)
            | inr gone ↦ let l : 4095 < w.entry.moves + h w.entry.state = gone.2 in omega (arith, l, wf)
          ]
