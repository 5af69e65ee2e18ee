-- What a search keeps of the states that it has found, by their numbers.
use Rattle.std.specs.Prelude.{◌≡◌, ◌⊎◌, ℕ, ◌+◌, ◌<◌, ◌≤◌, Bool, true, false, List, [], ◌∷◌, cond, Option}
use Rattle.std.specs.Prelude.{Some, None, slice_get}
use Rattle.carton_base.specs.declared.motion.State.{State}
use Rattle.carton_search.specs.declared.known.Entry.{Entry}
use Rattle.carton_search.specs.Paths.{HasFarPath}

-- s stands in the list
abbrev pub Has : List Entry → State → Type 0
Has es s = (i : ℕ) × (e : Entry) × (slice_get es i ≡ Some e) × (e.state ≡ s)

-- the number of the state, if it stands in the list
abbrev pub IsNumberOf : List Entry → State → Option ℕ → Type 0
IsNumberOf es s None = Has es s → ⊥
IsNumberOf es s (Some i) = (e : Entry) × (slice_get es i ≡ Some e) × (e.state ≡ s)

-- s stands in the list, found with at most so many moves
pub record Reached (es : List Entry) (s : State) (moves : ℕ) : Type 0 where
  pub place : ℕ
  pub entry : Entry
  pub there : slice_get es place ≡ Some entry
  pub same : entry.state ≡ s
  pub few : entry.moves ≤ moves

module _ (C : State → State → Type 0) where
  -- the entry was found from one whose steps were tried, by one move more
  pub record HasParent (es : List Entry) (e : Entry) : Type 0 where
    pub parent : Entry
    pub there : slice_get es e.parent ≡ Some parent
    pub tried : parent.tried ≡ true
    pub clear : C parent.state e.state
    pub more : e.moves ≡ parent.moves + 1

  -- the entries begin with the start, each other one was found from one that was tried, no state stands twice
  pub record IsTree (start : State) (es : List Entry) : Type 0 where
    pub root : Entry
    pub first : slice_get es 0 ≡ Some root
    pub begins : root.state ≡ start
    pub no_moves : root.moves ≡ 0
    pub parents : (i : ℕ) (e : Entry) → 0 < i → slice_get es i ≡ Some e → HasParent es e
    pub apart : (i j : ℕ) (a b : Entry) → slice_get es i ≡ Some a → slice_get es j ≡ Some b
        → a.state ≡ b.state → i ≡ j

-- a state whose steps were all tried isn't the target, and a step that is clear by the slack leads to a found
-- state
pub record IsClosed (S : State → State → Type 0) (target : State) (es : List Entry) (e : Entry) : Type 0 where
  pub other : e.state ≡ target → ⊥
  pub onward : (b : State) → S e.state b → Reached es b (e.moves + 1)

-- where the search stands: what was tried has a priority of at most `last`, what waits has at least that
pub record Stands (C : State → State → Type 0) (h : State → ℕ) (start : State) (es : List Entry)
    (last : ℕ) : Type 0 where
  pub tree : IsTree C start es
  pub early : (i : ℕ) (e : Entry) → slice_get es i ≡ Some e → e.tried ≡ true → e.moves + h e.state ≤ last
  pub late : (i : ℕ) (e : Entry) → slice_get es i ≡ Some e → e.tried ≡ false → last ≤ e.moves + h e.state

-- each tried entry is closed
abbrev pub AllClosed : (State → State → Type 0) → State → List Entry → Type 0
AllClosed S target es = (i : ℕ) (e : Entry) → slice_get es i ≡ Some e → e.tried ≡ true
    → IsClosed S target es e

-- but for the one at the place
abbrev pub ClosedBut : (State → State → Type 0) → State → List Entry → ℕ → Type 0
ClosedBut S target es place = (i : ℕ) (e : Entry) → (i ≡ place → ⊥) → slice_get es i ≡ Some e → e.tried ≡ true
    → IsClosed S target es e

-- the queue has just the entries that are not tried, by their priorities, but for those of more than 4095
-- that were dropped
pub record Queued (C : State → State → Type 0) (h : State → ℕ) (start : State) (es : List Entry)
    (q : ℕ → Option ℕ) (dropped : Bool) : Type 0 where
  pub waits : (i : ℕ) (e : Entry) → slice_get es i ≡ Some e → e.tried ≡ false
      → (q i ≡ Some (e.moves + h e.state)) ⊎ ((q i ≡ None) × (dropped ≡ true) × (4095 < e.moves + h e.state))
  pub stands : (i p : ℕ) → q i ≡ Some p → (e : Entry) × (slice_get es i ≡ Some e) × (e.tried ≡ false)
      × (p ≡ e.moves + h e.state) × (p ≤ 4095)
  pub far : dropped ≡ true → HasFarPath C start

-- the list after a write at the place, or after a push
pub record Changed (old new : List Entry) (place : ℕ) (y : Entry) : Type 0 where
  pub at : slice_get new place ≡ Some y
  pub others : (i : ℕ) → (i ≡ place → ⊥) → slice_get new i ≡ slice_get old i

-- the states of the tried entries
abbrev pub picked : List Entry → List State
picked [] = []
picked (e ∷ es) = cond e.tried (e.state ∷ picked es) (picked es)

-- a is the state from which b was found
abbrev pub IsParent : List Entry → State → State → Type 0
IsParent es a b = (i : ℕ) × (e : Entry) × (p : Entry) × (0 < i) × (slice_get es i ≡ Some e)
    × (slice_get es e.parent ≡ Some p) × (p.state ≡ a) × (e.state ≡ b)
