-- Lists that are filled one element after the other, and swings read beside turns.
use Rattle.std.proofs.Common.{◌≡◌, ℕ, suc, ◌+◌, ◌<◌, List, [], ◌∷◌, length, map, get_or, set, arith, sym}
use Rattle.std.proofs.Common.{subst, inl, inr}
use Rattle.std.proofs.lemmas.Bool.{cases_lt}
use Rattle.std.proofs.lemmas.List.{get_or-set_same, get_or-set_other}
use Rattle.carton_base.specs.declared.motion.Turn.{Turn}
use Rattle.carton_model.specs.Turning.{Angle}
use Rattle.carton_place.specs.declared.swings.Swing.{Swing}
use Rattle.carton_place.specs.Held.{HoldsSwing, HoldSwings}

-- each of the first elements has P at its place
abbrev pub FirstHave : {X : Type 0} → (ℕ → X → Type 0) → List X → ℕ → Type 0
FirstHave {X} P xs i = (k : ℕ) (d : X) → k < i → P k (get_or xs k d)

pub one_more_set : {X : Type 0} (P : ℕ → X → Type 0) (xs : List X) (i : ℕ) (x : X) → i < length xs → P i x
    → FirstHave P xs i → FirstHave P (set xs i x) (i + 1)
one_more_set {X} P xs i x h p below = λ k d l. elim (cases_lt k i) [
  | inl lt ↦ subst (P k) (sym (get_or-set_other xs i k x d (λ e. omega (arith, lt, e)))) (below k d lt)
  | inr le ↦
      let e : i ≡ k = omega (arith, le, l) in
      subst (λ b. P b (get_or (set xs i x) b d)) e (subst (P i) (sym (get_or-set_same xs i x d h)) p)
]

-- swings that each have the angle of the turn beside them
pub beside : (m d : ℕ) (angle : Turn → Angle) (ss : List Swing) (ts : List Turn) → length ss ≡ length ts
    → ((k : ℕ) (s : Swing) (t : Turn) → k < length ts
    → HoldsSwing (get_or ss k s) m d (angle (get_or ts k t))) → HoldSwings ss m d (map angle ts)
beside m d angle [] [] e h = tt
beside m d angle [] (t ∷ ts) e h = absurd (omega (arith, e))
beside m d angle (s ∷ ss) [] e h = absurd (omega (arith, e))
beside m d angle (s ∷ ss) (t ∷ ts) e h = (
  h 0 s t (omega arith),
  beside m d angle ss ts (omega (arith, e))
      (λ k a b l. h (suc k) a b (omega (arith, l))),
)
