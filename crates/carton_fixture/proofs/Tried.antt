-- Chosen candidates that are left out one after the other.
use Rattle.std.proofs.Common.{◌≡◌, ◌≢◌, ℕ, ◌+◌, ◌<◌, Bool, true, false, List, length, slice_get, slice_set}
use Rattle.std.proofs.Common.{Some, sym, subst, ◌∙◌, arith, inl, inr}
use Rattle.std.proofs.lemmas.Bool.{cases_lt}
use Rattle.carton_catalogue.specs.declared.catalogue.Catalogue.{Catalogue}
use Rattle.carton_text.specs.declared.plan.Plan.{Plan}
use Rattle.carton_tree.specs.Trees.{Tree}
use Rattle.carton_fixture.specs.declared.answers.UnheldEnd.{UnheldEnd}
use Rattle.carton_fixture.specs.Fixtures.{HoldAll, IsUnheld}
use Rattle.carton_fixture.specs.Steps.{AreFewer, IsWanted, IsTried, AreTried}
use Rattle.carton_fixture.proofs.Among.{unheld_in_fewer}
use Rattle.carton_fixture.proofs.Chosen.{among_fewer}
use Rattle.carton_fixture.proofs.Writes.{get_same, set_set, set_found, fewer_set, set_fewer}

module _ (t : Tree) (plan : Plan) (c : Catalogue) (slack : ℕ) where
  -- the chosen candidates hold every guide
  abbrev pub Hold : List Bool → Type 0
  Hold chosen = HoldAll t plan c.guides c.stroke c.bodies chosen

  -- candidate k isn't chosen
  pub not_chosen : (xs : List Bool) (k : ℕ) → Hold xs → slice_get xs k ≢ Some true
      → IsTried t plan c slack xs xs k
  not_chosen xs k held n = record { held = held; fewer = λ j h. h; wanted = λ h. absurd (n h) }

  -- candidate k is left out
  pub left_out : (xs : List Bool) (k : ℕ) → k < length xs → Hold (slice_set xs k false)
      → IsTried t plan c slack xs (slice_set xs k false) k
  left_out xs k lt held =
      record { held = held; fewer = fewer_set xs k; wanted = λ h. let same = get_same xs k false lt in cc }

  -- candidate k is kept, since without it some end isn't held
  pub kept : (xs : List Bool) (k : ℕ) (u : UnheldEnd) → Hold xs → slice_get xs k ≡ Some true
      → IsUnheld t plan c.guides c.stroke c.bodies (slice_set xs k false) slack u
      → IsTried t plan c slack xs (slice_set (slice_set xs k false) k true) k
  kept xs k u held is unheld =
      let back = set_set xs k false true ∙ set_found xs k true is in
      subst (λ ys. IsTried t plan c slack xs ys k) (sym back)
      (record { held = held; fewer = λ j h. h; wanted = λ h. (u, unheld) })

  pub none_tried : (xs : List Bool) → Hold xs → AreTried t plan c slack xs xs 0
  none_tried xs held = record { held = held; fewer = λ j h. h; wanted = λ k lt h. absurd (omega arith) }

  -- what is wanted among more is wanted among fewer
  still_wanted : (more fewer : List Bool) (j : ℕ) → AreFewer fewer more → IsWanted t plan c slack more j
      → IsWanted t plan c slack fewer j
  still_wanted more fewer j f w = (
    w.0,
    unheld_in_fewer t plan c.guides c.stroke c.bodies (slice_set fewer j false) c.bodies
        (slice_set more j false) slack w.0
        (among_fewer c.bodies (slice_set fewer j false) (slice_set more j false) (set_fewer fewer more j f))
        w.1,
  )

  -- one more was tried
  pub one_more : (before middle after : List Bool) (k : ℕ) → AreTried t plan c slack before middle k
      → IsTried t plan c slack middle after k → AreTried t plan c slack before after (k + 1)
  one_more before middle after k tried one = record {
    held = one.held;
    fewer = λ j h. tried.fewer j (one.fewer j h);
    wanted = λ j lt h. elim (cases_lt j k) [
      | inl less ↦ still_wanted middle after j one.fewer (tried.wanted j less (one.fewer j h))
      | inr ge ↦ let same : k ≡ j = omega (arith, ge, lt) in
          subst (λ i. IsWanted t plan c slack after i) same
          (one.wanted (subst (λ i. slice_get after i ≡ Some true) (sym same) h))
    ];
  }
