-- The faces of a dieline that are no panels: each breaks one rule, and one of them is the first.
use Rattle.std.proofs.Common.{◌≡◌, ℕ, ◌<◌, inl, inr, List, length, arith, sym, ◌∙◌, subst, refl, ap, Err}
use Rattle.std.proofs.lemmas.Bool.{cases_lt}
use Rattle.carton_base.specs.declared.dieline.RawDieline.{RawDieline}
use Rattle.carton_base.specs.declared.dieline.Point.{Point}
use Rattle.carton_base.specs.declared.ids.PanelId.{PanelId}
use Rattle.carton_panels.specs.Panels.{origin}
use Rattle.carton_panels.specs.Answers.{IsPanelAnswer}
use Rattle.carton_panels.specs.DielinePanels.{panel_places, IsPanel, ArePanels}
use Rattle.carton_panels.specs.declared.error.PanelError.{PanelError}
use Rattle.carton_panels.specs.declared.error.PanelError.TheVariants.{RepeatedVertex, NotConvex, TooThin}
use Rattle.carton_panels.specs.declared.error.PanelError.TheVariants.{Memory}
use Rattle.carton_tree.specs.Answers.{IsFirstRefused}

pub same_panel : (a b : PanelId) → a.0 ≡ b.0 → a ≡ b
same_panel a b e = λ i. record { 0 = e i }

-- a face isn't both a panel and refused
refused_is_none : (m : ℕ) (panel : PanelId) (ps : List Point) (e : PanelError)
    → IsPanelAnswer panel m ps (Err e) → ¬ (e ≡ Memory) → IsPanel m ps → ⊥
refused_is_none m panel ps (RepeatedVertex f) h wanted p = p.distinct h.1.0 h.1.1 origin h.1.2 h.1.3 h.1.4
refused_is_none m panel ps (NotConvex f) h wanted p = h.2 p.convex
refused_is_none m panel ps (TooThin f) h wanted p =
    h.3 p.room.x p.room.y p.room.w p.room.positive p.room.inside
refused_is_none m panel ps Memory h wanted p = wanted refl

-- a face is refused by one rule
one_refusal : (m : ℕ) (panel : PanelId) (ps : List Point) (e f : PanelError)
    → IsPanelAnswer panel m ps (Err e) → IsPanelAnswer panel m ps (Err f) → ¬ (e ≡ Memory) → ¬ (f ≡ Memory)
    → e ≡ f
one_refusal m panel ps (RepeatedVertex a) (RepeatedVertex b) h k u v =
    ap (λ (x : PanelId). RepeatedVertex x) (h.0 ∙ sym k.0)
one_refusal m panel ps (RepeatedVertex a) (NotConvex b) h k u v =
    absurd (k.1 h.1.0 h.1.1 origin h.1.2 h.1.3 h.1.4)
one_refusal m panel ps (RepeatedVertex a) (TooThin b) h k u v =
    absurd (k.1 h.1.0 h.1.1 origin h.1.2 h.1.3 h.1.4)
one_refusal m panel ps (NotConvex a) (RepeatedVertex b) h k u v =
    absurd (h.1 k.1.0 k.1.1 origin k.1.2 k.1.3 k.1.4)
one_refusal m panel ps (NotConvex a) (NotConvex b) h k u v = ap (λ (x : PanelId). NotConvex x) (h.0 ∙ sym k.0)
one_refusal m panel ps (NotConvex a) (TooThin b) h k u v = absurd (h.2 k.2)
one_refusal m panel ps (TooThin a) (RepeatedVertex b) h k u v =
    absurd (h.1 k.1.0 k.1.1 origin k.1.2 k.1.3 k.1.4)
one_refusal m panel ps (TooThin a) (NotConvex b) h k u v = absurd (k.2 h.2)
one_refusal m panel ps (TooThin a) (TooThin b) h k u v = ap (λ (x : PanelId). TooThin x) (h.0 ∙ sym k.0)
one_refusal m panel ps Memory f h k u v = absurd (u refl)
one_refusal m panel ps (RepeatedVertex a) Memory h k u v = absurd (v refl)
one_refusal m panel ps (NotConvex a) Memory h k u v = absurd (v refl)
one_refusal m panel ps (TooThin a) Memory h k u v = absurd (v refl)

-- where all faces before a are panels, none of them is refused
not_refused : (m : ℕ) (d : RawDieline) (n : ℕ) (panel : PanelId) (e : PanelError) → ArePanels m d n
    → panel.0 < n → IsPanelAnswer panel m (panel_places d panel.0) (Err e) → ¬ (e ≡ Memory) → ⊥
not_refused m d n panel e all lt h wanted =
    refused_is_none m panel (panel_places d panel.0) e h wanted (all panel.0 lt)

-- where all faces are panels, none is the first that is refused
pub none_refused : (m : ℕ) (d : RawDieline) (e : PanelError) → ArePanels m d (length d.faces)
    → IsFirstRefused m d e → ⊥
none_refused m d e all h = not_refused m d (length d.faces) h.0 e all h.1 h.3 h.4

-- the first face that is no panel is refused by one rule
pub one_first_refused : (m : ℕ) (d : RawDieline) (e f : PanelError) → IsFirstRefused m d e
    → IsFirstRefused m d f → e ≡ f
one_first_refused m d e f h k = elim (cases_lt h.0.0 k.0.0) [
  | inl lt ↦ absurd (not_refused m d k.0.0 h.0 e k.2 lt h.3 h.4)
  | inr le ↦ elim (cases_lt k.0.0 h.0.0) [
    | inl gt ↦ absurd (not_refused m d h.0.0 k.0 f h.2 gt k.3 k.4)
    | inr ge ↦
        let same : k.0 ≡ h.0 = same_panel k.0 h.0 (omega (arith, le, ge)) in
        let here = subst (λ p. IsPanelAnswer p m (panel_places d p.0) (Err f)) same k.3 in
        one_refusal m h.0 (panel_places d h.0.0) e f h.3 here h.4 k.4
  ]
]
