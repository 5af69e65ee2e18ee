-- The shapes of a dieline's panels, made one after the other.
use Rattle.std.proofs.Common.{◌≡◌, ℕ, ◌<◌, inl, inr, List, [], ◌∷◌, ◌++◌, length, get_or, arith, sym, subst}
use Rattle.std.proofs.Common.{length-append, Ok}
use Rattle.std.proofs.lemmas.Bool.{cases_lt}
use Rattle.std.proofs.lemmas.List.{get_or_append_left}
use Rattle.std.proofs.Math.Seq.{get_or-append_seam}
use Rattle.carton_base.specs.declared.dieline.RawDieline.{RawDieline}
use Rattle.carton_base.specs.declared.ids.PanelId.{PanelId}
use Rattle.carton_panels.specs.Answers.{IsPanelAnswer}
use Rattle.carton_panels.specs.DielinePanels.{ArePanels, AreShapes, IsPanel, IsShapeOf, panel_places}
use Rattle.carton_panels.specs.Shapes.{Shape}
use Rattle.carton_panels.specs.Shrinking.{HasRoom}

-- one more shape
pub one_more : (m : ℕ) (d : RawDieline) (shapes : List Shape) (s : Shape) → AreShapes m d shapes
    → length shapes < length d.faces → IsShapeOf m d (length shapes) s → AreShapes m d (shapes ++ s ∷ [])
one_more m d shapes s h lt is = record {
  few = omega (arith, lt, length-append shapes (s ∷ []));
  each = λ a x less. elim (cases_lt a (length shapes)) [
    | inl early ↦ subst (λ y. IsShapeOf m d a y) (sym (get_or_append_left shapes (s ∷ []) x a early))
        (h.each a x early)
    | inr late ↦
        let here : a ≡ length shapes = omega (arith, less, late, length-append shapes (s ∷ [])) in
        subst (λ k. IsShapeOf m d k (get_or (shapes ++ s ∷ []) k x)) (sym here)
        (subst (λ y. IsShapeOf m d (length shapes) y) (sym (get_or-append_seam shapes s [] x)) is)
  ];
}

-- the faces whose shapes were made are panels
pub are_panels : (m : ℕ) (d : RawDieline) (shapes : List Shape) → AreShapes m d shapes
    → ArePanels m d (length shapes)
are_panels m d shapes h =
    λ k lt. (h.each k (record { places = []; margin = 0; corners = []; shrunk = [] }) lt).panel

-- the shape at a place is that of the face of that number
pub shape_at : (m : ℕ) (d : RawDieline) (shapes : List Shape) (a : ℕ) (s : Shape) → AreShapes m d shapes
    → a < length shapes → s ≡ get_or shapes a s → IsShapeOf m d a s
shape_at m d shapes a s h lt is = subst (λ x. IsShapeOf m d a x) (sym is) (h.each a s lt)

-- a panel that was answered has the shape of its face
pub shape_of_panel : (m : ℕ) (d : RawDieline) (face : PanelId) (s : Shape)
    → IsPanelAnswer face m (panel_places d face.0) (Ok s) → IsShapeOf m d face.0 s
shape_of_panel m d face s h =
    let room = subst (λ k. HasRoom k s.places) h.1 h.2.room in
    record {
      places = h.0;
      margin = h.1;
      panel =
          subst (λ ps. IsPanel m ps) h.0 (record { distinct = h.2.distinct; convex = h.2.convex; room = room });
    }
