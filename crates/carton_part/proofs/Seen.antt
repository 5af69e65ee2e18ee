-- Positions of one place of the world are one place in each frame, so panels that are parted don't meet.
use Rattle.std.proofs.Common.{◌≡◌, ◌∙◌, refl, sym, ap, subst, ℕ, ◌<◌, List, ◌++◌, length, map, reverse, pos}
use Rattle.std.proofs.Common.{◌<ℤ◌}
use Rattle.std.proofs.lemmas.List.{map-append, reverse-append}
use Rattle.carton_base.specs.declared.motion.Turn.{Turn}
use Rattle.carton_model.specs.HalfTurns.{Fold}
use Rattle.carton_model.specs.Parting.{Position}
use Rattle.carton_model.specs.Turning.{turned_back, turned_through, placed}
use Rattle.carton_tree.specs.Cartons.{IsCarton}
use Rattle.carton_tree.specs.Trees.{Tree, parting, turns_up, turns_between}
use Rattle.carton_part.specs.Points.{IsPointOf, HaveDens, flat_at}
use Rattle.carton_part.specs.Parted.{ArePartedBy}
use Rattle.carton_part.specs.Meeting.{AreMeeting}
use Rattle.carton_part.proofs.Positive.{positive_placed}
use Rattle.carton_part.proofs.Alike.{AreAlike, alike_back, alike_on, alike_placed, alike_from, not_beyond}
use Rattle.carton_part.proofs.Returning.{back, placed_append, returned}
use Rattle.carton_part.proofs.Upward.{turns_of, way_up, no_turns, parting_on}
use Rattle.carton_part.proofs.Ways.{frame_in}

between_is : (t : Tree) (p f : ℕ) → turns_between t p f ≡ turns_up t.joints p (parting t p f)
    ++ back (turns_up t.joints f (parting t p f))
unfolding turns_between
between_is t p f = refl

back_append : (ts us : List Turn) → back (ts ++ us) ≡ back us ++ back ts
back_append ts us = ap reverse (map-append turned_back ts us)
    ∙ reverse-append (map turned_back ts) (map turned_back us)

-- up to a panel, on to the root, back down to that panel, and down to a frame
round_trip : (folds : ℕ → Fold) (up over down : List Turn) (p : Position) → HaveDens folds
    → AreAlike (placed folds (back (down ++ over)) (placed folds (up ++ over) p)) (placed folds
    (up ++ back down) p)
round_trip folds up over down p h =
    let a = placed folds up p in
    let e : placed folds (back (down ++ over)) (placed folds (up ++ over) p)
    ≡ placed folds (back down) (placed folds (back over) (placed folds over a)) =
    ap (λ us. placed folds us (placed folds (up ++ over) p)) (back_append down over)
    ∙ placed_append folds (back over) (back down) _
    ∙ ap (λ q. placed folds (back down) (placed folds (back over) q)) (placed_append folds up over p) in
    let f : placed folds (up ++ back down) p ≡ placed folds (back down) a =
    placed_append folds up (back down) p in
    subst (λ q. AreAlike q (placed folds (up ++ back down) p)) (sym e)
    (subst (λ q. AreAlike (placed folds (back down) (placed folds (back over) (placed folds over a))) q)
    (sym f) (alike_placed folds (back down) _ _ (returned folds over a h)))

-- a point in a frame is the point in the world, turned back down to the frame
seen_from : (t : Tree) (folds : ℕ → Fold) (a f : ℕ) (p : Position) → IsCarton t → HaveDens folds
    → a < length t.panels → f < length t.panels
    → AreAlike (placed folds (back (turns_of t f)) (placed folds (turns_of t a) p)) (placed folds
    (turns_between t a f) p)
seen_from t folds a f p c h la lf =
    let top = parting t a f in
    let on = parting_on t a f c la lf in
    let up = turns_up t.joints a top in
    let down = turns_up t.joints f top in
    let over = turns_of t top in
    let ea : turns_of t a ≡ up ++ over = way_up t a top c la on.0 in
    let ef : turns_of t f ≡ down ++ over = way_up t f top c lf on.1 in
    subst (λ ts. AreAlike (placed folds (back (turns_of t f)) (placed folds (turns_of t a) p))
    (placed folds ts p)) (sym (between_is t a f))
    (subst (λ ts. AreAlike (placed folds (back ts) (placed folds (turns_of t a) p))
    (placed folds (up ++ back down) p)) (sym ef)
    (subst (λ ts. AreAlike (placed folds (back (down ++ over)) (placed folds ts p))
    (placed folds (up ++ back down) p)) (sym ea) (round_trip folds up over down p h)))

-- in the frame of the root a point stands where it does in the world
in_world : (t : Tree) (folds : ℕ → Fold) (a : ℕ) (p : Position) → IsCarton t → HaveDens folds
    → a < length t.panels
    → AreAlike (placed folds (turns_of t a) p) (placed folds (turns_between t a t.root) p)
unfolding turned_through
in_world t folds a p c h la =
    subst (λ ts. AreAlike (placed folds (back ts) (placed folds (turns_of t a) p))
    (placed folds (turns_between t a t.root) p)) (no_turns t c) (seen_from t folds a t.root p c h la c.root)

-- points at one place of the world are at one place in each frame
seen_alike : (t : Tree) (folds : ℕ → Fold) (a b f : ℕ) (p q : Position) → IsCarton t → HaveDens folds
    → a < length t.panels → b < length t.panels → f < length t.panels
    → AreAlike (placed folds (turns_between t a t.root) p) (placed folds (turns_between t b t.root) q)
    → AreAlike (placed folds (turns_between t a f) p) (placed folds (turns_between t b f) q)
seen_alike t folds a b f p q c h la lb lf same =
    let wa = placed folds (turns_of t a) p in
    let wb = placed folds (turns_of t b) q in
    let world : AreAlike wa wb = alike_on _ _ _ (in_world t folds a p c h la)
    (alike_on _ _ _ same (alike_back _ _ (in_world t folds b q c h lb))) in
    let down = back (turns_of t f) in
    alike_on _ _ _ (alike_back _ _ (seen_from t folds a f p c h la lf))
    (alike_on _ _ _ (alike_placed folds down wa wb world) (seen_from t folds b f q c h lb lf))

pub parted_apart : (t : Tree) (folds : ℕ → Fold) (a b : ℕ) → IsCarton t → HaveDens folds → a < length t.panels
    → b < length t.panels → ArePartedBy t folds a b (pos 0) → ¬ (AreMeeting t folds a b)
parted_apart t folds a b c h la lb parted meet =
    let f = parted.0 in
    let lf = frame_in t a b f c la lb parted.1 in
    let by = parted.2 in
    let x = meet.of_a in
    let y = meet.of_b in
    let p = flat_at x.x x.y x.w in
    let q = flat_at y.x y.y y.w in
    let ep : meet.p ≡ placed folds (turns_between t a t.root) p = x.at in
    let eq : meet.q ≡ placed folds (turns_between t b t.root) q = y.at in
    let wp : pos 0 <ℤ meet.p.w =
    subst (λ (r : Position). pos 0 <ℤ r.w) (sym ep)
    (positive_placed folds (turns_between t a t.root) p h x.positive) in
    let wq : pos 0 <ℤ meet.q.w =
    subst (λ (r : Position). pos 0 <ℤ r.w) (sym eq)
    (positive_placed folds (turns_between t b t.root) q h y.positive) in
    let met : AreAlike meet.p meet.q = alike_from meet.p meet.q wp wq meet.same in
    let same : AreAlike (placed folds (turns_between t a t.root) p)
    (placed folds (turns_between t b t.root) q) =
    subst (λ r. AreAlike r (placed folds (turns_between t b t.root) q)) ep
    (subst (λ r. AreAlike meet.p r) eq met) in
    let of_a : IsPointOf t folds a f (placed folds (turns_between t a f) p) = record {
      x = x.x;
      y = x.y;
      w = x.w;
      positive = x.positive;
      inside = x.inside;
      at = refl;
    } in
    let of_b : IsPointOf t folds b f (placed folds (turns_between t b f) q) = record {
      x = y.x;
      y = y.y;
      w = y.w;
      positive = y.positive;
      inside = y.inside;
      at = refl;
    } in
    not_beyond by.0 by.1 by.2 _ _ (seen_alike t folds a b f p q c h la lb lf same) (by.4 _ _ of_a of_b)
