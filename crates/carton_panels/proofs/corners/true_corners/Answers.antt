use Rattle.std.proofs.Common.{◌≡◌, ◌∙◌, Vec, Global, ◌+◌, List, [], ◌∷◌, ◌++◌, get_or, map, subst, sym, ap}
use Rattle.std.proofs.Common.{arith, pos}
use Rattle.std.specs.Prelude.{All}
use Rattle.std.proofs.lemmas.List.Elements.{All-push}
use Rattle.carton_base.specs.declared.numbers.Triple.{Triple}
use Rattle.carton_panels.specs.Panels.{origin}
use Rattle.carton_panels.specs.Shapes.{place_of}
use Rattle.carton_panels.proofs.Bends.{corners_before, no_bend, straight_more, corner_more, all_corners}
use Rattle.carton_panels.proofs.Bends.{same_place}
use Rattle.carton_panels.proofs.corners.true_corners.Goals as goal
use Rattle.carton_panels.proofs.corners.true_corners.Goals.{then-not-is_straight+in_ok-push}
use Rattle.carton_panels.proofs.corners.true_corners.Goals.{else-not-is_straight}

pub loop-k-init : goal.loop-k-init
loop-k-init c =
    let none = sym c.new-corners.ensures.items in
    record {
      corners = ap (map place_of) c.new-corners.ensures.items;
      whole =
          subst (λ (ts : List Triple). All (λ t. t.w ≡ pos 1) ts) none (λ k d h. absurd (omega (arith, h)));
    }

pub loop-k-preserved : goal.loop-k-preserved
loop-k-preserved c =
    let ps = c.args.face.places.now in
    let k = c.loop-k.k in
    let i = c.loop-k.invariant in
    let whole : List Triple → Type 0 = λ ts. All (λ (t : Triple). t.w ≡ pos 1) ts in
    let corners : List Triple → Type 0 = λ ts. map place_of ts ≡ corners_before ps (c.loop-k.k + 1) in
    elim c.if-not-is_straight.branch [
      | then-not-is_straight+in_ok-push w ↦
          let e : c.if-not-is_straight.corners.items ≡ c.loop-k.corners.items ++ w.vertex.result ∷ [] =
          ap (λ (v : Vec Triple Global). v.items) w.corners-is ∙ w.in_ok-push.ensures.items in
          let v = w.vertex.ensures in
          record {
            corners =
                subst corners (sym e) (corner_more ps c.loop-k.k c.loop-k.corners.items w.vertex.result
                c.loop-k-test.true (sym (c.is_straight.ensures no_bend) ∙ w.if-not-is_straight.true)
                (same_place w.vertex.result (get_or ps c.loop-k.k origin) v.x v.y) i.corners);
            whole =
                subst whole (sym e) (All-push (λ (t : Triple). t.w ≡ pos 1) c.loop-k.corners.items
                w.vertex.result i.whole v.w);
          }
      | else-not-is_straight w ↦
          let e : c.if-not-is_straight.corners.items ≡ c.loop-k.corners.items =
          ap (λ (v : Vec Triple Global). v.items) w.corners-is in
          record {
            corners =
                subst corners (sym e) (straight_more ps c.loop-k.k c.loop-k.corners.items c.loop-k-test.true
                (sym (c.is_straight.ensures no_bend) ∙ w.if-not-is_straight.false) i.corners);
            whole = subst whole (sym e) i.whole;
          }
    ]

pub returns-clause-corners : goal.returns-clause-corners
returns-clause-corners c = all_corners c.args.face.places.now c.loop-k.k c.loop-k.corners.items
    c.loop-k-test.false c.loop-k.invariant.corners
