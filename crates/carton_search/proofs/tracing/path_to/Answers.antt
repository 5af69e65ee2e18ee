use Rattle.std.proofs.Common.{◌≡◌, ◌+◌, ◌<◌, ◌≤◌, Some, slice_get, length, reverse, ◌++◌, ◌∷◌, [], ap, sym}
use Rattle.std.proofs.Common.{refl, ◌∙◌, subst, arith}
use Rattle.carton_search.specs.declared.known.Entry.{Entry}
use Rattle.carton_search.specs.Known.{IsParent}
use Rattle.carton_search.specs.Paths.{IsPath}
use Rattle.carton_search.proofs.Born.{Behind, behind_none, behind_more, behind_all, later_place, first_place}
use Rattle.carton_search.proofs.Lists.{same_get}
use Rattle.carton_search.proofs.tracing.path_to.Goals as goal

pub loop-entry-init : goal.loop-entry-init
loop-entry-init c =
    let es = c.args.known.now.entries in
    let x = c.entry-entry.result in record {
      there = (c.args.number, c.entry-entry.ensures);
      behind =
          λ s end t h. subst (Behind es end x) (sym c.requires.empty)
          (subst (λ (f : Entry). Behind es end f [])
          (same_get es c.args.number c.args.number end x refl h c.entry-entry.ensures) (behind_none es end));
    }

pub loop-entry-preserved : goal.loop-entry-preserved
loop-entry-preserved c =
    let es = c.args.known.now.entries in
    let e = c.loop-entry.entry in
    let at = c.loop-entry.invariant.there in
    let more : 0 < e.moves = omega (arith, c.loop-entry-test.true) in
    let t = c.requires.tree in
    let i = later_place (IsParent es) t.0 es t.1 at.0 e at.1 more in record {
      there = (e.parent, c.entry-entry-in-loop-entry.ensures);
      behind = λ s end u h. subst (Behind es end c.entry-entry-in-loop-entry.result)
          (sym c.in_ok-push.ensures.items)
          (behind_more es s u end at.0 e c.entry-entry-in-loop-entry.result c.loop-entry.path.items i at.1
          c.entry-entry-in-loop-entry.ensures (c.loop-entry.invariant.behind s end u h));
    }

pub returns : goal.returns
returns c = λ s e t h.
    let es = c.args.known.now.entries in
    let x = c.loop-entry.entry in
    let at = c.loop-entry.invariant.there in
    let few : x.moves ≤ 0 = omega (arith, c.loop-entry-test.false) in
    let first : at.0 ≡ 0 = first_place (IsParent es) s es t at.0 x at.1 few in
    let items : c.reverse.new.self.items ≡ reverse (c.loop-entry.path.items ++ x.state ∷ []) =
    c.reverse.ensures.items ∙ ap reverse c.in_ok-push-2.ensures.items in
    subst (λ l. IsPath (IsParent es) s e.state l × (length l ≡ e.moves + 1)) (sym items)
    (behind_all es s t e x c.loop-entry.path.items (subst (λ i. slice_get es i ≡ Some x) first at.1)
    (c.loop-entry.invariant.behind s e t h))
