use Rattle.std.proofs.Common.{◌≡◌, ◌+◌, List, [], ◌∷◌, ◌++◌, take, sym, ◌∙◌, ap, subst}
use Rattle.std.proofs.lemmas.List.{take_more}
use Rattle.carton_base.specs.declared.numbers.Triple.{Triple}
use Rattle.carton_tree.specs.Cartons.{AreStarts}
use Rattle.carton_tree.proofs.Keeping.{starts_more}
use Rattle.carton_tree.proofs.carton.starts_of.Goals as goal

pub loop-point-preserved : goal.loop-point-preserved
loop-point-preserved c =
    let ts : List Triple = c.args.points.now in
    let k = c.loop-point.point-index in
    let t : Triple = c.point-item.result in
    let ss = c.loop-point.starts.items in
    let more : take (k + 1) ts ≡ take k ts ++ t ∷ [] = take_more ts k t c.loop-point-test.true
    ∙ ap (λ (x : Triple). take k ts ++ x ∷ []) (sym c.point-item.is) in
    rw c.in_ok-push.ensures.items (subst (λ (x : List Triple). AreStarts x (ss ++ c.start_of.result ∷ []))
    (sym more) (starts_more (take k ts) ss t c.start_of.result c.loop-point.invariant c.start_of.ensures))
