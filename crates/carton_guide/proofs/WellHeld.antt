-- A flap that is well held isn't told as loose, and what is loose in some bodies is so in fewer.
use Rattle.std.proofs.Common.{subst, ℕ, ◌^◌, List, Bool, ℤ}
use Rattle.carton_base.specs.declared.bodies.Cuboid.{Cuboid}
use Rattle.carton_base.specs.declared.bodies.Guide.{Guide}
use Rattle.carton_base.specs.declared.dieline.Point.{Point}
use Rattle.carton_base.specs.declared.moments.Moment.{Moment}
use Rattle.carton_base.specs.declared.motion.State.{State}
use Rattle.carton_model.specs.HalfTurns.{Fold}
use Rattle.carton_tree.specs.Trees.{Tree}
use Rattle.carton_guide.specs.declared.note.End.{End}
use Rattle.carton_guide.specs.Bands.{banded_folds}
use Rattle.carton_guide.specs.Holding.{IsChosen, IsDeepInNone, AreLoose, IsOneDeep, world_place}
use Rattle.carton_guide.specs.Notes.{IsWellHeld, IsLooseAt}
use Rattle.carton_guide.proofs.Flaps.{one_flap}
use Rattle.carton_guide.proofs.Probes.{at_halved}

not_both : (t : Tree) (folds : ℕ → Fold) (flap : ℕ) (probes : List Point) (gap : ℤ) (stroke : List ℤ)
    (bodies : List Cuboid) (chosen : List Bool) (i n d : ℕ)
    → AreLoose t folds flap probes gap stroke bodies chosen i n d
    → IsOneDeep t folds flap probes gap stroke bodies chosen i n d → ⊥
not_both t folds flap probes gap stroke bodies chosen i n d loose deep =
    let in' = deep.4 in
    subst (λ p. IsDeepInNone gap stroke bodies chosen i n d (world_place t folds flap p)) deep.3
    (loose deep.0 deep.1 deep.2) in'.0 in'.1 in'.2 in'.3

pub loose_not_well : (t : Tree) (states : List State) (g : Guide) (stroke : List ℤ) (bodies : List Cuboid)
    (chosen : List Bool) (gap : ℤ) (end : End) (i : ℕ) (m : Moment)
    → IsLooseAt t states g stroke bodies chosen gap end i m → IsWellHeld t states g stroke bodies chosen gap
    → ⊥
loose_not_well t states g stroke bodies chosen gap end i m loose well =
    let same = one_flap t g.edge.0 well.0 well.1 loose.0 loose.1 well.2 loose.2 in
    let during = loose.4 in
    let s = during.0 in
    let r = during.1 in
    let h = during.3 in
    let n = h.n in
    let d = 2 ^ h.depth in
    let deep = well.3 i s r end loose.3 during.2 n d h.moment in
    not_both t (banded_folds end g.band loose.1 s r n d) loose.0 g.probes gap stroke bodies chosen i n d
    h.there
    (subst (λ place. IsOneDeep t (banded_folds end g.band place s r n d) loose.0 g.probes gap stroke bodies
    chosen i n d) same.1
    (subst (λ flap. IsOneDeep t (banded_folds end g.band well.1 s r n d) flap g.probes gap stroke bodies
    chosen i n d) same.0 deep))

-- where fewer bodies are chosen
pub loose_by_fewer : (t : Tree) (states : List State) (g : Guide) (stroke : List ℤ) (bodies : List Cuboid)
    (chosen fewer : List Bool) (gap : ℤ) (end : End) (i : ℕ) (m : Moment)
    → ((k : ℕ) (body : Cuboid) → IsChosen bodies fewer k body → IsChosen bodies chosen k body)
    → IsLooseAt t states g stroke bodies chosen gap end i m
    → IsLooseAt t states g stroke bodies fewer gap end i m
loose_by_fewer t states g stroke bodies chosen fewer gap end i m less loose =
    let during = loose.4 in (
      loose.0,
      loose.1,
      loose.2,
      loose.3,
      (
        during.0,
        during.1,
        during.2,
        at_halved m _ _
            (λ n d h j p l k body c. h j p l k body (less k body c)) during.3,
      ),
    )
