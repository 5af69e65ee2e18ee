-- What is known of probes that are turned into the world says whether the flap is held.
use Rattle.std.proofs.Common.{◌≡◌, refl, subst, ℕ, ◌^◌, List, Bool, Option, None, Some, ℤ, pos, arith}
use Rattle.std.specs.Prelude.{All, IfSome}
use Rattle.std.proofs.lemmas.Int.{ints}
use Rattle.carton_base.specs.declared.bodies.Cuboid.{Cuboid}
use Rattle.carton_base.specs.declared.dieline.Point.{Point}
use Rattle.carton_base.specs.declared.moments.Moment.{Moment}
use Rattle.carton_base.specs.declared.motion.Motion.{Motion}
use Rattle.carton_base.specs.declared.motion.Turn.{Turn}
use Rattle.carton_model.specs.HalfTurns.{Fold}
use Rattle.carton_model.specs.Moves.{fold_at}
use Rattle.carton_model.specs.Turning.{placed}
use Rattle.carton_part.specs.Answers.{IsHalvedMoment}
use Rattle.carton_part.specs.Points.{flat_at}
use Rattle.carton_tree.specs.Trees.{Tree, turns_between}
use Rattle.carton_guide.specs.declared.note.End.{End}
use Rattle.carton_guide.specs.declared.note.End.TheVariants.{Under, Over}
use Rattle.carton_guide.specs.Guides.{IsOnPanel}
use Rattle.carton_guide.specs.Holding.{IsInSome, IsDeepInNone, IsHeldAt, AreLoose, world_place}
use Rattle.carton_guide.specs.Looks.{IsSomeIn, AreNoneDeep}

-- a probe that lies in a body is a point of the flap that does
pub held_by_probe : (t : Tree) (folds : ℕ → Fold) (flap : ℕ) (stroke : List ℤ) (bodies : List Cuboid)
    (chosen : List Bool) (i n d : ℕ) (motion : Motion) (turns : List Turn) (probes : List Point)
    → fold_at motion n d ≡ folds → turns ≡ turns_between t flap t.root → All (IsOnPanel t flap) probes
    → IsSomeIn motion turns probes stroke bodies chosen i n d
    → IsHeldAt t folds flap stroke bodies chosen i n d
held_by_probe t folds flap stroke bodies chosen i n d motion turns probes e f on h =
    let p = h.1 in
    let inside = subst (λ ts. IsInSome stroke bodies chosen i n d (placed folds ts (flat_at p.x p.y (pos 1))))
    f (subst (λ g. IsInSome stroke bodies chosen i n d (placed g turns (flat_at p.x p.y (pos 1)))) e
    h.4) in (
      world_place t folds flap p,
      record {
        x = p.x;
        y = p.y;
        w = pos 1;
        positive = omega (arith, ints);
        inside = subst (IsOnPanel t flap) h.3 (on h.0 p h.2);
        at = refl;
      },
      inside,
    )

pub loose_by_probes : (t : Tree) (folds : ℕ → Fold) (flap : ℕ) (gap : ℤ) (stroke : List ℤ)
    (bodies : List Cuboid) (chosen : List Bool) (i n d : ℕ) (motion : Motion) (turns : List Turn)
    (probes : List Point)
    → fold_at motion n d ≡ folds → turns ≡ turns_between t flap t.root
    → AreNoneDeep motion turns probes gap stroke bodies chosen i n d
    → AreLoose t folds flap probes gap stroke bodies chosen i n d
loose_by_probes t folds flap gap stroke bodies chosen i n d motion turns probes e f h =
    subst (λ ts.
    All (λ (p : Point). IsDeepInNone gap stroke bodies chosen i n d
    (placed folds ts (flat_at p.x p.y (pos 1)))) probes) f
    (subst (λ g.
    All (λ (p : Point). IsDeepInNone gap stroke bodies chosen i n d
    (placed g turns (flat_at p.x p.y (pos 1)))) probes) e h)

-- what holds at a halved moment implies what follows from it
pub at_halved : (m : Moment) (P Q : ℕ → ℕ → Type 0) → ((n d : ℕ) → P n d → Q n d) → IsHalvedMoment m P
    → IsHalvedMoment m Q
at_halved m P Q f h = record {
  n = h.n;
  depth = h.depth;
  shallow = h.shallow;
  num = h.num;
  den = h.den;
  moment = h.moment;
  there = f h.n (2 ^ h.depth) h.there;
}

pub if_some : {X : Type 0} (o : Option X) (P Q : X → Type 0) → ((x : X) → P x → Q x) → IfSome o P → IfSome o Q
if_some None P Q f h = h
if_some (Some x) P Q f h = f x h

pub both_ends : (P : End → Type 0) → P Under → P Over → (end : End) → P end
both_ends P p q Under = p
both_ends P p q Over = q
