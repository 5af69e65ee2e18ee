-- More bodies hold what fewer hold, and where no probe is deep in more bodies none is in fewer.
use Rattle.std.proofs.Common.{ℕ, ℤ, pos, Bool, List}
use Rattle.carton_base.specs.declared.bodies.Cuboid.{Cuboid}
use Rattle.carton_base.specs.declared.bodies.Guide.{Guide}
use Rattle.carton_base.specs.declared.moments.Moment.{Moment}
use Rattle.carton_base.specs.declared.motion.State.{State}
use Rattle.carton_tree.specs.Trees.{Tree}
use Rattle.carton_text.specs.declared.plan.Plan.{Plan}
use Rattle.carton_guide.specs.declared.note.End.{End}
use Rattle.carton_guide.specs.Holding.{IsChosen}
use Rattle.carton_guide.specs.Notes.{IsHeld, IsLooseAt}
use Rattle.carton_fixture.specs.declared.answers.UnheldEnd.{UnheldEnd}
use Rattle.carton_fixture.specs.Fixtures.{HoldAll, IsUnheld}

-- each chosen box of the one list is a chosen box of the other
abbrev pub AreAmong : List Cuboid → List Bool → List Cuboid → List Bool → Type 0
AreAmong boxes chosen more picked = (k : ℕ) (b : Cuboid) → IsChosen boxes chosen k b → (j : ℕ)
    × IsChosen more picked j b

pub held_by_more : (t : Tree) (states : List State) (g : Guide) (stroke : List ℤ) (boxes : List Cuboid)
    (chosen : List Bool) (more : List Cuboid) (picked : List Bool) → AreAmong boxes chosen more picked
    → IsHeld t states g stroke boxes chosen → IsHeld t states g stroke more picked
held_by_more t states g stroke boxes chosen more picked among h = (
  h.0,
  h.1,
  h.2,
  λ i s r end w m n d moment.
      let x = h.3 i s r end w m n d moment in
      let y = among x.2.0 x.2.1 x.2.2 in
      (x.0, x.1, (y.0, x.2.1, y.1, x.2.3)),
)

pub loose_in_fewer : (t : Tree) (states : List State) (g : Guide) (stroke : List ℤ) (boxes : List Cuboid)
    (chosen : List Bool) (more : List Cuboid) (picked : List Bool) (gap : ℤ) (end : End) (i : ℕ) (m : Moment)
    → AreAmong boxes chosen more picked → IsLooseAt t states g stroke more picked gap end i m
    → IsLooseAt t states g stroke boxes chosen gap end i m
loose_in_fewer t states g stroke boxes chosen more picked gap end i m among h =
    let at = h.4.3 in (
      h.0,
      h.1,
      h.2,
      h.3,
      (
        h.4.0,
        h.4.1,
        h.4.2,
        record {
          n = at.n;
          depth = at.depth;
          shallow = at.shallow;
          num = at.num;
          den = at.den;
          moment = at.moment;
          there = λ p d lt k b is. let y = among k b is in at.there p d lt y.0 b y.1;
        },
      ),
    )

pub hold_all_by_more : (t : Tree) (plan : Plan) (guides : List Guide) (stroke : List ℤ) (boxes : List Cuboid)
    (chosen : List Bool) (more : List Cuboid) (picked : List Bool) → AreAmong boxes chosen more picked
    → HoldAll t plan guides stroke boxes chosen → HoldAll t plan guides stroke more picked
hold_all_by_more t plan guides stroke boxes chosen more picked among h =
    λ k d lt. held_by_more t plan.states _ stroke boxes chosen more picked among (h k d lt)

pub unheld_in_fewer : (t : Tree) (plan : Plan) (guides : List Guide) (stroke : List ℤ) (boxes : List Cuboid)
    (chosen : List Bool) (more : List Cuboid) (picked : List Bool) (slack : ℕ) (u : UnheldEnd)
    → AreAmong boxes chosen more picked
    → IsUnheld t plan guides stroke more picked slack u → IsUnheld t plan guides stroke boxes chosen slack u
unheld_in_fewer t plan guides stroke boxes chosen more picked slack u among h = (
  h.0,
  h.1,
  loose_in_fewer t plan.states h.0 stroke boxes chosen more picked (pos slack) u.end u.step
      u.moment among h.2,
)
