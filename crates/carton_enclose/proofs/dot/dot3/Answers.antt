use Rattle.std.proofs.Common.{◌≡◌, ℤ, pos, ◌+ℤ◌, ◌*ℤ◌, arith, List, [], ◌∷◌, get_or, to_z, of_z, SFits, subst}
use Rattle.std.specs.Int.{w8}
use Rattle.std.proofs.lemmas.Int.{ints, to_z-of_z}
use Rattle.carton_enclose.specs.Points.{AreSigns, dot}
use Rattle.carton_enclose.proofs.dot.dot3.Goals as goal

parts : (v : List ℤ) (x y z : ℤ) → AreSigns v
    → to_z w8 (of_z w8 (get_or v 0 (pos 0))) *ℤ x +ℤ to_z w8 (of_z w8 (get_or v 1 (pos 0))) *ℤ y
    +ℤ to_z w8 (of_z w8 (get_or v 2 (pos 0))) *ℤ z ≡ dot v x y z
parts (a ∷ b ∷ c ∷ []) x y z h =
    let p : SFits w8 a = omega (arith, ints, h.0.from, h.0.upto) in
    let q : SFits w8 b = omega (arith, ints, h.1.from, h.1.upto) in
    let r : SFits w8 c = omega (arith, ints, h.2.from, h.2.upto) in
    λ i. to_z-of_z w8 a p i *ℤ x +ℤ to_z-of_z w8 b q i *ℤ y +ℤ to_z-of_z w8 c r i *ℤ z
parts [] x y z h = absurd h
parts (a ∷ []) x y z h = absurd h
parts (a ∷ b ∷ []) x y z h = absurd h
parts (a ∷ b ∷ c ∷ d ∷ v) x y z h = absurd h

pub returns-clause-holds : goal.returns-clause-holds
returns-clause-holds g c = λ n d x y z w m p h.
    let k = c.add-2.ensures.holds n d _ _ w m p
    (c.add.ensures.holds n d _ _ w m p (c.signed-x.ensures.holds n d x w m p h.0)
    (c.signed-y.ensures.holds n d y w m p h.1)) (c.signed-z.ensures.holds n d z w m p h.2) in
    subst (λ s. g.E.Enclose.holds c.add-2.result n d s w) (parts c.args.v x y z c.requires.direction) k
