use Rattle.std.proofs.Common.{◌≡◌, ◌∙◌, ap, [], ◌∷◌, SFits, ℤ, ◌+ℤ◌, neg_ℤ, pos, negsuc, arith}
use Rattle.std.specs.Int.{w32}
use Rattle.std.proofs.lemmas.Int.{ints, to_z-of_z}
use Rattle.carton_bodies.specs.Boxes.{side}
use Rattle.carton_bodies.proofs.half_space.faces_of.Goals as goal

none_less : (z : ℤ) → pos 0 +ℤ neg_ℤ z ≡ neg_ℤ z
none_less z = omega (arith, ints)

pub returns : goal.returns
returns c =
    let b = c.args.body.now in
    let x0 : SFits w32 b.x0 = omega (arith, ints, c.requires.x0) in
    let x1 : SFits w32 b.x1 = omega (arith, ints, c.requires.x1) in
    let y0 : SFits w32 b.y0 = omega (arith, ints, c.requires.y0) in
    let y1 : SFits w32 b.y1 = omega (arith, ints, c.requires.y1) in
    let z0 : SFits w32 b.z0 = omega (arith, ints, c.requires.z0) in
    let z1 : SFits w32 b.z1 = omega (arith, ints, c.requires.z1) in
    let nx0 : SFits w32 (pos 0 +ℤ neg_ℤ b.x0) = omega (arith, ints, c.requires.x0) in
    let ny0 : SFits w32 (pos 0 +ℤ neg_ℤ b.y0) = omega (arith, ints, c.requires.y0) in
    let nz0 : SFits w32 (pos 0 +ℤ neg_ℤ b.z0) = omega (arith, ints, c.requires.z0) in
    let e1 = simp to_z-of_z at c.face_of.ensures in
    let e2 = simp to_z-of_z at c.face_of-2.ensures ∙ ap (side (negsuc 0) (pos 0) (pos 0)) (none_less b.x0) in
    let e3 = simp to_z-of_z at c.face_of-3.ensures in
    let e4 = simp to_z-of_z at c.face_of-4.ensures ∙ ap (side (pos 0) (negsuc 0) (pos 0)) (none_less b.y0) in
    let e5 = simp to_z-of_z at c.face_of-5.ensures in
    let e6 = simp to_z-of_z at c.face_of-6.ensures ∙ ap (side (pos 0) (pos 0) (negsuc 0)) (none_less b.z0) in
    λ i. e1 i ∷ e2 i ∷ e3 i ∷ e4 i ∷ e5 i ∷ e6 i ∷ []
