use Rattle.std.proofs.Common.{rules, ◌≡◌, ◌∙◌, ◌+ℤ◌, SFits}
use Rattle.std.specs.Int.{w32, w128}
use Rattle.std.proofs.lemmas.Int.{to_z-of_z}
use Rattle.carton_bodies.proofs.Extended.{sign_at, sign_fits_at}
use Rattle.carton_bodies.proofs.extent.ends_along.Goals as goal

pub signed_ends-y-requires : goal.signed_ends-y-requires
signed_ends-y-requires c =
    let s = sign_at c.args.v c.requires 1 in
    let f = sign_fits_at c.args.v c.requires 1 in
    simp to_z-of_z s

pub signed_ends-z-requires : goal.signed_ends-z-requires
signed_ends-z-requires c =
    let s = sign_at c.args.v c.requires 2 in
    let f = sign_fits_at c.args.v c.requires 2 in
    simp to_z-of_z s

pub returns-clause-ends : goal.returns-clause-ends
returns-clause-ends c =
    let b = c.args.shape.now in
    let x = c.signed_ends-x in
    let y = c.signed_ends-y in
    let z = c.signed_ends-z in
    let u = sign_fits_at c.args.v c.requires 0 in
    let v = sign_fits_at c.args.v c.requires 1 in
    let s = sign_fits_at c.args.v c.requires 2 in
    let x0 : SFits w32 b.x0 = search rules in
    let x1 : SFits w32 b.x1 = search rules in
    let y0 : SFits w32 b.y0 = search rules in
    let y1 : SFits w32 b.y1 = search rules in
    let z0 : SFits w32 b.z0 = search rules in
    let z1 : SFits w32 b.z1 = search rules in
    let xl : SFits w128 x.result.least = search rules in
    let yl : SFits w128 y.result.least = search rules in
    let zl : SFits w128 z.result.least = search rules in
    let xg : SFits w128 x.result.greatest = search rules in
    let yg : SFits w128 y.result.greatest = search rules in
    let zg : SFits w128 z.result.greatest = search rules in
    let tl : SFits w128 c.total.result = search rules in
    let tg : SFits w128 c.total-2.result = search rules in
    let lx = simp to_z-of_z at x.ensures.least in
    let ly = simp to_z-of_z at y.ensures.least in
    let lz = simp to_z-of_z at z.ensures.least in
    let gx = simp to_z-of_z at x.ensures.greatest in
    let gy = simp to_z-of_z at y.ensures.greatest in
    let gz = simp to_z-of_z at z.ensures.greatest in
    let least : c.total.result ≡ x.result.least +ℤ y.result.least +ℤ z.result.least =
    simp to_z-of_z at c.total.ensures.value in
    let greatest : c.total-2.result ≡ x.result.greatest +ℤ y.result.greatest +ℤ z.result.greatest =
    simp to_z-of_z at c.total-2.ensures.value in
    simp to_z-of_z (record {
      least = least ∙ (λ i. (lx i +ℤ ly i) +ℤ lz i);
      greatest = greatest ∙ (λ i. (gx i +ℤ gy i) +ℤ gz i);
    })
