use Rattle.std.proofs.Common.{rules, ◌≡◌, subst, get_or, ◌-ℤ◌, ◌*ℤ◌}
use Rattle.std.proofs.lemmas.Int.{to_z-of_z}
use Rattle.carton_panels.specs.Panels.{sides_of}
use Rattle.carton_panels.specs.Crossings.{IsPointOf}
use Rattle.carton_panels.proofs.Crossed.{crossing_from_lines}
use Rattle.carton_panels.proofs.crossings.crossing_at.Goals as goal

pub returns : goal.returns
returns c = λ d.
    let s = c.line-first.result in
    let t = c.line-second.result in
    let x : c.determinant-x.result ≡ s.e *ℤ t.b -ℤ t.e *ℤ s.b =
    grind (rules, to_z-of_z, c.determinant-x.ensures.value) in
    let y : c.determinant-y.result ≡ t.e *ℤ s.a -ℤ s.e *ℤ t.a =
    grind (rules, to_z-of_z, c.determinant-y.ensures.value) in
    let w : c.determinant-w.result ≡ s.a *ℤ t.b -ℤ t.a *ℤ s.b =
    grind (rules, to_z-of_z, c.determinant-w.ensures.value) in
    let r = c.point.result in
    let p0 : IsPointOf c.determinant-x.result c.determinant-y.result c.determinant-w.result r =
    grind (rules, to_z-of_z, c.point.ensures) in
    let p1 = subst (λ n. IsPointOf n c.determinant-y.result c.determinant-w.result r) x p0 in
    let p2 = subst (λ n. IsPointOf (s.e *ℤ t.b -ℤ t.e *ℤ s.b) n c.determinant-w.result r) y p1 in
    let p3 = subst (λ n. IsPointOf (s.e *ℤ t.b -ℤ t.e *ℤ s.b) (t.e *ℤ s.a -ℤ s.e *ℤ t.a) n r) w p2 in
    crossing_from_lines c.args.face.margin (get_or (sides_of c.args.face.places.now) c.args.i d)
    (get_or (sides_of c.args.face.places.now) c.args.j d) r s.a s.b s.e t.a t.b t.e
    (c.line-first.ensures d) (c.line-second.ensures d) p3
