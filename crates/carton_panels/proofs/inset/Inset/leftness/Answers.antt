use Rattle.std.proofs.Common.{rules, ◌∙◌, ◌≡◌, get_or, SFits, ap, List}
use Rattle.std.specs.Int.{w128}
use Rattle.std.proofs.lemmas.Int.{to_z-of_z}
use Rattle.carton_base.specs.declared.dieline.Point.{Point}
use Rattle.carton_panels.specs.Panels.{Side, sides_of, leftness}
use Rattle.carton_panels.specs.Insets.{inset}
use Rattle.carton_panels.proofs.Keeping.{inset_no_margin}
use Rattle.carton_panels.proofs.inset.Inset.leftness.Goals as goal

pub returns : goal.returns
returns c = λ d.
    let f : SFits w128 c.gap.result = search rules in
    let v = c.vertex.result in
    let e = c.vertex.ensures in
    let p = c.args.place in
    let s : Side = get_or (sides_of c.args.self.places.now) c.args.k d in
    let moved : c.gap.result ≡ inset c.bare.result.margin (get_or (sides_of c.bare.result.places.now) c.args.k
    d) v.x v.y v.w = c.gap.ensures d in
    let g : c.gap.result ≡ inset 0 s v.x v.y v.w = moved
    ∙ ap (λ m. inset m (get_or (sides_of c.bare.result.places.now) c.args.k d) v.x v.y
    v.w) c.bare.ensures.margin
    ∙ ap (λ (ps : List Point). inset 0 (get_or (sides_of ps) c.args.k d) v.x v.y
    v.w) c.bare.ensures.places in
    simp to_z-of_z (g ∙ inset_no_margin s v.x v.y v.w ∙ ap (λ x. leftness s x v.y v.w) e.x
    ∙ ap (λ y. leftness s p.x y v.w) e.y ∙ ap (λ w. leftness s p.x p.y w) e.w)
