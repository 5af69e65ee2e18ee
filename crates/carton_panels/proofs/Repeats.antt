-- Places that stand twice in a list.
use Rattle.std.proofs.Common.{◌≡◌, ℕ, ◌<◌, List, length, get_or, sym, ◌∙◌, arith, take}
use Rattle.std.specs.Prelude.{Any}
use Rattle.std.proofs.lemmas.List.{get_or_default, get_or-take, length-take}
use Rattle.carton_base.specs.declared.dieline.Point.{Point}
use Rattle.carton_panels.specs.Panels.{origin, IsRepeating, IsDistinct}

pub repeating_from_any : (ps : List Point) (j : ℕ) → j < length ps
    → Any (λ q. get_or ps j origin ≡ q) (take j ps) → IsRepeating ps
repeating_from_any ps j h a =
    let i : a.0 < j = omega (arith, length-take j ps, a.2) in
    let l : a.0 < length ps = omega (arith, h, i) in
    (a.0, j, i, h, get_or_default ps a.0 origin a.1 l ∙ sym (get_or-take j ps a.0 a.1 i) ∙ a.3 ∙ sym a.4)

pub none_earlier : (ps : List Point) (j : ℕ) → j < length ps
    → ¬ (Any (λ q. get_or ps j origin ≡ q) (take j ps)) → (i : ℕ) → i < j
    → ¬ (get_or ps i origin ≡ get_or ps j origin)
none_earlier ps j h n i l e =
    let m : i < length (take j ps) = omega (arith, length-take j ps, h, l) in
    let k : i < length ps = omega (arith, h, l) in
    let q = get_or ps i origin in
    n (i, q, m, get_or-take j ps i q l ∙ get_or_default ps i q origin k, sym e)

pub distinct_from : (ps : List Point) → ¬ (IsRepeating ps) → IsDistinct ps
distinct_from ps n = λ i j d h l e.
    let k : i < length ps = omega (arith, h, l) in
    n (i, j, h, l, get_or_default ps i origin d k ∙ e ∙ get_or_default ps j d origin l)
