use Rattle.std.proofs.Common.{◌≡◌, ℕ, ◌+◌, ◌<◌, ◌||◌, Bool, true, false, IsTrue, List, length, get_or, refl}
use Rattle.std.proofs.Common.{sym, ap, ◌∙◌, eqb, eqb-true, arith}
use Rattle.std.specs.Prelude.{Contains}
use Rattle.std.proofs.lemmas.Bool.{false≢true}
use Rattle.std.proofs.lemmas.List.{get_or_default}
use Rattle.carton_base.specs.declared.ids.PanelId.{PanelId}
use Rattle.carton_base.proofs.Loops.{NoneBelow, none_more_read}
use Rattle.carton_part.proofs.frames.has_panel.Goals as goal

differs : (a b : ℕ) → eqb a b ≡ false → ¬ (a ≡ b)
differs a b e = grind (arith, e)

-- one edge more was looked at
one_more : (es : List PanelId) (e : PanelId) (i : ℕ) (found here : Bool) → i < length es
    → eqb (get_or es i (record { 0 = 0 })).0 e.0 ≡ here → (IsTrue found → Contains es e)
    → (found ≡ false → NoneBelow (λ (x : PanelId). x.0 ≡ e.0) es i)
    → (IsTrue (found || here) → Contains es e)
    × ((found || here) ≡ false → NoneBelow (λ (x : PanelId). x.0 ≡ e.0) es (i + 1))
one_more es e i true here lt is has none = (λ t. has refl, λ f. absurd (false≢true (sym f)))
one_more es e i false true lt is has none =
    let same : get_or es i (record { 0 = 0 }) ≡ e =
    ap (λ n. record { 0 = n }) (eqb-true (get_or es i (record { 0 = 0 })).0 e.0 is) in
    (λ t. (i, lt, get_or_default es i e (record { 0 = 0 }) lt ∙ same), λ f. absurd (false≢true (sym f)))
one_more es e i false false lt is has none = (
  λ t. absurd (false≢true t),
  λ f. none_more_read (λ (x : PanelId). x.0 ≡ e.0) es i (record { 0 = 0 }) lt
      (differs (get_or es i (record { 0 = 0 })).0 e.0 is) (none refl),
)

pub loop-p-init : goal.loop-p-init
loop-p-init c = (λ t. absurd (false≢true t), λ f j d below. absurd (omega (arith, below)))

pub loop-p-preserved : goal.loop-p-preserved
loop-p-preserved c = one_more c.args.panels.now c.args.panel c.loop-p.p-index c.loop-p.found _
    c.loop-p-test.true refl c.loop-p.invariant.0 c.loop-p.invariant.1

pub returns : goal.returns
returns c = (c.loop-p.invariant.0, λ h. known c.loop-p.found refl h)
  where
    known : (b : Bool) → c.loop-p.found ≡ b → Contains c.args.panels.now c.args.panel → IsTrue c.loop-p.found
    known true e h = e
    known false e h =
        absurd (c.loop-p.invariant.1 e h.0 c.args.panel (omega (arith, h.1, c.loop-p-test.false)) h.1
        (ap (λ (x : PanelId). x.0) h.2))
