use Rattle.std.proofs.Common.{ℕ, ◌+◌, ◌≡◌, ◌∙◌, ap, sym, refl, get_or, arith}
use Rattle.carton_panels.specs.Around.{Step}
use Rattle.carton_panels.proofs.Steps.{step_at}
use Rattle.carton_tree.proofs.sides.side_at.Goals as goal
use Rattle.carton_tree.proofs.sides.side_at.Goals.{then-i-vertices, else-i-vertices}

pub returns : goal.returns
returns c = λ d.
    let vs = c.args.vertices.now in
    let i = c.args.i in
    let side : ℕ → Step ℕ = λ m. record { from = get_or vs i 0; to = m } in
    let step : (n : ℕ) → get_or vs n 0 ≡ c.if-i-vertices.next → side (get_or vs n 0)
    ≡ side c.if-i-vertices.next = λ n e. ap side e in
    elim c.if-i-vertices.branch [
      | then-i-vertices w ↦
          step_at vs i (i + 1) d 0 c.requires (λ h. refl)
          (λ e. absurd (omega (arith, e, w.if-i-vertices.true))) ∙ step (i + 1) (sym w.next-is)
      | else-i-vertices w ↦
          step_at vs i 0 d 0 c.requires (λ h. absurd (omega (arith, h, w.if-i-vertices.false))) (λ e. refl)
          ∙ step 0 (sym w.next-is)
    ]
