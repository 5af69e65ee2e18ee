-- `==` of two states says that they are one, and so of two creases.
use Rattle.std.proofs.Common.{◌≡◌, ap, ◌&&◌, refl}
use Rattle.std.specs.Bool.{Decides}
use Rattle.std.specs.Ordering.{int_eq}
use Rattle.std.proofs.lemmas.Bool.Decides.{Decides-and, Decides-like, Decides-eqb, Decides-int_eq}
use Rattle.std.proofs.lemmas.Slice.Eq.{slice_eq-Decides}
use Rattle.carton_base.specs.declared.ids.EdgeId.{EdgeId}
use Rattle.carton_base.specs.declared.motion.State.{State}
use Rattle.carton_text.proofs.OneTask.{same_state}
use lib.Dec.{eqb}
use lib.Pointwise.{pointwise}

pub state_eq-Decides : (a b : State) → Decides (pointwise int_eq a.stops b.stops && eqb a.grid b.grid) (a ≡ b)
state_eq-Decides a b =
    Decides-like _ (λ p. same_state a b p.0 p.1) (λ e. (ap (λ s. s.stops) e, ap (λ s. s.grid) e))
    (Decides-and _ _ (slice_eq-Decides Decides-int_eq a.stops b.stops _ refl) (Decides-eqb a.grid b.grid))

pub crease_eq-Decides : (a b : EdgeId) → Decides (eqb a.0 b.0) (a ≡ b)
crease_eq-Decides a b =
    Decides-like _ (λ e. λ i. record { 0 = e i }) (λ e. ap (λ c. c.0) e) (Decides-eqb a.0 b.0)
