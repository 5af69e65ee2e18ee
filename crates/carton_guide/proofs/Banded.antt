-- A move with one joint at an end of its band is a move.
use Rattle.std.proofs.Common.{◌≡◌, sym, subst, inl, inr, ℕ, nat_eq, cond, ℤ, arith}
use Rattle.std.proofs.lemmas.Bool.{cases_Bool, eqb-true}
use Rattle.std.proofs.lemmas.Int.{ints}
use Rattle.carton_base.specs.declared.limits.TheConstants.{MOST_JOINTS, WIDEST_STEP}
use Rattle.carton_base.specs.declared.motion.Motion.{Motion}
use Rattle.carton_base.specs.declared.motion.State.{State}
use Rattle.carton_text.specs.PlanMoves.{IsStrideFrom}
use Rattle.carton_model.specs.Moves.{IsState, IsStop, IsStep, IsMotion, stop_of}
use Rattle.carton_guide.specs.declared.note.End.{End}
use Rattle.carton_guide.specs.declared.note.End.TheVariants.{Under, Over}
use Rattle.carton_guide.specs.Bands.{band_stops, shifted, banded_stop}
use Rattle.carton_guide.specs.Guides.{HasBandAt}

stop_at_end : (end : End) (band place : ℕ) (s : State) (k : ℕ) → IsStop s.grid (stop_of s k)
    → HasBandAt band place s → IsStop s.grid (banded_stop end band place s k)
stop_at_end end band place s k stop has = elim (cases_Bool (nat_eq k place)) [
  | inl same ↦
      subst (λ b. IsStop s.grid (cond b (shifted end (band_stops s.grid band) (stop_of s k)) (stop_of s k)))
      (sym same)
      (subst (λ j. IsStop s.grid (shifted end (band_stops s.grid band) (stop_of s j)))
      (sym (eqb-true k place same)) (has end))
  | inr other ↦
      subst (λ b. IsStop s.grid (cond b (shifted end (band_stops s.grid band) (stop_of s k)) (stop_of s k)))
      (sym other) stop
]

-- the state with its joint at the end, whose grid and stops these are
banded_state : (end : End) (band place : ℕ) (s b : State) → IsState MOST_JOINTS s → HasBandAt band place s
    → b.grid ≡ s.grid → ((k : ℕ) → stop_of b k ≡ banded_stop end band place s k) → IsState MOST_JOINTS b
banded_state end band place s b h has grid stops = record {
  stops = λ k l. let t = stop_at_end end band place s k (h.stops k l) has in let e = stops k in
      omega (arith, ints, t, e, grid);
  others = λ k u l. absurd (omega (arith, u, l));
}

shifted_step : (end : End) (by : ℕ) (s t : ℤ) → IsStep s t → IsStep (shifted end by s) (shifted end by t)
shifted_step Under by s t h = omega (arith, ints, h)
shifted_step Over by s t h = omega (arith, ints, h)

step_at_end : (end : End) (band place : ℕ) (s r : State) (k : ℕ) → r.grid ≡ s.grid
    → IsStep (stop_of s k) (stop_of r k)
    → IsStep (banded_stop end band place s k) (banded_stop end band place r k)
step_at_end end band place s r k grid h = elim (cases_Bool (nat_eq k place)) [
  | inl same ↦
      subst (λ b. IsStep (cond b (shifted end (band_stops s.grid band) (stop_of s k)) (stop_of s k))
      (cond b (shifted end (band_stops r.grid band) (stop_of r k)) (stop_of r k))) (sym same)
      (subst (λ g. IsStep (shifted end (band_stops s.grid band) (stop_of s k))
      (shifted end (band_stops g band) (stop_of r k))) (sym grid)
      (shifted_step end (band_stops s.grid band) (stop_of s k) (stop_of r k) h))
  | inr other ↦
      subst (λ b. IsStep (cond b (shifted end (band_stops s.grid band) (stop_of s k)) (stop_of s k))
      (cond b (shifted end (band_stops r.grid band) (stop_of r k)) (stop_of r k))) (sym other) h
]

pub banded_motion : (end : End) (band place : ℕ) (s r : State) (m : Motion) → IsState MOST_JOINTS s
    → IsState MOST_JOINTS r → r.grid ≡ s.grid → IsStrideFrom MOST_JOINTS WIDEST_STEP s r
    → HasBandAt band place s → HasBandAt band place r
    → m.from.grid ≡ s.grid → ((k : ℕ) → stop_of m.from k ≡ banded_stop end band place s k)
    → m.to.grid ≡ r.grid → ((k : ℕ) → stop_of m.to k ≡ banded_stop end band place r k)
    → IsMotion MOST_JOINTS m
banded_motion end band place s r m hs hr grid steps bs br gs es gr er = record {
  from = banded_state end band place s m.from hs bs gs es;
  to = banded_state end band place r m.to hr br gr er;
  steps = λ k l. let t = step_at_end end band place s r k grid (steps k l) in let e = es k in let f = er k in
      omega (arith, ints, t, e, f);
}
