-- The band of a guide in stops of the grid.
use Rattle.std.proofs.Common.{◌≡◌, ◌⊎◌, inl, inr, ℕ, ◌*◌, ◌/◌, ℤ, pos, ◌+ℤ◌, ◌-ℤ◌, subst, sym, arith}
use Rattle.std.proofs.lemmas.Bool.Decides.{nat_tests}
use Rattle.std.proofs.lemmas.Int.{ints}
use Rattle.carton_base.specs.Grid.{IsGrid}
use Rattle.carton_base.specs.declared.motion.State.{State}
use Rattle.carton_model.specs.HalfTurns.{stop_fold}
use Rattle.carton_model.specs.Moves.{IsStop, stop_of}
use Rattle.carton_place.specs.States.{fold_in}
use Rattle.carton_catalogue.specs.Fits.{HasRoomFor}

-- both ends of the band are stops
pub record AreStops (grid band : ℕ) (stop : ℤ) : Type 0 where
  pub under : IsStop grid (stop -ℤ pos (band * grid / 8))
  pub over : IsStop grid (stop +ℤ pos (band * grid / 8))

grids : (g : ℕ) → IsGrid g → (g ≡ 8) ⊎ (g ≡ 16)
grids g h = grind (arith, nat_tests)

on_eight : (band : ℕ) (stop : ℤ) → HasRoomFor band (stop_fold stop 8) → AreStops 8 band stop
on_eight band stop h =
    let under = h.under in
    let over = h.over in
    let stops : band * 8 / 8 ≡ band = omega arith in
    record { under = rw stops (omega (arith, ints, under)); over = rw stops (omega (arith, ints, over)) }

on_sixteen : (band : ℕ) (stop : ℤ) → HasRoomFor band (stop_fold stop 16) → AreStops 16 band stop
on_sixteen band stop h =
    let under = h.under in
    let over = h.over in
    let stops : band * 16 / 8 ≡ band * 2 = omega arith in
    record { under = rw stops (omega (arith, ints, under)); over = rw stops (omega (arith, ints, over)) }

-- where a joint has room for a band, both ends are stops of the state's grid
pub ends_are_stops : (s : State) (k band : ℕ) → HasRoomFor band (fold_in s k)
    → AreStops s.grid band (stop_of s k)
ends_are_stops s k band h = by_grid s.grid (stop_of s k) (grids s.grid s.on_grid) h
  where
    by_grid : (g : ℕ) (stop : ℤ) → (g ≡ 8) ⊎ (g ≡ 16) → HasRoomFor band (stop_fold stop g)
        → AreStops g band stop
    by_grid g stop which room = elim which [
      | inl e ↦
          subst (λ n. AreStops n band stop) (sym e)
          (on_eight band stop (subst (λ n. HasRoomFor band (stop_fold stop n)) e room))
      | inr e ↦
          subst (λ n. AreStops n band stop) (sym e)
          (on_sixteen band stop (subst (λ n. HasRoomFor band (stop_fold stop n)) e room))
    ]
