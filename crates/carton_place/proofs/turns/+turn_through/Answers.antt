use Rattle.std.proofs.Common.{◌≡◌, ℕ, ◌+◌, ◌*◌, ◌^◌, ap, ◌∙◌, sym, arith}
use Rattle.std.proofs.lemmas.Nat.{pow-add}
use Rattle.carton_model.specs.Turning.{IsTurn}
use Rattle.carton_place.specs.Held.{IsSwingWithin}
use Rattle.carton_place.proofs.Steps.{all_first, all_rest, room_left, size_on, spread_on, held_on, none_left}
use Rattle.carton_place.proofs.turns.+turn_through.Goals as goal

-- two to the power of one turn more
doubled : (k n : ℕ) → n + 1 ≡ k → 2 ^ k ≡ 2 * 2 ^ n
doubled k n e = let p = pow-add 2 n 1 in ap (λ m. 2 ^ m) (sym e) ∙ omega (arith, p)

pub returns-in_default-clause-holds : goal.returns-in_default-clause-holds
returns-in_default-clause-holds g t c = λ n d angles q m h k. none_left g.E.Enclose.holds c.args.turns.now
    c.args.p n d angles q c.in_default.ensures.cases k

pub turn_once-requires-clause-turn : goal.turn_once-requires-clause-turn
turn_once-requires-clause-turn g t c = all_first IsTurn _ _ _ c.in-Some.ensures.cases.0 c.requires.turns

pub turn_through-requires : goal.turn_through-requires
turn_through-requires g t c κs within = (
  omega (arith, c.decreases, c.in-Some.ensures.cases.1),
  (
    within,
    (
      all_rest IsTurn _ _ _ c.in-Some.ensures.cases.0 c.requires.turns,
      (
        omega (arith, c.in-Some.ensures.cases.1, c.in-Some-split_first.ensures.cases.1, c.requires.one_each),
        room_left _ _ _ _ _ _ (doubled _ _ c.in-Some.ensures.cases.1) c.turn_once.ensures.size
            c.requires.room,
      ),
    ),
  ),
)

pub returns-clause-holds : goal.returns-clause-holds
returns-clause-holds g t c = λ n d angles q m h k.
    held_on g.E.Enclose.holds _ _ c.in-Some.turn.now _ _ c.in-Some-split_first.swing.now c.turn_once.result _
    n d angles q c.in-Some.ensures.cases.0 c.in-Some-split_first.ensures.cases.0 h
    (λ a f. c.turn_once.ensures.holds n d a q m f k) (λ bs s f. c.turn_through.ensures.holds n d bs s m f)

pub returns-clause-size : goal.returns-clause-size
returns-clause-size g t c =
    size_on _ _ _ _ _ _ (doubled _ _ c.in-Some.ensures.cases.1) c.turn_once.ensures.size
    c.turn_through.ensures.size

pub returns-clause-spread : goal.returns-clause-spread
returns-clause-spread g t c = λ e h.
    let first = all_first (IsSwingWithin e) _ _ _ c.in-Some-split_first.ensures.cases.0 h in
    let rest = all_rest (IsSwingWithin e) _ _ _ c.in-Some-split_first.ensures.cases.0 h in
    spread_on _ _ _ _ _ _ _ _ e c.in-Some.ensures.cases.1 (doubled _ _ c.in-Some.ensures.cases.1)
    (c.turn_once.ensures.spread e first) c.requires.room (c.turn_through.ensures.spread e rest)
