use Rattle.std.proofs.Common.{◌≡◌, Bool, true, false, cond, sym, subst, SFits, to_z-of_z, arith}
use Rattle.std.proofs.lemmas.Int.{fits_signed_from_abs}
use Rattle.std.specs.Int.{w8, w32}
use Rattle.carton_model.specs.Parting.{Position}
use Rattle.carton_model.specs.Turning.{Angle, with_side, turned_about, turned_by, exchanged}
use Rattle.carton_base.specs.declared.motion.Turn.{Turn}
use Rattle.carton_place.specs.Held.{HoldsPosition}
use Rattle.carton_place.proofs.Numbers.{same_spread}
use Rattle.carton_place.proofs.turns.turn_once.Goals as goal

turned_at : (t : Turn) (a : Angle) (q : Position) (b : Bool) → t.upright ≡ b
    → turned_by t a q
    ≡ cond b (turned_about t.at (with_side t.sign a) q) (exchanged
    (turned_about t.at (with_side t.sign a) (exchanged q)))
unfolding turned_by
turned_at t a q b e =
    λ i. cond (e i) (turned_about t.at (with_side t.sign a) q)
    (exchanged (turned_about t.at (with_side t.sign a) (exchanged q)))

pub returns-then-turn-clause-holds : goal.returns-then-turn-clause-holds
returns-then-turn-clause-holds g c = λ n d a q m ha hq.
    let at : SFits w32 c.args.turn.now.at = fits_signed_from_abs w32 c.args.turn.now.at
    (omega (arith, c.requires.turn.near)) in
    let sign : SFits w8 c.args.turn.now.sign = fits_signed_from_abs w8 c.args.turn.now.sign
    (omega (arith, c.args.turn.now.signed)) in
    let held =
    simp to_z-of_z at
    (c.turn_about.ensures.holds n d _ q m
    (c.on_side-ratio.ensures.holds n d a m (c.ratio_of.ensures.holds n d a m ha)) hq) in
    subst (HoldsPosition g.E.Enclose.holds c.turn_about.result n d)
    (sym (turned_at c.args.turn.now a q true c.if-turn.true)) held

pub returns-then-turn-clause-spread : goal.returns-then-turn-clause-spread
returns-then-turn-clause-spread g c =
    λ e h. c.turn_about.ensures.spread e (c.on_side-ratio.ensures.spread e (c.ratio_of.ensures.spread e h))

pub returns-clause-holds : goal.returns-clause-holds
returns-clause-holds g c = λ n d a q m ha hq.
    let at : SFits w32 c.args.turn.now.at = fits_signed_from_abs w32 c.args.turn.now.at
    (omega (arith, c.requires.turn.near)) in
    let sign : SFits w8 c.args.turn.now.sign = fits_signed_from_abs w8 c.args.turn.now.sign
    (omega (arith, c.args.turn.now.signed)) in
    let held =
    simp to_z-of_z at
    (c.turn_about-2.ensures.holds n d _ _ m
    (c.on_side-ratio.ensures.holds n d a m (c.ratio_of.ensures.holds n d a m ha))
    (c.exchange.ensures.holds n d q hq)) in
    subst (HoldsPosition g.E.Enclose.holds c.exchange-2.result n d)
    (sym (turned_at c.args.turn.now a q false c.if-turn.false)) (c.exchange-2.ensures.holds n d _ held)

pub returns-clause-spread : goal.returns-clause-spread
returns-clause-spread g c = λ e h.
    let b = c.turn_about-2.ensures.spread e
    (c.on_side-ratio.ensures.spread e (c.ratio_of.ensures.spread e h)) in
    rw c.exchange-2.ensures.spread (same_spread _ _ _ _ _ e c.exchange.ensures.spread c.exchange.ensures.size
    b)
