use Rattle.std.proofs.Common.{ℕ, ◌+◌, ◌*◌, ◌^◌, ◌<◌, ◌≤◌, arith}
use Rattle.std.proofs.lemmas.Nat.{mul-le}
use Rattle.carton_enclose.proofs.turning.turn_pair.Goals as goal

-- the size t of a sum of two products of sizes a and b, by the greatest factor m
size_of_pair : (u t a b c s r z m : ℕ) → t ≤ a + b → a * u ≤ c * r + u → b * u ≤ s * z + u → c ≤ m → s ≤ m
    → t * u ≤ m * (r + z) + 2 * u
size_of_pair u t a b c s r z m h p q cm sm =
    omega (
      arith,
      mul-le t u (a + b) u h (omega arith),
      mul-le c r m r cm (omega arith),
      mul-le s z m z sm
          (omega arith),
      p,
      q,
    )

-- fc, fs, fr and fz are the spreads, e and k the greatest size and spread of the two factors
spread_of_pair : (u t a b c s r z fc fs fr fz e k : ℕ) → t ≤ a + b → a * u ≤ c * fr + r * fc + 2 * u
    → b * u ≤ s * fz + z * fs + 2 * u → c ≤ e → s ≤ e → fc ≤ k → fs ≤ k
    → t * u ≤ e * (fr + fz) + k * (r + z) + 4 * u
spread_of_pair u t a b c s r z fc fs fr fz e k h p q ce se ck sk =
    omega (
      arith,
      mul-le t u (a + b) u h (omega arith),
      mul-le c fr e fr ce (omega arith),
      mul-le s fz e fz se
          (omega arith),
      mul-le r fc r k (omega arith) ck,
      mul-le z fs z k (omega arith) sk,
      p,
      q,
    )

pub returns-clause-first_holds : goal.returns-clause-first_holds
returns-clause-first_holds g c = λ n d x y c' s v w m p q hc hs hr hz.
    let vw : 0 < v * w = grind arith in
    c.sub.ensures.holds n d _ _ (v * w) m vw (c.scaled-cr.ensures.holds n d c' x v w m p q hc hr)
    (c.scaled-sz.ensures.holds n d s y v w m p q hs hz)

pub returns-clause-second_holds : goal.returns-clause-second_holds
returns-clause-second_holds g c = λ n d x y c' s v w m p q hc hs hr hz.
    let vw : 0 < v * w = grind arith in
    c.add.ensures.holds n d _ _ (v * w) m vw (c.scaled-sr.ensures.holds n d s x v w m p q hs hr)
    (c.scaled-cz.ensures.holds n d c' y v w m p q hc hz)

pub returns-clause-first_size : goal.returns-clause-first_size
returns-clause-first_size g c =
    size_of_pair (2 ^ 40) _ _ _ _ _ _ _ _ c.sub.ensures.size c.scaled-cr.ensures.size c.scaled-sz.ensures.size
    (omega arith) (omega arith)

pub returns-clause-second_size : goal.returns-clause-second_size
returns-clause-second_size g c =
    size_of_pair (2 ^ 40) _ _ _ (g.E.Enclose.size c.args.sin) (g.E.Enclose.size c.args.cos) _ _ _
    c.add.ensures.size c.scaled-sr.ensures.size c.scaled-cz.ensures.size (omega arith) (omega arith)

pub returns-clause-first_spread : goal.returns-clause-first_spread
returns-clause-first_spread g c =
    let E = g.E.Enclose in
    spread_of_pair (2 ^ 40) _ _ _ (E.size c.args.cos) (E.size c.args.sin) (E.size c.args.r) (E.size c.args.z)
    (E.spread c.args.cos) (E.spread c.args.sin) (E.spread c.args.r) (E.spread c.args.z) _ _
    c.sub.ensures.spread c.scaled-cr.ensures.spread c.scaled-sz.ensures.spread (omega arith) (omega arith)
    (omega arith) (omega arith)

pub returns-clause-second_spread : goal.returns-clause-second_spread
returns-clause-second_spread g c =
    let E = g.E.Enclose in
    spread_of_pair (2 ^ 40) _ _ _ (E.size c.args.sin) (E.size c.args.cos) (E.size c.args.r) (E.size c.args.z)
    (E.spread c.args.sin) (E.spread c.args.cos) (E.spread c.args.r) (E.spread c.args.z) _ _
    c.add.ensures.spread c.scaled-sr.ensures.spread c.scaled-cz.ensures.spread (omega arith) (omega arith)
    (omega arith) (omega arith)
