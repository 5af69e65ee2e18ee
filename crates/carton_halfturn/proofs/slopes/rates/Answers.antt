use Rattle.std.proofs.Common.{rules, refl, inl, inr, ◌≡◌, ◌-ℤ◌, ◌+ℤ◌, SFits, arith, IsTrue, false, neg_ℤ}
use Rattle.std.specs.Int.{w128}
use Rattle.std.proofs.lemmas.Int.{ints, to_z-of_z}
use Rattle.carton_halfturn.specs.Slopes.{IsRate}
use Rattle.carton_halfturn.proofs.Following.{smooth_of, even_of, sized_rate}
use Rattle.carton_halfturn.proofs.slopes.rates.Goals as goal

pub bend-requires : goal.bend-requires
bend-requires c =
    let s = smooth_of c.args.f c.range_of.result.low c.range_of.result.high c.range_of.result.den
    c.range_of.ensures (c.if-is_even.ensures.0 refl) in
    record { near = s.near }

pub returns-then-is_even : goal.returns-then-is_even
returns-then-is_even c =
    let s = smooth_of c.args.f c.range_of.result.low c.range_of.result.high c.range_of.result.den
    c.range_of.ensures (c.if-is_even.ensures.0 refl) in
    let b : SFits w128 c.bend.result = search rules in
    let low : c.change.result.lo ≡ c.args.last.lo -ℤ c.args.first.hi -ℤ c.bend.result =
    simp to_z-of_z at c.change.ensures.low in
    let high : c.change.result.hi ≡ c.args.last.hi -ℤ c.args.first.lo +ℤ c.bend.result =
    simp to_z-of_z at c.change.ensures.high in
    let r : IsRate c.args.f c.args.first c.args.last c.change.result =
    inl record { smooth = s; r = c.bend.result; bend = c.bend.ensures.bend; low = low; high = high } in
    let k = sized_rate _ c.args.first c.args.last _ c.requires.first_tight c.requires.last_tight r in
    record { rate = r; spread = k.0; modest = k.1; within = c.change.ensures.within }

pub returns : goal.returns
returns c =
    let b : SFits w128 c.reach.result = search rules in
    let low : c.either_way.result.lo ≡ neg_ℤ c.reach.result = simp to_z-of_z at c.either_way.ensures.low in
    let high : c.either_way.result.hi ≡ c.reach.result = simp to_z-of_z at c.either_way.ensures.high in
    let r : IsRate c.args.f c.args.first c.args.last c.either_way.result = inr record {
      rough = λ s.
          let e : IsTrue false = c.if-is_even.ensures.1 (even_of _ _ _ _ c.range_of.ensures s) in
          absurd (cc e);
      most = rw high c.reach.ensures.reach;
      low = omega (arith, ints);
    } in
    let k = sized_rate _ c.args.first c.args.last _ c.requires.first_tight c.requires.last_tight r in
    record { rate = r; spread = k.0; modest = k.1; within = c.either_way.ensures.within }
