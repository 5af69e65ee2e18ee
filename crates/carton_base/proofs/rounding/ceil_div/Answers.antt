use Rattle.std.proofs.Common.{rules, arith, ◌≡◌, ◌∙◌, sym, SFits, pos, ◌+ℤ◌, ◌≢◌, ap, of_z}
use Rattle.std.specs.Int.{w128, int_div_euclid, int_rem_euclid}
use Rattle.std.proofs.lemmas.Int.{ints, to_z-of_z}
use Rattle.std.proofs.lemmas.Grind.{common_steps}
use Rattle.carton_base.proofs.Floors.{div_euclid_whole, div_euclid_rest, unwrapped}
use Rattle.carton_base.proofs.rounding.ceil_div.Goals as goal

pub returns-then-rem_euclid-eq0 : goal.returns-then-rem_euclid-eq0
returns-then-rem_euclid-eq0 c =
    let f : SFits w128 c.div_euclid-low.result = search rules in
    let r = unwrapped int_rem_euclid c.args.a c.args.b c.rem_euclid.result c.ranges.a c.ranges.b
    c.rem_euclid.ensures.value in
    let z : c.rem_euclid.result ≡ pos 0 = omega (arith, ints) in
    rw (
      to_z-of_z w128 c.div_euclid-low.result f,
      unwrapped int_div_euclid c.args.a c.args.b
          c.div_euclid-low.result c.ranges.a c.ranges.b c.div_euclid-low.ensures,
    )
    (div_euclid_whole _ _ c.requires (sym r ∙ z))

pub returns-else-rem_euclid-eq0 : goal.returns-else-rem_euclid-eq0
returns-else-rem_euclid-eq0 c =
    let f : SFits w128 c.div_euclid-low.result = search rules in
    let r = unwrapped int_rem_euclid c.args.a c.args.b c.rem_euclid.result c.ranges.a c.ranges.b
    c.rem_euclid.ensures.value in
    let z : int_rem_euclid c.args.a c.args.b ≢ pos 0 =
    λ n. c.if-rem_euclid-eq0.false (ap (of_z w128) (r ∙ n)) in
    let g : SFits w128 (c.div_euclid-low.result +ℤ pos 1) = grind (arith, ints, common_steps) in
    rw (
      to_z-of_z w128 c.div_euclid-low.result f,
      to_z-of_z w128 _ g,
      unwrapped int_div_euclid c.args.a
          c.args.b c.div_euclid-low.result c.ranges.a c.ranges.b c.div_euclid-low.ensures,
    )
    (div_euclid_rest c.args.a c.args.b c.requires z)
