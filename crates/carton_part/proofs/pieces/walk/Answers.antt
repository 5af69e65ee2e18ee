use Rattle.std.proofs.Common.{refl}
use Rattle.carton_part.proofs.Walks.{before_half, before_next, before_whole, at_each, at_first}
use Rattle.carton_part.proofs.Walks.{left_half, left_next, same_all, same_then, within_same}
use Rattle.carton_part.proofs.pieces.walk.Goals as goal

pub loop-after-init : goal.loop-after-init
loop-after-init g c = record {
  before = before_whole _ _ _ c.requires.start;
  same_good = same_all (g.L.Look.good c.args.look.now);
  same_bad = same_all (g.L.Look.bad c.args.look.now);
}

pub loop-after-smaller-in-Some : goal.loop-after-smaller-in-Some
loop-after-smaller-in-Some g c =
    let p = c.loop-after.piece in
    left_next _ _ _ _ c.in-Some.ensures.some p.shallow p.within

pub loop-after-preserved-in-Some : goal.loop-after-preserved-in-Some
loop-after-preserved-in-Some g c =
    let all = c.loop-after.invariant in
    let inside = within_same _ _ _ _ all.same_good (c.in-Good.ensures.good refl) in
    record {
      before = before_next _ _ _ _ _ c.in-Some.ensures.some all.before inside;
      same_good = same_then _ _ _ c.see.ensures.same_good all.same_good;
      same_bad = same_then _ _ _ c.see.ensures.same_bad all.same_bad;
    }

pub returns-in-None-clause-good : goal.returns-in-None-clause-good
returns-in-None-clause-good g c = λ _.
    let all = c.loop-after.invariant in
    let inside = within_same _ _ _ _ all.same_good (c.in-Good.ensures.good refl) in
    at_each _ _ _ (c.in-None.ensures.none refl) all.before inside

pub returns-in-Bad-clause-bad : goal.returns-in-Bad-clause-bad
returns-in-Bad-clause-bad g c =
    let inside = within_same _ _ _ _ c.loop-after.invariant.same_bad (c.in-Bad.ensures.bad refl) in
    at_first c.loop-after.piece _ _ c.first.ensures.num c.first.ensures.den inside

pub loop-after-smaller : goal.loop-after-smaller
loop-after-smaller g c =
    let half = c.halves.ensures in
    left_half _ _ _ _ half.first_index half.first_depth (c.in-Open.ensures.open refl)

pub loop-after-preserved : goal.loop-after-preserved
loop-after-preserved g c =
    let all = c.loop-after.invariant in
    let half = c.halves.ensures in
    record {
      before = before_half _ _ _ _ _ half.first_index half.first_depth all.before;
      same_good = same_then _ _ _ c.see.ensures.same_good all.same_good;
      same_bad = same_then _ _ _ c.see.ensures.same_bad all.same_bad;
    }
