use Rattle.std.proofs.Common.{◌∙◌, refl, sym, ℕ, pos}
use Rattle.carton_base.proofs.Loops.{all_more_read, any_read, all_end}
use Rattle.carton_base.specs.declared.dieline.Point.{Point}
use Rattle.carton_guide.specs.Holding.{IsInSome, IsDeepInNone}
use Rattle.carton_bodies.specs.Spots.{flat_point}
use Rattle.carton_guide.proofs.watching.WatchLook.see.Goals.{in-Bad, in-Open}
use Rattle.carton_guide.proofs.watching.WatchLook.see.Goals as goal

pub returns-in-Good-clause-good : goal.returns-in-Good-clause-good
returns-in-Good-clause-good c = λ _ n d m ip.
    let o = c.args.self.now.course.now in
    let h = c.args.self.now.holders.now in
    let at = c.flat_point_at-spot.ensures.at n d m ip in
    let told = c.in-Good.ensures.good refl n d m ip in
    let Inside = λ (p : Point).
    IsInSome h.stroke h.bodies.now h.chosen.now o.step n d (flat_point o.motion o.turns.now n d p) in
    any_read Inside o.probes.now c.loop-k.k _ c.loop-k-test.true (told _ at)

pub loop-k-preserved : goal.loop-k-preserved
loop-k-preserved c =
    let o = c.args.self.now.course.now in
    let h = c.args.self.now.holders.now in
    let before = c.loop-k.invariant in
    let Shallow = λ (n d : ℕ) (p : Point).
    IsDeepInNone (pos h.slack) h.stroke h.bodies.now h.chosen.now o.step n d
    (flat_point o.motion o.turns.now n d p) in
    elim c.match-look_at.branch [
      | in-Bad w ↦
          let is = sym w.seen-is in
          record {
            not_good = λ e. before.not_good (is ∙ e);
            deep = λ e. before.deep (is ∙ e);
            bad = λ e n d m ip.
                let here = w.in-Bad.ensures.bad refl n d m ip _ (c.flat_point_at-spot.ensures.at n d m ip) in
                let more = before.bad (is ∙ e) n d m ip in
                all_more_read (Shallow n d) o.probes.now c.loop-k.k _ c.loop-k-test.true here more;
          }
      | in-Open w ↦
          let deep = w.in-Open.ensures.open refl in
          let is = w.seen-is in
          record { not_good = λ e. absurd (cc); deep = λ _. deep; bad = λ e. absurd (cc) }
    ]

pub returns-clause-bad : goal.returns-clause-bad
returns-clause-bad c = λ e n d m ip.
    let o = c.args.self.now.course.now in
    let h = c.args.self.now.holders.now in
    let Shallow = λ (p : Point).
    IsDeepInNone (pos h.slack) h.stroke h.bodies.now h.chosen.now o.step n d
    (flat_point o.motion o.turns.now n d p) in
    all_end Shallow o.probes.now c.loop-k.k c.loop-k-test.false (c.loop-k.invariant.bad e n d m ip)
