use Rattle.std.proofs.Common.{◌≡◌, ◌≢◌, ◌<◌, ℕ, pos}
use Rattle.carton_base.proofs.Loops.{AllBelow}
use Rattle.carton_base.specs.declared.dieline.Point.{Point}
use Rattle.carton_reach.specs.Reaches.{Within}
use Rattle.carton_guide.specs.Holding.{IsDeepInNone}
use Rattle.carton_bodies.specs.Spots.{flat_point}
use Rattle.carton_part.specs.declared.sight.Sight.TheVariants.{Good, Bad, Open}
use Rattle.carton_guide.proofs.watching.WatchLook.see.Given as goal

abbrev pub invariant-loop-k : goal.invariant-loop-k
invariant-loop-k l =
    let o = l.self.course.now in
    let h = l.self.holders.now in
    let Shallow = λ (n d : ℕ) (p : Point).
    IsDeepInNone (pos h.slack) h.stroke h.bodies.now h.chosen.now o.step n d
    (flat_point o.motion o.turns.now n d p) in
    record {
      not_good : l.seen ≢ Good;
      deep : l.seen ≡ Open → l.piece.depth < 36;
      bad : l.seen ≡ Bad
          → Within l.piece.index l.piece.depth (λ n d. AllBelow (Shallow n d) o.probes.now l.k);
    }
