use Rattle.std.proofs.Common.{◌≡◌, ◌++◌, sym, string_bytes, arith, rules, SFits}
use Rattle.std.proofs.lemmas.Int.{to_z-of_z}
use Rattle.std.specs.Int.{w8}
use Rattle.carton_made.specs.Made.{target_line}
use Rattle.carton_made.proofs.Entries.{one_crease}
use Rattle.carton_made.proofs.jobs.write_targets.Goals as goal

pub loop-edge-preserved : goal.loop-edge-preserved
loop-edge-preserved c =
    let i = c.loop-edge.edge-counter in
    let f : SFits w8 c.target-target.result = search rules in
    let told : string_bytes c.write.new.self ≡ string_bytes c.loop-edge.text ++ target_line c.args.kind i =
    rw (sym c.target-target.ensures) (simp to_z-of_z at c.in_ok-write.ensures.bytes) in
    record {
      from = omega (arith, c.loop-edge.invariant.from);
      wrote = one_crease (target_line c.args.kind) c.args.first i (string_bytes c.args.text.now)
          (string_bytes c.loop-edge.text) _ c.loop-edge.invariant.from c.loop-edge.invariant.wrote told;
    }
