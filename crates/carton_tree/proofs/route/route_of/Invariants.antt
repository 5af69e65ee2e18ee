use Rattle.std.proofs.Common.{◌≡◌, ℕ, ◌<◌, ◌++◌, length, get_or, map, reverse}
use Rattle.carton_base.specs.declared.limits.TheConstants.{LONGEST_PATH}
use Rattle.carton_base.specs.declared.motion.Turn.{Turn}
use Rattle.carton_model.specs.Turning.{turned_back}
use Rattle.carton_tree.proofs.route.route_of.Given as goal

abbrev pub invariant-loop-i : goal.invariant-loop-i
invariant-loop-i l = record {
  len : length l.turns ≡ LONGEST_PATH;
  each : (j : ℕ) (t : Turn) → j < l.i
      → get_or l.turns j t ≡ get_or (l.up ++ reverse (map turned_back l.down)) j t;
}
