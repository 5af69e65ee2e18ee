use Rattle.std.proofs.Common.{◌≡◌, ℕ, ◌<◌, get_or, length}
use Rattle.carton_base.specs.declared.limits.TheConstants.{LONGEST_PATH}
use Rattle.carton_base.specs.declared.motion.Turn.{Turn}
use Rattle.carton_place.specs.declared.swings.Swing.{Swing}
use Rattle.carton_place.specs.Swings.{IsSwingOver}
use Rattle.carton_place.proofs.placing.swings_over.Given as goal

abbrev pub invariant-loop-i : goal.invariant-loop-i
invariant-loop-i l = (length l.swings ≡ LONGEST_PATH)
    × ((k : ℕ) (s : Swing) → k < l.i → (t : Turn)
    → IsSwingOver l.motion (get_or l.turns k t).place l.piece.index l.piece.depth (get_or l.swings k s))
