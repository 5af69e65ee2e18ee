use Rattle.std.proofs.Common.{List, take}
use Rattle.std.specs.Prelude.{string_bytes}
use Rattle.carton_model.specs.Turning.{Angle, laid, turned_through}
use Rattle.carton_place.specs.Held.{HoldSwings}
use Rattle.carton_text.specs.Poses.{ArePieces, IsSpotLine}
use Rattle.carton_text.proofs.pose.corner_lines.Given as goal

abbrev pub invariant-loop-k : goal.invariant-loop-k
invariant-loop-k l = (angles : List Angle) → HoldSwings l.swings 0 1 angles
    → ArePieces (λ k corner. IsSpotLine l.panel k (turned_through l.turns angles (laid corner))) 0 (take l.k
    l.corners) (string_bytes l.text)
