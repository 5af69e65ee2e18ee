use Rattle.std.proofs.Common.{◌≡◌, ◌+◌, ◌*◌, ◌^◌, ◌<◌, ◌≤◌}
use Rattle.carton_part.proofs.pieces.next.Given as goal

abbrev pub invariant-loop-depth : goal.invariant-loop-depth
invariant-loop-depth l = (l.depth ≤ l.fn.piece.depth) × (0 < l.index) × (l.index ≤ 2 ^ l.depth)
    × (l.index * 2 ^ l.fn.piece.depth ≡ (l.fn.piece.index + 1) * 2 ^ l.depth)

abbrev pub decreases-loop-depth : goal.decreases-loop-depth
decreases-loop-depth l = l.depth
