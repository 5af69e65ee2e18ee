use Rattle.carton_part.proofs.Corners.{parted_in, corners_parted}
use Rattle.carton_part.proofs.laws.corners_part_panels.Goals as goal

pub returns : goal.returns
returns c =
    λ t motion a b f halves n d sa sb m.
    (parted_in t motion a b f halves n d sa sb m, corners_parted t motion a b f halves n d sa sb m)
