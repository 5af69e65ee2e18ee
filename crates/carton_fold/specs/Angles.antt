-- The stops of edges_foldAngle, which never refuses a file.
use Rattle.std.specs.Prelude.{ℕ, ℤ, pos, neg_ℤ, List, length, nat_eq, map, if◌then◌else◌, Option, Some, None}
use Rattle.std.specs.Prelude.{option_and_then}
use Rattle.std.specs.Ordering.{int_eq}
use Rattle.serde_json.specs.Data.{Data}
use Rattle.carton_base.specs.declared.ids.Stop.{Stop}
use Rattle.carton_fold.specs.Values.{list_in, whole}

-- the stop at an angle in degrees, at eight stops in a right angle
unfoldable pub stop_at : ℤ → Option Stop
stop_at angle =
    if int_eq angle (neg_ℤ (pos 180)) then Some (record { 0 = neg_ℤ (pos 16) }) else (
    if int_eq angle (neg_ℤ (pos 90)) then Some (record { 0 = neg_ℤ (pos 8) }) else (
    if int_eq angle (pos 0) then Some (record { 0 = pos 0 }) else (
    if int_eq angle (pos 90) then Some (record { 0 = pos 8 }) else (
    if int_eq angle (pos 180) then Some (record { 0 = pos 16 }) else None))))

-- the stop of an entry
abbrev pub stop_of : Data → Option Stop
stop_of d = option_and_then stop_at (whole d)

-- the stops of a list with an entry for each edge
abbrev pub stops_of : ℕ → List Data → Option (List (Option Stop))
stops_of edges list = if nat_eq (length list) edges then Some (map stop_of list) else None

-- the stops of a file with so many edges
abbrev pub angles_in : ℕ → Option Data → Option (List (Option Stop))
angles_in edges value = option_and_then (stops_of edges) (option_and_then list_in value)
