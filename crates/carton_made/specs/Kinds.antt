-- Of which kind and size the carton of a number is, and how it is folded.
use Rattle.std.specs.Prelude.{ℕ, ◌+◌, ◌-◌, ◌*◌, ◌/◌, ◌%◌, ℤ, pos, neg_ℤ, List, nat_eq, if◌then◌else◌, codes}
use Rattle.std.specs.List.{range_with_len}
use Rattle.carton_made.specs.declared.kinds.Kind.{Kind}
use Rattle.carton_made.specs.declared.kinds.Kind.TheVariants.{Tray, Strip, Tube}

-- a tray, a strip and a tube in turn
abbrev pub kind_of : ℕ → Kind
kind_of k = if nat_eq (k % 3) 0 then Tray else (if nat_eq (k % 3) 1 then Strip else Tube)

-- one size for three, then ten more
abbrev pub size_of : ℕ → ℕ
size_of k = 100 + 10 * (k / 3)

abbrev pub name_of : Kind → List ℕ
name_of Tray = codes "tray"
name_of Strip = codes "strip"
name_of Tube = codes "tube"

-- how many panels a strip and a tube have
abbrev pub strip_panels : ℕ
strip_panels = 9

abbrev pub tube_panels : ℕ
tube_panels = 4

-- the edges between the n panels of a row
abbrev pub row_creases : ℕ → List ℕ
row_creases n = range_with_len (2 * n + 1) (n - 1)

-- the creases, in the order of edges
abbrev pub creases : Kind → List ℕ
creases Tray = range_with_len 0 4
creases Strip = row_creases strip_panels
creases Tube = row_creases tube_panels

-- the stop to which a crease of a strip is folded, up and down in turn: crease i is edge 2 * 9 + i, so both
-- are even or none
abbrev pub strip_target : ℕ → ℤ
strip_target edge = if nat_eq (edge % 2) 0 then neg_ℤ (pos 4) else pos 4

-- the stop to which a crease is folded
abbrev pub target : Kind → ℕ → ℤ
target Tray edge = pos 8
target Strip edge = strip_target edge
target Tube edge = pos 8
