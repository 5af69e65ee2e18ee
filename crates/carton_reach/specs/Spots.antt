-- Where the corners of a shrunk panel stand in the frame of a panel during a move.
use Rattle.std.specs.Prelude.{ℕ, List, [], length, map, pos, slice_index_or}
use Rattle.carton_base.specs.declared.motion.Motion.{Motion}
use Rattle.carton_base.specs.declared.motion.Turn.{Turn}
use Rattle.carton_base.specs.declared.numbers.Triple.{Triple}
use Rattle.carton_model.specs.Moves.{fold_at}
use Rattle.carton_model.specs.Parting.{Position}
use Rattle.carton_model.specs.Turning.{laid, placed}
use Rattle.carton_panels.specs.Shapes.{Shape}
use Rattle.carton_tree.specs.Trees.{Tree, turns_between}

-- past the last panel there is one without corners
abbrev pub no_shape : Shape
no_shape = record { places = []; margin = 0; corners = []; shrunk = [] }

-- panel p of the carton
abbrev pub shape_at : Tree → ℕ → Shape
shape_at t p = slice_index_or t.panels p no_shape

-- past the last corner there is one at the origin
abbrev pub origin : Position
origin = record { x = pos 0; y = pos 0; z = pos 0; w = pos 1 }

-- how many corners the shrunk panel p has
abbrev pub corners_in : Tree → ℕ → ℕ
corners_in t p = length (shape_at t p).shrunk

-- where corner k of some flat corners stands after turns, at the moment n / d of the move
abbrev pub spots_after : Motion → List Turn → List Triple → ℕ → ℕ → ℕ → Position
spots_after motion turns corners k n d =
    placed (fold_at motion n d) turns (slice_index_or (map laid corners) k origin)

-- where corner k of the shrunk panel p stands in the frame of a panel, at the moment n / d of the move
abbrev pub spots_in : Tree → Motion → ℕ → ℕ → ℕ → ℕ → ℕ → Position
spots_in t motion p frame = spots_after motion (turns_between t p frame) (shape_at t p).shrunk
