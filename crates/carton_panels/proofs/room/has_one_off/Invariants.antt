use Rattle.std.proofs.Common.{get_or, pos, ◌<ℤ◌}
use Rattle.carton_base.specs.declared.numbers.Triple.{Triple}
use Rattle.carton_panels.specs.Panels.{Side, sides_of}
use Rattle.carton_panels.specs.Insets.{inset}
use Rattle.carton_base.proofs.Loops.{NoneBelow}
use Rattle.carton_panels.proofs.room.has_one_off.Given as goal

abbrev pub invariant-loop-t : goal.invariant-loop-t
invariant-loop-t l =
    (d : Side)
    → NoneBelow (λ (t : Triple). pos 0
    <ℤ inset l.face.margin (get_or (sides_of l.face.places.now) l.k d) t.x t.y t.w) l.found l.t-index
