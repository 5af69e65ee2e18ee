use Rattle.std.proofs.Common.{pos, ◌<ℤ◌}
use Rattle.std.specs.Prelude.{Any}
use Rattle.carton_base.specs.declared.numbers.Triple.{Triple}
use Rattle.carton_panels.specs.Panels.{Side, sides_of}
use Rattle.carton_panels.specs.Insets.{inset}
use Rattle.carton_base.proofs.Loops.{AllBelow}
use Rattle.carton_panels.proofs.room.has_room.Given as goal

abbrev pub invariant-loop-k : goal.invariant-loop-k
invariant-loop-k l =
    AllBelow (λ (s : Side). Any (λ (t : Triple). pos 0 <ℤ inset l.face.margin s t.x t.y t.w) l.found)
    (sides_of l.face.places.now) l.k
