-- Half-spaces as the code keeps them.
use Rattle.std.specs.Prelude.{List, map}
use Rattle.carton_bodies.specs.Bodies.{Side}
use Rattle.carton_bodies.specs.Boxes.{side}
use Rattle.carton_bodies.specs.declared.half_space.HalfSpace.{HalfSpace}

abbrev pub side_of : HalfSpace → Side
side_of f = side f.u f.v f.s f.offset

abbrev pub sides_of : List HalfSpace → List Side
sides_of fs = map side_of fs
