use Rattle.std.proofs.Common.{refl}
use Rattle.carton_base.specs.declared.directions.TheConstants.{DIRECTIONS}
use Rattle.carton_base.proofs.DirectionTests.{each_direction, all_directions}
use Rattle.carton_base.proofs.directions.all_directions.Goals as goal

pub returns-clause-each : goal.returns-clause-each
returns-clause-each c = each_direction DIRECTIONS refl

pub returns-clause-all : goal.returns-clause-all
returns-clause-all c = all_directions DIRECTIONS refl
