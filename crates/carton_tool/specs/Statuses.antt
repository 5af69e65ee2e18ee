-- The exit status of the program, as a number.
use Rattle.std.specs.Prelude.{ℕ}
use Rattle.carton_tool.specs.declared.status.Status.{Status}
use Rattle.carton_tool.specs.declared.status.Status.TheVariants.{Done, Refused, BadInput, BadWords}
use Rattle.carton_tool.specs.declared.status.Status.TheVariants.{ReadFault, WriteFault, OutOfTurns, NoMemory}

abbrev pub number_of : Status → ℕ
number_of Done = 0
number_of Refused = 1
number_of BadInput = 2
number_of BadWords = 3
number_of ReadFault = 4
number_of WriteFault = 5
number_of OutOfTurns = 6
number_of NoMemory = 7
