-- Where the access of an HLV, HLVX or HSV is made.
use Rattle.std.specs.Prelude.{ℕ, Option, false}
use Rattle.std.specs.Result.{result_ok}
use Rattle.arch_defs.specs.declared.registers.Csrs.{Csrs}
use Rattle.arch_defs.specs.Memory.{Memory}
use Rattle.op_defs.specs.declared.ops.DataAccess.{DataAccess}
use Rattle.machine_defs.specs.Answers.{answer_of}
use Rattle.machine_defs.specs.HlvAccesses.{hlv_place}

-- its place in memory, if it has one there: the device page is not memory
abbrev pub hlv_place_in : Memory → Csrs → DataAccess → Option ℕ
hlv_place_in memory csrs wanted =
    result_ok (answer_of false csrs memory (hlv_place memory csrs wanted))
