-- The first-stage translations that a step finds, as a list.
use Rattle.std.specs.Prelude.{◌≡◌, ◌++◌, List, None, IfSome}
use Rattle.arch_defs.specs.declared.first.FirstEntry.{FirstEntry}
use Rattle.arch_defs.specs.FirstEntries.{HasGuestFrame}
use Rattle.machine_defs.specs.FirstLeaves.{entries_of}
use Rattle.rv64_hart.specs.declared.leaves.Leaves.{Leaves}

-- that of its access at pc, and then that of its access to data
abbrev pub leaves_list : Leaves → List FirstEntry
leaves_list leaves = entries_of leaves.at_pc ++ entries_of leaves.of_data

abbrev pub LeavesFit : Leaves → Type 0
LeavesFit leaves = IfSome leaves.at_pc HasGuestFrame × IfSome leaves.of_data HasGuestFrame

abbrev pub AreNone : Leaves → Type 0
AreNone leaves = (leaves.at_pc ≡ None) × (leaves.of_data ≡ None)
