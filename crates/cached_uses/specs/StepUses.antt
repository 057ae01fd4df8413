-- The cached translations by which a step goes, through its registers, the entries of the front space and
-- memory.
use Rattle.std.specs.Prelude.{ℕ, ◌≡◌, List, [], ◌++◌, Option, Some, None}
use Rattle.arch_defs.specs.declared.cached.Entry.{Entry}
use Rattle.arch_defs.specs.declared.modes.Access.TheVariants.{Fetch}
use Rattle.arch_defs.specs.declared.registers.Virtual.{Virtual}
use Rattle.arch_defs.specs.declared.widths.Width.TheVariants.{Word}
use Rattle.arch_defs.specs.Interrupts.{due}
use Rattle.arch_defs.specs.Memory.{Memory, ram_memory}
use Rattle.arch_defs.specs.Spaces.{front}
use Rattle.op_defs.specs.declared.ops.DataAccess.{DataAccess}
use Rattle.machine_defs.specs.Machine.{Machine}
use Rattle.run_log.specs.declared.uses.Use.{Use}
use Rattle.run_log.specs.Uses.{access_uses, data_next, data_uses, uses}
use Rattle.cached_uses.specs.Serving.{mmu_through}

-- those of its fetch, and then of the access to data that it wants; none, where an interrupt is due
abbrev pub uses_unless_due : Virtual → List Entry → Memory → Option DataAccess → Option ℕ
    → List Use
uses_unless_due virt entries memory wanted (Some code) = []
uses_unless_due virt entries memory wanted None = let through = mmu_through virt entries memory in
    access_uses virt entries through virt.regs.pc Word Fetch ++ data_uses virt entries through wanted

abbrev pub step_uses : Virtual → List Entry → Memory → Option DataAccess → List Use
step_uses virt entries memory wanted =
    uses_unless_due virt entries memory wanted (due virt.csrs virt.mode)

-- a machine's own, where this is the access to data of its next instruction, unless an interrupt is due
abbrev pub StepsUse : Type 0
StepsUse = (m : Machine) (wanted : Option DataAccess)
    → (due m.platform.virt.csrs m.platform.virt.mode ≡ None → wanted ≡ data_next m)
    → step_uses m.platform.virt (front m.spaces) (ram_memory m.ram) wanted ≡ uses m
