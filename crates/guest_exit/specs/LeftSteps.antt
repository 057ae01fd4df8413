-- Which step the hart has left to the host, by a tag.
use Rattle.std.specs.Prelude.{ℕ, ◌≡◌, ◌-◌, ◌^◌, ◌<◌, nat_lt, Bool, true, false, if◌then◌else◌}
use Rattle.arch_defs.specs.declared.modes.Trap.{Trap}
use Rattle.arch_defs.specs.declared.registers.Virtual.{Virtual}
use Rattle.arch_defs.specs.Walk.{guest_bits}
use Rattle.arch_defs.specs.WalkedEntries.{folds}
use Rattle.instruction_laws.specs.MissedPlaces.{told_place}
use Rattle.hosted_steps.specs.ExitCases as exit
use Rattle.hosted_steps.specs.ExitCases.{decided_at, exit_of, far_exit, instruction_exit}
use Rattle.guest_exit.specs.declared.exit_cases.Left.{Left}
use Rattle.guest_exit.specs.declared.exit_cases.Left.TheVariants.{Missing, Far, Instruction, Call, Own}

-- one that is left by a guest-page fault, by its tval2: guest physical addresses have at most 50 bits
abbrev pub missing_step : ℕ → Left
missing_step tval2 = if nat_lt tval2 (2 ^ (guest_bits - 2)) then Missing else Far

-- one that is left by another trap, by the guest's V
abbrev pub other_step : Bool → Left
other_step false = Call
other_step true = Own

-- a step is left so by this trap
abbrev pub IsLeftSo : Left → Virtual → Trap → Type 0
IsLeftSo Missing virt trap =
    (trap.tval2 < 2 ^ (guest_bits - 2)) × (exit_of virt trap ≡ exit.Missing (told_place virt.mode trap))
IsLeftSo Far virt trap = exit_of virt trap ≡ far_exit virt trap (folds virt)
IsLeftSo Instruction virt trap = exit_of virt trap ≡ instruction_exit trap (decided_at trap.tval)
IsLeftSo Call virt trap = exit_of virt trap ≡ exit.Call
IsLeftSo Own virt trap = exit_of virt trap ≡ exit.Own trap
