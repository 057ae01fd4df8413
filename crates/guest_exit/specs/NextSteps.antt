-- What a machine's next step is about to do, by its fetch and its access to data: nothing, where an interrupt
-- is due.
use Rattle.std.specs.Prelude.{ℕ, ◌≡◌, List, Option, Some, None, option_map}
use Rattle.arch_defs.specs.Interrupts.{due}
use Rattle.op_defs.specs.declared.ops.DataAccess.{DataAccess}
use Rattle.machine_defs.specs.Core.{fetch_place}
use Rattle.machine_defs.specs.Machine.{Machine}
use Rattle.machine_defs.specs.Tries.{mmu_of}
use Rattle.rv64_hart.specs.NextAccesses.{placed_access, word_there}
use Rattle.world_switch.specs.Hosting.{own_address}
use Rattle.hosted_steps.specs.ExitCases.{data_wanted}

-- the word at pc, if its fetch has a place in RAM
abbrev pub word_with : Machine → Option ℕ → Option ℕ
word_with m (Some code) = None
word_with m None = let through = mmu_of m in
    word_there through.reading (fetch_place through m.platform.virt)

unfoldable pub word_next : Machine → Option ℕ
word_next m = word_with m (due m.platform.virt.csrs m.platform.virt.mode)

-- the access to data that its instruction makes in its own mode, and its place in RAM, if it has one there.
-- That of HLV, HLVX and HSV is none of its own
abbrev pub access_with : Machine → Option ℕ → Option (DataAccess × ℕ)
access_with m (Some code) = None
access_with m None = placed_access (mmu_of m) m.platform.virt (data_wanted m)

unfoldable pub access_next : Machine → Option (DataAccess × ℕ)
access_next m = access_with m (due m.platform.virt.csrs m.platform.virt.mode)

-- an access with its place in machine memory, at the guest's own address there, if these blocks have it
abbrev pub at_own_address : List ℕ → DataAccess × ℕ → Option (DataAccess × ℕ)
at_own_address blocks (wanted, place) =
    option_map (λ address. (wanted, address)) (own_address blocks place)

-- what its next instruction wants of data, unless an interrupt is due
abbrev pub WantsUnlessDue : Machine → Option DataAccess → Type 0
WantsUnlessDue m wanted = due m.platform.virt.csrs m.platform.virt.mode ≡ None → wanted ≡ data_wanted m
