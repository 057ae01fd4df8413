-- What the second stage makes of an access, by one walk (own).
use Rattle.std.specs.Prelude.{ℕ, ◌%◌, ◌&&◌, not, ⊤, Bool, true, false, Option, Some, None, Result, Ok, Err, nat_le, nat_lt, ◌+◌, length, if◌then◌else◌}
use Rattle.arch_defs.specs.declared.modes.Access.{Access}
use Rattle.arch_defs.specs.declared.modes.Trap.{Trap}
use Rattle.arch_defs.specs.declared.roots.GuestRoot.{GuestRoot}
use Rattle.arch_defs.specs.declared.roots.GuestRoot.TheVariants as root
use Rattle.arch_defs.specs.declared.second_walks.SecondWalkEnd.{SecondWalkEnd}
use Rattle.arch_defs.specs.declared.second_walks.SecondWalkEnd.TheVariants as end
use Rattle.arch_defs.specs.declared.walks.MissingPlace.{MissingPlace}
use Rattle.arch_defs.specs.Devices.{is_on_device}
use Rattle.arch_defs.specs.Memory.{Memory}
use Rattle.arch_defs.specs.Roots.{guest_shape}
use Rattle.arch_defs.specs.SecondStage.{guest_page_trap, is_implicit, second_walk}
use Rattle.arch_defs.specs.Traps.{missing_place_fault}
use Rattle.arch_defs.specs.Walk.{leaf_address}
use Rattle.two_stage_walk.specs.declared.second_answers.SecondAnswer.{SecondAnswer}
use Rattle.two_stage_walk.specs.declared.second_answers.SecondAnswer.TheVariants.{InMemory, OnDevice, GuestPageFault, AccessFault}
use Rattle.two_stage_walk.specs.declared.translating.Place.{Place}
use Rattle.two_stage_walk.specs.declared.translating.Place.TheVariants as made
use Rattle.two_stage_walk.specs.Places.{IsPlaceOf}

-- by the end of the walk of its address
abbrev pub answer_at_end : ℕ → SecondWalkEnd → SecondAnswer
answer_at_end address (end.Leaf leaf) = InMemory (leaf_address leaf address)
answer_at_end address (end.Device leaf) = OnDevice
answer_at_end address end.GuestPageFault = GuestPageFault
answer_at_end address end.AccessFault = AccessFault

-- by Bare, which passes on each address inside memory
abbrev pub bare_answer : Memory → ℕ → SecondAnswer
bare_answer memory address =
    if nat_le memory.base address && nat_lt address (memory.base + length memory.bytes) then InMemory address
    else if is_on_device address then OnDevice
    else AccessFault

-- by a table, or Bare
abbrev pub answer_under : Memory → Bool → GuestRoot → ℕ → Access → SecondAnswer
answer_under memory mxr root.Bare address kind = bare_answer memory address
answer_under memory mxr (root.Table mode vmid ppn) address kind =
    answer_at_end address (second_walk memory mxr (guest_shape mode) ppn address kind)

-- a place in memory is there, at the offset of the address
abbrev pub AnswerIn : Memory → ℕ → SecondAnswer → Type 0
AnswerIn memory address (InMemory place) = IsPlaceOf memory address place
AnswerIn memory address OnDevice = ⊤
AnswerIn memory address GuestPageFault = ⊤
AnswerIn memory address AccessFault = ⊤

-- the place in memory
abbrev pub place_in_memory : SecondAnswer → Option ℕ
place_in_memory (InMemory place) = Some place
place_in_memory OnDevice = None
place_in_memory GuestPageFault = None
place_in_memory AccessFault = None

-- the trap of an access of which this is made. With a place in memory it has none, so the line for it is for
-- completeness
abbrev pub trap_of : MissingPlace → SecondAnswer → Trap
trap_of missing (InMemory place) = missing_place_fault missing
trap_of missing OnDevice = missing_place_fault missing
trap_of missing GuestPageFault = guest_page_trap missing
trap_of missing AccessFault = missing_place_fault missing

-- where an access is made, or its trap, of a machine that has the device page or not
abbrev pub place_or_fault : Bool → MissingPlace → SecondAnswer → Result Place Trap
place_or_fault device missing (InMemory place) = Ok (made.InMemory place)
place_or_fault device missing OnDevice =
    if device && not (is_implicit missing.kind) then Ok (made.OnDevice (missing.address % 4096))
    else Err (missing_place_fault missing)
place_or_fault device missing GuestPageFault = Err (guest_page_trap missing)
place_or_fault device missing AccessFault = Err (missing_place_fault missing)
