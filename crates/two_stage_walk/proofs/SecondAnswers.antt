-- What one walk tells of an access.
use Rattle.std.proofs.Common.{◌≡◌, ℕ, ◌+◌, ◌%◌, Bool, true, false, ◌&&◌, not, nat_le, nat_lt, length, Option, Some, None, Result, Ok, Err, if◌then◌else◌, refl, ap, ◌∙◌}
use Rattle.arch_defs.specs.declared.modes.Access.{Access}
use Rattle.arch_defs.specs.declared.modes.Mode.{Mode}
use Rattle.arch_defs.specs.declared.modes.Trap.{Trap}
use Rattle.arch_defs.specs.declared.registers.Csrs.{Csrs}
use Rattle.arch_defs.specs.declared.roots.GuestRoot.{GuestRoot}
use Rattle.arch_defs.specs.declared.roots.GuestRoot.TheVariants as root
use Rattle.arch_defs.specs.declared.second_walks.SecondWalkEnd.{SecondWalkEnd}
use Rattle.arch_defs.specs.declared.second_walks.SecondWalkEnd.TheVariants.{Leaf, Device, GuestPageFault, AccessFault}
use Rattle.arch_defs.specs.declared.walks.MissingPlace.{MissingPlace}
use Rattle.arch_defs.specs.Devices.{is_on_device}
use Rattle.arch_defs.specs.Memory.{Memory}
use Rattle.arch_defs.specs.Roots.{guest_shape}
use Rattle.arch_defs.specs.SecondStage.{device_by_walk, device_under, is_device_end, is_implicit, missing_place_by, missing_place_under, missing_place_trap, place_under, second_by_walk, second_root_of, second_under, second_walk}
use Rattle.arch_defs.specs.Traps.{missing_place_fault}
use Rattle.machine_defs.specs.Core.{located_at}
use Rattle.two_stage_walk.specs.declared.second_answers.SecondAnswer.TheVariants.{InMemory, OnDevice}
use Rattle.two_stage_walk.specs.declared.second_answers.SecondAnswer.TheVariants as answer
use Rattle.two_stage_walk.specs.declared.translating.Place.{Place}
use Rattle.two_stage_walk.specs.declared.translating.Place.TheVariants as made
use Rattle.two_stage_walk.specs.Answers.{placed, placed_if}
use Rattle.two_stage_walk.specs.SecondAnswers.{answer_at_end, answer_under, place_or_fault, place_in_memory, trap_of}

-- the place
place_by_end : (address : ℕ) (end : SecondWalkEnd) → place_in_memory (answer_at_end address end) ≡ place_under address end
place_by_end address (Leaf leaf) = refl
place_by_end address (Device leaf) = refl
place_by_end address GuestPageFault = refl
place_by_end address AccessFault = refl

pub place_bare : (address : ℕ) (inside page : Bool)
    → place_in_memory (if inside then InMemory address else if page then OnDevice else answer.AccessFault) ≡ (if inside then Some address else None)
place_bare address true page = refl
place_bare address false true = refl
place_bare address false false = refl

pub place_alike : (memory : Memory) (mxr : Bool) (table : GuestRoot) (address : ℕ) (kind : Access)
    → place_in_memory (answer_under memory mxr table address kind) ≡ second_under memory mxr table address kind
place_alike memory mxr root.Bare address kind =
    place_bare address (nat_le memory.base address && nat_lt address (memory.base + length memory.bytes)) (is_on_device address)
place_alike memory mxr (root.Table mode vmid ppn) address kind = place_by_end address (second_walk memory mxr (guest_shape mode) ppn address kind)

-- the trap
trap_by_end : (missing : MissingPlace) (address : ℕ) (end : SecondWalkEnd) → trap_of missing (answer_at_end address end) ≡ missing_place_by missing end
trap_by_end missing address (Leaf leaf) = refl
trap_by_end missing address (Device leaf) = refl
trap_by_end missing address GuestPageFault = refl
trap_by_end missing address AccessFault = refl

trap_bare : (missing : MissingPlace) (address : ℕ) (inside page : Bool)
    → trap_of missing (if inside then InMemory address else if page then OnDevice else answer.AccessFault) ≡ missing_place_fault missing
trap_bare missing address true page = refl
trap_bare missing address false true = refl
trap_bare missing address false false = refl

pub trap_alike : (memory : Memory) (mxr : Bool) (missing : MissingPlace) (table : GuestRoot)
    → trap_of missing (answer_under memory mxr table missing.address missing.kind) ≡ missing_place_under memory mxr missing table
trap_alike memory mxr missing root.Bare =
    trap_bare missing missing.address (nat_le memory.base missing.address && nat_lt missing.address (memory.base + length memory.bytes)) (is_on_device missing.address)
trap_alike memory mxr missing (root.Table mode vmid ppn) =
    trap_by_end missing missing.address (second_walk memory mxr (guest_shape mode) ppn missing.address missing.kind)

-- where an access is made: by the tests of the definition, in the order of the code
abbrev Made : Bool → Csrs → Memory → MissingPlace → Bool → Option ℕ → Result Place Trap
Made device csrs memory missing page (Some place) = Ok (made.InMemory place)
Made device csrs memory missing page None = placed_if csrs memory missing (device && (not (is_implicit missing.kind) && page))

made_found : (device : Bool) (csrs : Csrs) (memory : Memory) (mode : Mode) (va address : ℕ) (access : Access) (place : Option ℕ)
    → placed device csrs memory (located_at mode va access address place)
    ≡ Made device csrs memory (record { address = address; kind = access; access = access; va = va; mode = mode }) (device_by_walk csrs mode memory address access) place
made_found device csrs memory mode va address access (Some place) = refl
made_found device csrs memory mode va address access None = refl

on_page : (csrs : Csrs) (memory : Memory) (missing : MissingPlace) (device implicit : Bool) → missing_place_trap csrs memory missing ≡ missing_place_fault missing
    → placed_if csrs memory missing (device && (not implicit && true))
    ≡ (if device && not implicit then Ok (made.OnDevice (missing.address % 4096)) else Err (missing_place_fault missing))
on_page csrs memory missing true true trap = ap Err trap
on_page csrs memory missing true false trap = refl
on_page csrs memory missing false implicit trap = ap Err trap

off_page : (csrs : Csrs) (memory : Memory) (missing : MissingPlace) (device implicit : Bool)
    → placed_if csrs memory missing (device && (not implicit && false)) ≡ Err (missing_place_trap csrs memory missing)
off_page csrs memory missing true true = refl
off_page csrs memory missing true false = refl
off_page csrs memory missing false implicit = refl

made_by_end : (device : Bool) (csrs : Csrs) (memory : Memory) (missing : MissingPlace) (end : SecondWalkEnd) → missing_place_trap csrs memory missing ≡ missing_place_by missing end
    → Made device csrs memory missing (is_device_end end) (place_under missing.address end) ≡ place_or_fault device missing (answer_at_end missing.address end)
made_by_end device csrs memory missing (Leaf leaf) trap = refl
made_by_end device csrs memory missing (Device leaf) trap = on_page csrs memory missing device (is_implicit missing.kind) trap
made_by_end device csrs memory missing GuestPageFault trap = off_page csrs memory missing device (is_implicit missing.kind) ∙ ap Err trap
made_by_end device csrs memory missing AccessFault trap = off_page csrs memory missing device (is_implicit missing.kind) ∙ ap Err trap

made_bare : (device : Bool) (csrs : Csrs) (memory : Memory) (missing : MissingPlace) (inside page : Bool) → missing_place_trap csrs memory missing ≡ missing_place_fault missing
    → Made device csrs memory missing page (if inside then Some missing.address else None)
    ≡ place_or_fault device missing (if inside then InMemory missing.address else if page then OnDevice else answer.AccessFault)
made_bare device csrs memory missing true page trap = refl
made_bare device csrs memory missing false true trap = on_page csrs memory missing device (is_implicit missing.kind) trap
made_bare device csrs memory missing false false trap = off_page csrs memory missing device (is_implicit missing.kind) ∙ ap Err trap

made_under : (device : Bool) (csrs : Csrs) (memory : Memory) (mxr : Bool) (missing : MissingPlace) (table : GuestRoot)
    → missing_place_trap csrs memory missing ≡ missing_place_under memory mxr missing table
    → Made device csrs memory missing (device_under memory mxr table missing.address missing.kind) (second_under memory mxr table missing.address missing.kind)
    ≡ place_or_fault device missing (answer_under memory mxr table missing.address missing.kind)
made_under device csrs memory mxr missing root.Bare trap =
    made_bare device csrs memory missing (nat_le memory.base missing.address && nat_lt missing.address (memory.base + length memory.bytes)) (is_on_device missing.address) trap
made_under device csrs memory mxr missing (root.Table mode vmid ppn) trap =
    made_by_end device csrs memory missing (second_walk memory mxr (guest_shape mode) ppn missing.address missing.kind) trap

pub made_alike : (device : Bool) (csrs : Csrs) (memory : Memory) (mode : Mode) (va address : ℕ) (access : Access)
    → placed device csrs memory (located_at mode va access address (second_by_walk csrs mode memory address access))
    ≡ place_or_fault device (record { address = address; kind = access; access = access; va = va; mode = mode })
    (answer_under memory csrs.hs.status.mxr (second_root_of csrs mode) address access)
made_alike device csrs memory mode va address access =
    made_found device csrs memory mode va address access (second_by_walk csrs mode memory address access)
    ∙ made_under device csrs memory csrs.hs.status.mxr (record { address = address; kind = access; access = access; va = va; mode = mode }) (second_root_of csrs mode) refl
