-- What the lookup of an access tells of it (own).
use Rattle.std.specs.Prelude.{ℕ, ◌≡◌, ◌%◌, false, List, [], Option, None, Err, IfNone, IfSome, ok_or}
use Rattle.arch_defs.specs.declared.first.FirstEntry.{FirstEntry}
use Rattle.arch_defs.specs.declared.hart_states.HartState.{HartState}
use Rattle.arch_defs.specs.declared.modes.Access.{Access}
use Rattle.arch_defs.specs.declared.modes.Trap.{Trap}
use Rattle.arch_defs.specs.declared.walks.MissingPlace.{MissingPlace}
use Rattle.arch_defs.specs.declared.widths.Width.{Width}
use Rattle.arch_defs.specs.FirstEntries.{HasGuestFrame}
use Rattle.arch_defs.specs.Memory.{machine_memory}
use Rattle.arch_defs.specs.SecondStage.{guest_page_trap}
use Rattle.arch_defs.specs.Traps.{missing_place_fault}
use Rattle.arch_defs.specs.Widths.{bytes_in}
use Rattle.machine_defs.specs.Answers.{answer_of}
use Rattle.machine_defs.specs.Core.{At, kind_of}
use Rattle.machine_defs.specs.FirstLeaves.{entries_of}
use Rattle.op_defs.specs.declared.ops.DataAccess.{DataAccess}
use Rattle.data_access.specs.Places.{IsPlaceFor}
use Rattle.translation_buffer.specs.declared.buffers.Buffer.{Buffer}
use Rattle.translation_buffer.specs.Serving.{ServesHart}
use Rattle.translation_buffer.specs.declared.lookups.Lookup.{Lookup}
use Rattle.translation_buffer.specs.declared.lookups.Lookup.TheVariants.{InMemory, GuestPageFault, AccessFault, NotPassed}
use Rattle.rv64_hart.specs.declared.walked_accesses.MemoryAccess.{MemoryAccess}
use Rattle.rv64_hart.specs.Endings.{IsAnswered}
use Rattle.rv64_hart.specs.MachineMemory.{access_over, found_over, known_on}
use Rattle.rv64_hart.specs.Steps.{caching_found}

-- it is made at a place, and finds nothing
pub record IsMadeAt (s : HartState) (memory : List ℕ) (va : ℕ) (width : Width) (access : Access)
    (place : ℕ) : Type 0 where
  pub located : access_over memory s va width access ≡ At place
  pub none : found_over memory s va width access ≡ []
  pub fits : IsPlaceFor (machine_memory memory) width place

-- it has no place, this is its trap to the hart, and it finds nothing
pub record Traps (s : HartState) (memory : List ℕ) (va : ℕ) (width : Width) (access : Access)
    (trap : Trap) : Type 0 where
  pub raises : Err trap ≡ answer_of false s.virt.csrs (machine_memory memory)
      (access_over memory s va width access)
  pub none : found_over memory s va width access ≡ []

-- without a place by the second stage at this guest physical address
abbrev pub missing_at : HartState → ℕ → Access → ℕ → MissingPlace
missing_at s va access address =
    record { address = address; kind = access; access = access; va = va; mode = s.virt.mode }

-- by what is looked up for an access. Where that is neither a place nor a fault, no cached translation passes
-- an aligned access on
abbrev pub LookupTells : HartState → List ℕ → ℕ → Width → Access → Lookup → Type 0
LookupTells s memory va width access (InMemory place) = IsMadeAt s memory va width access place
LookupTells s memory va width access (GuestPageFault address) =
    Traps s memory va width access (guest_page_trap (missing_at s va access address))
LookupTells s memory va width access AccessFault =
    Traps s memory va width access (missing_place_fault (missing_at s va access va))
LookupTells s memory va width access NotPassed = va % bytes_in width ≡ 0 → known_on s va access ≡ None

-- an access to data, as one to memory
abbrev pub memory_access_of : DataAccess → MemoryAccess
memory_access_of wanted = record { va = wanted.address; width = wanted.width; kind = kind_of wanted.purpose }

-- where an access is made, and else its trap to the hart; and the first-stage translation that it finds
pub record IsAccessReached (s : HartState) (memory : List ℕ) (access : MemoryAccess) (trap : Trap)
    (leaf : Option FirstEntry) (answer : Option ℕ) : Type 0 where
  pub place : ok_or answer trap ≡ answer_of false s.virt.csrs (machine_memory memory)
      (access_over memory s access.va access.width access.kind)
  pub entry : entries_of leaf ≡ found_over memory s access.va access.width access.kind
  pub inside : IfSome answer (λ at. IsPlaceFor (machine_memory memory) access.width at)
  pub fits : IfSome leaf HasGuestFrame

-- where an instruction makes an access to data, and what it leaves before that: what it finds is cached where
-- it is made, and all is as it was where it is not
pub record LeftByAccess (access : MemoryAccess) (place : Option ℕ) (trap : Trap) (buffer : Buffer)
    (old : HartState) (memory : List ℕ) (new : HartState) : Type 0 where
  pub located : IsAnswered old memory (access_over memory old access.va access.width access.kind) trap place
  pub found : IfSome place
      (λ at. new ≡ caching_found old (found_over memory old access.va access.width access.kind))
  pub stays : IfNone place (new ≡ old)
  pub fits : IfSome place (λ at. IsPlaceFor (machine_memory memory) access.width at)
  pub serves : ServesHart buffer new memory
