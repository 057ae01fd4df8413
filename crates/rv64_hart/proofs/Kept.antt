-- What instructions leave: the registers by which memory is accessed, the first-stage translations that are
-- cached, and a buffer that serves on.
use Rattle.std.proofs.Common.{◌≡◌, ◌+◌, ◌/◌, ℕ, List, [], Bool, true, false, refl, ap, sym, subst, ◌∙◌}
use Rattle.arch_defs.specs.declared.first.FirstEntry.{FirstEntry}
use Rattle.arch_defs.specs.declared.first.Tag.{Tag}
use Rattle.arch_defs.specs.declared.modes.Access.{Access}
use Rattle.arch_defs.specs.declared.modes.Mode.{Mode}
use Rattle.arch_defs.specs.declared.hart_states.HartState.{HartState}
use Rattle.arch_defs.specs.declared.registers.Csrs.{Csrs}
use Rattle.arch_defs.specs.declared.registers.Virtual.{Virtual}
use Rattle.arch_defs.specs.declared.widths.Width.{Width}
use Rattle.arch_defs.specs.FirstEntries.{all_filled}
use Rattle.arch_defs.specs.Memory.{Reading, machine_memory, reading_of, with_stored}
use Rattle.op_defs.specs.declared.ops.DataAccess.{DataAccess}
use Rattle.op_defs.specs.declared.ops.Purpose.{Purpose}
use Rattle.op_defs.specs.declared.ops.Purpose.TheVariants.{Load, LoadCode, Store, Reserve, StoreReserved, Modify}
use Rattle.machine_defs.specs.declared.events.Event.{Event}
use Rattle.machine_defs.specs.Core.{At, Completion, accessed_data, completed, is_reserved, kind_of, stored_if}
use Rattle.instruction_laws.proofs.Completions.{completed_same}
use Rattle.data_access.specs.Places.{IsPlaceFor}
use Rattle.translation_buffer.specs.Holding.{has_frame}
use Rattle.translation_buffer.specs.declared.buffers.Buffer.{Buffer}
use Rattle.translation_buffer.specs.Places.{translator}
use Rattle.translation_buffer.specs.Serving.{PageStands, Serves, ServesHart}
use Rattle.translation_buffer.specs.Tags.{run_bits, who_bits}
use Rattle.translation_buffer.proofs.Stored.{serves_completed}
use Rattle.rv64_hart.specs.Endings.{KeepsContext, HasSameTranslation}
use Rattle.rv64_hart.specs.MachineMemory.{access_over, found_over, mmu_on, reading_of_memory}
use Rattle.rv64_hart.specs.Steps.{Makes, attempt_of, caching, caching_found}
use Rattle.rv64_hart.proofs.FirstFound.{nothing_filled}

pub keeps_completed : (reading : Reading) (state : Virtual) (width : Width) (purpose : Purpose) (place : ℕ)
    → KeepsContext state (completed reading state width purpose place).state
keeps_completed reading state width purpose place =
    let same = completed_same reading state width purpose place in
    (ap (λ (v : Virtual). v.csrs) same, ap (λ (v : Virtual). v.mode) same)

pub keeps_after : (reading : Reading) (state new : Virtual) (width : Width) (purpose : Purpose) (place : ℕ)
    → new ≡ (completed reading state width purpose place).state → KeepsContext state new
keeps_after reading state new width purpose place s = rw s (keeps_completed reading state width purpose place)

-- at a place in no frame that was read
pub serves_after : (buffer : Buffer) (s : HartState) (new : Virtual) (memory other : List ℕ) (width : Width) (purpose : Purpose) (place : ℕ)
    → ServesHart buffer s memory → has_frame buffer.read (place / 4096) ≡ false → IsPlaceFor (machine_memory memory) width place
    → new ≡ (completed (reading_of (machine_memory memory)) s.virt width purpose place).state
    → other ≡ with_stored 0 (completed (reading_of (machine_memory memory)) s.virt width purpose place).stored memory
    → ServesHart buffer (record s { virt = new }) other
serves_after buffer s new memory other width purpose place serves free is state stored =
    let (csrs, mode) = keeps_completed (reading_of (machine_memory memory)) s.virt width purpose place in
    let first = ap (λ (v : Virtual). v.first) (completed_same (reading_of (machine_memory memory)) s.virt width purpose place) in
    rw (state, stored, csrs, mode, first)
    (serves_completed buffer s.virt.first s.tag s.virt.csrs s.virt.mode memory (reading_of (machine_memory memory)) s.virt width purpose place serves free is.aligned is.to)

-- and after a change by which accesses are translated alike
pub serves_alike : (buffer : Buffer) (first : List FirstEntry) (owner : Tag) (csrs : Csrs) (mode : Mode) (other : Csrs) (other_mode : Mode) (memory : List ℕ)
    → HasSameTranslation csrs mode other other_mode → Serves buffer first owner csrs mode memory → Serves buffer first owner other other_mode memory
serves_alike buffer first owner csrs mode other other_mode memory (context, who) serves = record {
  context = serves.context ∙ sym context;
  who = serves.who ∙ ap (λ p. run_bits buffer.run + who_bits p) (sym who);
  slots = serves.slots;
  page = subst (λ p. PageStands (has_frame buffer.read) memory (translator first owner buffer.context) p buffer.page) (sym who) serves.page;
}

-- an access to data is completed alike whatever is cached
abbrev CompletesAlike : List FirstEntry → Completion → Completion → Type 0
CompletesAlike first one other = (one.state ≡ record other.state { first = first }) × (one.stored ≡ other.stored)

completed_alike : (reading : Reading) (virt : Virtual) (first : List FirstEntry) (width : Width) (purpose : Purpose) (place : ℕ)
    → CompletesAlike first (completed reading (record virt { first = first }) width purpose place) (completed reading virt width purpose place)
completed_alike reading virt first width (Load signed rd) place = (refl, refl)
completed_alike reading virt first width (LoadCode rd) place = (refl, refl)
completed_alike reading virt first width (Store value) place = (refl, refl)
completed_alike reading virt first width (Reserve rd) place = (refl, refl)
completed_alike reading virt first width (StoreReserved value rd) place = by (is_reserved virt.reservation place width)
  where
    by : (reserved : Bool) → CompletesAlike first (stored_if reserved (record virt { first = first }) width value rd place) (stored_if reserved virt width value rd place)
    by true = (refl, refl)
    by false = (refl, refl)
completed_alike reading virt first width (Modify op operand rd) place = (refl, refl)

-- so what it finds may be cached before
ends_at : (s filled : HartState) (memory other : List ℕ) (first : List FirstEntry) (event : Event) (wanted : DataAccess) (place : ℕ) (after : Virtual)
    → access_over memory s wanted.address wanted.width (kind_of wanted.purpose) ≡ At place → filled ≡ caching s first
    → after ≡ (completed (reading_of_memory memory) filled.virt wanted.width wanted.purpose place).state
    → other ≡ with_stored 0 (completed (reading_of_memory memory) filled.virt wanted.width wanted.purpose place).stored memory
    → attempt_of (caching s first) memory (accessed_data (mmu_on s memory) s.virt event wanted) ≡ Makes (record filled { virt = after }) other event
ends_at s filled memory other first event wanted place after at is state stored =
    let (one, two) = completed_alike (reading_of_memory memory) s.virt first wanted.width wanted.purpose place in
    rw (at, state, stored, is, one, two) refl

pub access_ends : (cached : Access → List FirstEntry) (s filled : HartState) (memory other : List ℕ) (access : Access) (event : Event) (wanted : DataAccess) (place : ℕ) (after : Virtual)
    → access ≡ kind_of wanted.purpose → access_over memory s wanted.address wanted.width access ≡ At place → filled ≡ caching s (cached access)
    → after ≡ (completed (reading_of_memory memory) filled.virt wanted.width wanted.purpose place).state
    → other ≡ with_stored 0 (completed (reading_of_memory memory) filled.virt wanted.width wanted.purpose place).stored memory
    → attempt_of (caching s (cached (kind_of wanted.purpose))) memory (accessed_data (mmu_on s memory) s.virt event wanted) ≡ Makes (record filled { virt = after }) other event
access_ends cached s filled memory other access event wanted place after kind at is state stored =
    ends_at s filled memory other (cached (kind_of wanted.purpose)) event wanted place after (subst (λ a. access_over memory s wanted.address wanted.width a ≡ At place) kind at)
    (is ∙ ap (λ a. caching s (cached a)) kind) state stored

-- where nothing is found
pub kept_ends : (s : HartState) (memory other : List ℕ) (event : Event) (wanted : DataAccess) (place : ℕ) (after : Virtual)
    → access_over memory s wanted.address wanted.width (kind_of wanted.purpose) ≡ At place
    → found_over memory s wanted.address wanted.width (kind_of wanted.purpose) ≡ []
    → after ≡ (completed (reading_of_memory memory) s.virt wanted.width wanted.purpose place).state
    → other ≡ with_stored 0 (completed (reading_of_memory memory) s.virt wanted.width wanted.purpose place).stored memory
    → attempt_of (caching_found s (found_over memory s wanted.address wanted.width (kind_of wanted.purpose))) memory (accessed_data (mmu_on s memory) s.virt event wanted) ≡ Makes (record s { virt = after }) other event
kept_ends s memory other event wanted place after at none state stored =
    let found = found_over memory s wanted.address wanted.width (kind_of wanted.purpose) in
    ends_at s s memory other (all_filled s.virt.first found) event wanted place after at (ap (caching s) (nothing_filled s.virt.first found none)) state stored
