-- HLV, HLVX and HSV, whose access the host makes on the guest's RAM, or on the device page.
use Rattle.std.specs.Prelude.{[], ◌∷◌, ◌&&◌, ◌%◌, IfSome, not, option_map}
use Rattle.std.proofs.Common.{◌≡◌, ℕ, ◌∙◌, Bool, true, false, List, Option, Some, None, refl, ap, sym, subst}
use Rattle.arch_defs.specs.declared.csr_names.CsrEnd.{CsrEnd}
use Rattle.arch_defs.specs.declared.first.FirstEntry.{FirstEntry}
use Rattle.arch_defs.specs.declared.modes.Trap.{Trap}
use Rattle.arch_defs.specs.declared.registers.Virtual.{Virtual}
use Rattle.arch_defs.specs.declared.walks.MissingPlace.{MissingPlace}
use Rattle.arch_defs.specs.declared.widths.Width.{Width}
use Rattle.arch_defs.specs.Consoles.{ConsoleState}
use Rattle.arch_defs.specs.Devices.{DeviceEnd, device_loaded, device_stored}
use Rattle.arch_defs.specs.Memory.{Mmu, ram_memory, reading_of}
use Rattle.arch_defs.specs.Ram.{ram_of}
use Rattle.arch_defs.specs.Traps.{is_virtual, missing_place_fault}
use Rattle.arch_defs.specs.Roots.{is_table}
use Rattle.arch_defs.specs.Widths.{bytes_in}
use Rattle.op_defs.specs.declared.ops.DataAccess.{DataAccess}
use Rattle.op_defs.specs.declared.ops.Op.{Op}
use Rattle.op_defs.specs.declared.ops.Op.TheVariants as op
use Rattle.op_defs.specs.declared.ops.Privileged.TheVariants.{HlvAccess}
use Rattle.op_defs.specs.declared.ops.Purpose.{Purpose}
use Rattle.op_defs.specs.declared.ops.Purpose.TheVariants.{Load, LoadCode, Store, Reserve, StoreReserved, Modify}
use Rattle.op_defs.specs.Meaning.{meaning}
use Rattle.machine_defs.specs.Core.{decoded}
use Rattle.machine_defs.specs.Privileges.{decided, privileged, refusal}
use Rattle.rv64_asm.specs.Words.{encoded}
use Rattle.machine_defs.specs.DeviceSteps.{DeviceCompletion, device_completed, served, with_loaded, with_put}
use Rattle.machine_defs.specs.HlvAccesses.{Completes, Device, HlvEnd, Traps, hlv_outcome}
use Rattle.machine_defs.specs.Machine.{Machine, ticked, trapped, with_pending_lines, with_registers}
use Rattle.machine_defs.specs.Outcomes.{Outcome, Done, Trapped, Missed, Called, Waits, Fenced, FirstFenced, Accesses}
use Rattle.machine_defs.specs.declared.events.Event.TheVariants.{System}
use Rattle.machine_defs.specs.Runs.{event_in, left_by}
use Rattle.machine_defs.specs.Tries.{apply_outcome, device_of, enters, hlv_committed}
use Rattle.instruction_laws.specs.InstructionEnds.{HlvHas}
use Rattle.instruction_laws.proofs.Completions.{completed_same, hlv_each}
use Rattle.hcsr_emulation.specs.declared.registers.Accessed.{Accessed}
use Rattle.hcsr_emulation.specs.declared.registers.Accessed.TheVariants as answer
use Rattle.hlv_hsv.specs.Ends.{EndsAs, EndsBy, HlvState, IsHlvOrHsv, hlv_left, hlv_state, served_from}
use Rattle.guest_exit.specs.declared.guests.Guest.{Guest}
use Rattle.guest_exit.specs.Steps.{IsNotPlain}
use Rattle.guest_exit.specs.View.{KeepsSpaces, machine_of, platform_of}
use Rattle.guest_exit.proofs.Alone.{machine_as}
use Rattle.guest_exit.proofs.Missed.{served_is_quiet}

-- where such an instruction completes, the mode stays
abbrev KeepsMode : Virtual → HlvEnd → Type 0
KeepsMode s end = HlvHas (λ completion. completion.state.mode ≡ s.mode) end

completion_keeps : (device : Bool) (ram : List ℕ) (s : Virtual) (wanted : DataAccess) → KeepsMode s (hlv_outcome device (ram_memory ram) s wanted)
completion_keeps device ram s wanted =
    hlv_each (λ completion. completion.state.mode ≡ s.mode) device (ram_memory ram) s wanted
    (λ place. ap (λ (v : Virtual). v.mode) (completed_same (reading_of (ram_memory ram)) s wanted.width wanted.purpose place))

-- and so do the first-stage translations
abbrev KeepsBuffer : Virtual → HlvEnd → Type 0
KeepsBuffer s end = HlvHas (λ completion. completion.state.first ≡ s.first) end

buffer_stays : (device : Bool) (ram : List ℕ) (s : Virtual) (wanted : DataAccess) → KeepsBuffer s (hlv_outcome device (ram_memory ram) s wanted)
buffer_stays device ram s wanted =
    hlv_each (λ completion. completion.state.first ≡ s.first) device (ram_memory ram) s wanted
    (λ place. ap (λ (v : Virtual). v.first) (completed_same (reading_of (ram_memory ram)) s wanted.width wanted.purpose place))

abbrev ServesWith : Virtual → Option DeviceCompletion → Type 0
ServesWith s completion = IfSome completion (λ c. c.virt.first ≡ s.first)

loaded_with : (s : Virtual) (width : Width) (signed : Bool) (rd : ℕ) (end : Option DeviceEnd) → ServesWith s (option_map (with_loaded s width signed rd) end)
loaded_with s width signed rd None = tt
loaded_with s width signed rd (Some end) = refl

put_with : (s : Virtual) (end : Option DeviceEnd) → ServesWith s (option_map (with_put s) end)
put_with s None = tt
put_with s (Some end) = refl

served_with : (s : Virtual) (console : ConsoleState) (clock offset : ℕ) (width : Width) (purpose : Purpose) → ServesWith s (device_completed s console clock offset width purpose)
served_with s console clock offset width (Load signed rd) = loaded_with s width signed rd (device_loaded offset (bytes_in width) console clock)
served_with s console clock offset width (LoadCode rd) = tt
served_with s console clock offset width (Store value) = put_with s (device_stored offset (bytes_in width) value console)
served_with s console clock offset width (Reserve rd) = tt
served_with s console clock offset width (StoreReserved value rd) = tt
served_with s console clock offset width (Modify op operand rd) = tt

-- it ends the same whatever is cached
access_alike : (s : Virtual) (first : List FirstEntry) (word : ℕ) (wanted : DataAccess)
    → privileged (record s { first = first }) word (HlvAccess wanted) ≡ privileged s word (HlvAccess wanted)
unfolding privileged
access_alike s first word wanted = by (refusal (HlvAccess wanted) s.csrs.hstatus s.mode)
  where
    by : (refusal : Option CsrEnd) → decided (record s { first = first }) word (HlvAccess wanted) refusal ≡ decided s word (HlvAccess wanted) refusal
    by (Some end) = refl
    by None = refl

pub hlv_alike : (through : Mmu) (s : Virtual) (first : List FirstEntry) (o : Op) → IsHlvOrHsv o
    → decoded through (record s { first = first }) (encoded o) (Some o) ≡ decoded through s (encoded o) (Some o)
unfolding meaning
hlv_alike through s first (op.GuestLoad width signed rd rs1) is = access_alike s first (encoded (op.GuestLoad width signed rd rs1)) _
hlv_alike through s first (op.GuestFetch width rd rs1) is = access_alike s first (encoded (op.GuestFetch width rd rs1)) _
hlv_alike through s first (op.GuestStore width rs1 rs2) is = access_alike s first (encoded (op.GuestStore width rs1 rs2)) _
hlv_alike through s first other never = absurd never

-- it is not a plain step
quiet_by : (m : Machine) (wanted : DataAccess) (end : HlvEnd) → IsNotPlain (hlv_committed m wanted end)
quiet_by m wanted (Completes completion) = record { trace = refl; plain = refl }
quiet_by m wanted (Device missing) = served_is_quiet m missing _
quiet_by m wanted (Traps trap) = record { trace = refl; plain = refl }

pub access_is_quiet : (m : Machine) (end : Outcome) (device : Bool) (before after : HlvState) (given : Accessed)
    → EndsBy device before end given after → IsNotPlain (apply_outcome (device_of m) m end)
access_is_quiet m (Accesses wanted) device before after given ends = quiet_by m wanted (hlv_outcome m.device (ram_memory m.ram) m.platform.virt wanted)
access_is_quiet m (Trapped trap) device before after given ends = record { trace = refl; plain = refl }
access_is_quiet m (Done state stored event) device before after given ends = absurd ends
access_is_quiet m (Missed missing wanted) device before after given ends = absurd ends
access_is_quiet m Called device before after given ends = absurd ends
access_is_quiet m (Waits state) device before after given ends = absurd ends
access_is_quiet m (Fenced state fence) device before after given ends = absurd ends
access_is_quiet m (FirstFenced state named fence) device before after given ends = absurd ends

-- nor does it set V
never_both : (virtual table : Bool) → (not virtual && (virtual && table)) ≡ false
never_both true table = refl
never_both false table = refl

never_enters : (before after : Virtual) → after.mode ≡ before.mode → enters before after ≡ false
never_enters before after mode = rw mode (never_both (is_virtual before.mode) (is_table after.csrs.hgatp))

-- what it is made on of a guest, and after it
abbrev pub state_in : Guest → List ℕ → HlvState
state_in guest memory = hlv_state guest.virt (ram_memory (ram_of guest.part.blocks memory)) guest.console

-- the clock of the page is the guest's
abbrev pub ShowsTime : Guest → Type 0
ShowsTime guest = guest.virt.csrs.time ≡ guest.clock.time

pub shows_time : (guest : Guest) → with_pending_lines (platform_of guest) ≡ platform_of guest → ShowsTime guest
shows_time guest current = sym (ap (λ p. p.virt.csrs.time) current)

-- so where it is made, the machine of the guest is the one after it, whatever the machine of a wait for good would be
module _ (old new : Guest) (base : Machine) (memory changed : List ℕ) (virt : Virtual) (console : ConsoleState) (fixed : KeepsSpaces old new)
    (platform : platform_of new ≡ ticked (record (platform_of old) { virt = virt; console = console })) where
  abbrev after : HlvState
  after = hlv_state virt (ram_memory (ram_of old.part.blocks changed)) console

  -- by what is left of the registers, which have the translations that there were
  registers_by : (v : Virtual) (c : ConsoleState) → v.first ≡ old.virt.first → v ≡ virt → c ≡ console
      → platform_of new ≡ ticked (record (with_registers (platform_of old) v) { console = c })
  registers_by v c keeps is consoles = platform
      ∙ ap (λ (v : Virtual). ticked (record (platform_of old) { virt = v; console = console })) (sym is)
      ∙ ap (λ c. ticked (record (platform_of old) { virt = v; console = c })) (sym consoles)
      ∙ ap (λ first. ticked (record (platform_of old) { virt = record v { first = first }; console = c })) keeps

  serves_by : (missing : MissingPlace) (completion : Option DeviceCompletion) → ServesWith old.virt completion
      → EndsAs (served_from (state_in old memory) (missing_place_fault missing) completion) answer.Done after
      → machine_of new changed ≡ left_by base (served (machine_of old memory) missing completion)
  serves_by missing None keeps never = absurd never
  serves_by missing (Some completion) keeps is =
      machine_as old new memory changed _ _ _ fixed.part fixed.device
      (registers_by completion.virt completion.console keeps (sym (ap (λ (a : HlvState). a.virt) is)) (sym (ap (λ (a : HlvState). a.console) is)))
      (ap (λ (a : HlvState). a.memory.bytes) is) (rw fixed.pool refl) (rw fixed.pool refl) (rw fixed.pool refl)

  made_by : (wanted : DataAccess) (end : HlvEnd) → KeepsMode old.virt end → KeepsBuffer old.virt end → ShowsTime old
      → EndsAs (hlv_left wanted (state_in old memory) end) answer.Done after
      → machine_of new changed ≡ left_by base (hlv_committed (machine_of old memory) wanted end)
  made_by wanted (Completes completion) keeps buffer time is =
      rw (never_enters old.virt completion.state keeps)
      (machine_as old new memory changed _ _ _ fixed.part fixed.device
      (registers_by completion.state old.console buffer (sym (ap (λ (a : HlvState). a.virt) is)) (sym (ap (λ (a : HlvState). a.console) is)))
      (ap (λ (a : HlvState). a.memory.bytes) is) (rw fixed.pool refl) (rw fixed.pool refl) (rw fixed.pool refl))
  made_by wanted (Device missing) keeps buffer time is =
      serves_by missing (device_completed old.virt old.console old.clock.time (missing.address % 4096) wanted.width wanted.purpose)
      (served_with old.virt old.console old.clock.time (missing.address % 4096) wanted.width wanted.purpose)
      (subst (λ clock. EndsAs (served_from (state_in old memory) (missing_place_fault missing) (device_completed old.virt old.console clock (missing.address % 4096) wanted.width wanted.purpose)) answer.Done after)
      time is)
  made_by wanted (Traps trap) keeps buffer time never = absurd never

  pub access_made : (end : Outcome) → ShowsTime old → EndsBy old.device (state_in old memory) end answer.Done after
      → machine_of new changed ≡ left_by base (apply_outcome (device_of (machine_of old memory)) (machine_of old memory) end)
  access_made (Accesses wanted) time ends =
      made_by wanted (hlv_outcome old.device (ram_memory (ram_of old.part.blocks memory)) old.virt wanted) (completion_keeps old.device (ram_of old.part.blocks memory) old.virt wanted)
      (buffer_stays old.device (ram_of old.part.blocks memory) old.virt wanted) time ends
  access_made (Trapped trap) time ends = cc
  access_made (Done state stored event) time ends = absurd ends
  access_made (Missed missing wanted) time ends = absurd ends
  access_made Called time ends = absurd ends
  access_made (Waits state) time ends = absurd ends
  access_made (Fenced state fence) time ends = absurd ends
  access_made (FirstFenced state named fence) time ends = absurd ends

  -- and its event is one of opcode SYSTEM
  serves_event : (missing : MissingPlace) (completion : Option DeviceCompletion)
      → EndsAs (served_from (state_in old memory) (missing_place_fault missing) completion) answer.Done after → event_in (served (machine_of old memory) missing completion) ≡ System ∷ []
  serves_event missing None never = absurd never
  serves_event missing (Some completion) is = refl

  made_event : (wanted : DataAccess) (end : HlvEnd) → ShowsTime old → EndsAs (hlv_left wanted (state_in old memory) end) answer.Done after
      → event_in (hlv_committed (machine_of old memory) wanted end) ≡ System ∷ []
  made_event wanted (Completes completion) time is = refl
  made_event wanted (Device missing) time is =
      serves_event missing (device_completed old.virt old.console old.clock.time (missing.address % 4096) wanted.width wanted.purpose)
      (subst (λ clock. EndsAs (served_from (state_in old memory) (missing_place_fault missing) (device_completed old.virt old.console clock (missing.address % 4096) wanted.width wanted.purpose)) answer.Done after)
      time is)
  made_event wanted (Traps trap) time never = absurd never

  pub access_event : (end : Outcome) → ShowsTime old → EndsBy old.device (state_in old memory) end answer.Done after
      → event_in (apply_outcome (device_of (machine_of old memory)) (machine_of old memory) end) ≡ System ∷ []
  access_event (Accesses wanted) time ends = made_event wanted (hlv_outcome old.device (ram_memory (ram_of old.part.blocks memory)) old.virt wanted) time ends
  access_event (Trapped trap) time ends = cc
  access_event (Done state stored event) time ends = absurd ends
  access_event (Missed missing wanted) time ends = absurd ends
  access_event Called time ends = absurd ends
  access_event (Waits state) time ends = absurd ends
  access_event (Fenced state fence) time ends = absurd ends
  access_event (FirstFenced state named fence) time ends = absurd ends

-- and where it traps, the trap is the machine's
module _ (m : Machine) (time : m.platform.virt.csrs.time ≡ m.platform.clock.time) (raised : Trap) (after : HlvState) where
  abbrev before : HlvState
  before = hlv_state m.platform.virt (ram_memory m.ram) m.platform.console

  fault_by : (missing : MissingPlace) (completion : Option DeviceCompletion)
      → EndsAs (served_from before (missing_place_fault missing) completion) (answer.Raise raised) after → trapped m raised ≡ served m missing completion
  fault_by missing None is = ap (trapped m) is
  fault_by missing (Some completion) never = absurd never

  traps_by : (wanted : DataAccess) (end : HlvEnd) → EndsAs (hlv_left wanted before end) (answer.Raise raised) after → trapped m raised ≡ hlv_committed m wanted end
  traps_by wanted (Completes completion) never = absurd never
  traps_by wanted (Device missing) is =
      fault_by missing (device_completed m.platform.virt m.platform.console m.platform.clock.time (missing.address % 4096) wanted.width wanted.purpose)
      (subst (λ clock. EndsAs (served_from before (missing_place_fault missing) (device_completed m.platform.virt m.platform.console clock (missing.address % 4096) wanted.width wanted.purpose)) (answer.Raise raised) after)
      time is)
  traps_by wanted (Traps trap) is = ap (trapped m) is

  same_raised : (trap : Trap) → answer.Raise raised ≡ answer.Raise trap → trapped m raised ≡ trapped m trap
  same_raised trap e = cc

  pub access_traps : (end : Outcome) → EndsBy m.device before end (answer.Raise raised) after → trapped m raised ≡ apply_outcome (device_of m) m end
  access_traps (Accesses wanted) ends = traps_by wanted (hlv_outcome m.device (ram_memory m.ram) m.platform.virt wanted) ends
  access_traps (Trapped trap) ends = same_raised trap ends
  access_traps (Done state stored event) ends = absurd ends
  access_traps (Missed missing wanted) ends = absurd ends
  access_traps Called ends = absurd ends
  access_traps (Waits state) ends = absurd ends
  access_traps (Fenced state fence) ends = absurd ends
  access_traps (FirstFenced state named fence) ends = absurd ends
