-- Short runs, computed: a guest of the guest is entered while a stale translation is cached, after an
-- HFENCE.GVMA and without one; and an instruction is fetched by a stale first-stage translation, after a
-- fence that names it, after others and without one.
use Rattle.std.specs.Prelude.{ℕ, ◌≡◌, ◌+◌, ◌*◌, ◌^◌, true, false, List, [], ◌∷◌, ◌++◌}
use Rattle.arch_defs.specs.declared.cached.Entry.{Entry}
use Rattle.arch_defs.specs.declared.first.FirstEntry.{FirstEntry}
use Rattle.arch_defs.specs.declared.first.Tag.TheVariants.{Flat}
use Rattle.arch_defs.specs.declared.modes.Mode.{Mode}
use Rattle.arch_defs.specs.declared.modes.Mode.TheVariants.{HS, VS}
use Rattle.arch_defs.specs.declared.modes.TheConstants.{INSTRUCTION_ACCESS_FAULT}
use Rattle.arch_defs.specs.declared.registers.Csrs.{Csrs}
use Rattle.arch_defs.specs.declared.roots.GuestRoot.{GuestRoot}
use Rattle.arch_defs.specs.declared.roots.SupervisorMode.TheVariants.{Sv39}
use Rattle.arch_defs.specs.declared.roots.SupervisorRoot.{SupervisorRoot}
use Rattle.arch_defs.specs.declared.roots.SupervisorRoot.TheVariants.{Table}
use Rattle.arch_defs.specs.Clocks.{times_at_start}
use Rattle.arch_defs.specs.CsrBits.{guest_root_of}
use Rattle.arch_defs.specs.Memory.{ram_base}
use Rattle.arch_defs.specs.Registers.{csrs_at_reset, read, virtual_at}
use Rattle.guest_settings.specs.declared.statuses.Status.TheVariants.{Running}
use Rattle.machine_defs.specs.Fills.{needed}
use Rattle.machine_defs.specs.FreeMachines.{FreeMachine, FreeRun, free_of, while_active, while_folding}
use Rattle.machine_defs.specs.Machine.{Machine, Platform}
use Rattle.machine_defs.specs.Runs.{run}

-- RAM of three instructions: a first one, SRET, and ADDI x1, x0, 1
abbrev pub code_after : List ℕ → List ℕ
code_after first = first ++ (0x73 ∷ 0 ∷ 0x20 ∷ 0x10 ∷ 0x93 ∷ 0 ∷ 0x10 ∷ 0 ∷ [])

-- HFENCE.GVMA x0, x0, and NOP
abbrev pub fence_bytes : List ℕ
fence_bytes = 0x73 ∷ 0 ∷ 0 ∷ 0x62 ∷ []

abbrev pub nop : List ℕ
nop = 0x13 ∷ 0 ∷ 0 ∷ 0 ∷ []

-- hgatp: MODE Sv39x4, VMID 1, and a root outside RAM, so that no walk gives a leaf
unfoldable pub stale_root : GuestRoot
stale_root = guest_root_of (8 * 2 ^ 60 + 2 ^ 44)

-- HS, with an SRET to VS at the third instruction of the guest physical page 5
unfoldable pub csrs_before : Csrs
csrs_before = record csrs_at_reset {
  hs = record csrs_at_reset.hs { epc = 5 * 4096 + 8; status = record csrs_at_reset.hs.status { spp = true } };
  hstatus = record csrs_at_reset.hstatus { spv = true };
  hgatp = stale_root;
}

-- the first frame of RAM for page 5, which may be executed
unfoldable pub stale_entry : Entry
stale_entry = record { page = 5; frame = 0x80000; r = false; w = false; x = true; level = 0 }

-- a machine at the first instruction, which has cached this
unfoldable pub stale_machine : List ℕ → Machine
stale_machine first = record {
  platform = record {
    virt = record (virtual_at HS ram_base) { csrs = csrs_before };
    clock = times_at_start;
    console = record { bytes = []; room = 0; inputs = [] };
    steps = 0;
    status = Running;
  };
  ram = code_after first;
  spaces = record { key = stale_root; entries = stale_entry ∷ [] } ∷ [];
  space_room = 1;
  entry_room = needed;
  device = false;
}

-- how the runs end: with an instruction access fault, since no walk gives anything, or with the instruction,
-- by the stale translation
pub record HasFaulted (p : Platform) : Type 0 where
  pub mode : p.virt.mode ≡ HS
  pub cause : p.virt.csrs.hs.cause ≡ INSTRUCTION_ACCESS_FAULT

pub record HasExecuted (own : Mode) (p : Platform) : Type 0 where
  pub mode : p.virt.mode ≡ own
  pub value : read p.virt.regs 1 ≡ 1

-- the lone machine executes it where it made no fence, and else not
abbrev pub StaleIsUsed : Type 0
StaleIsUsed = HasExecuted VS (run (stale_machine nop) 3).platform

abbrev pub FencedFaults : Type 0
FencedFaults = HasFaulted (run (stale_machine fence_bytes) 3).platform

-- a free machine that caches while it folds may use the translation or drop it where it made no fence, and
-- else no free machine can use it
abbrev pub MayUseStale : Type 0
MayUseStale = (end : FreeMachine)
    × FreeRun while_folding 3 (free_of (stale_machine nop)) end × HasExecuted VS end.platform

abbrev pub MayDropStale : Type 0
MayDropStale = (end : FreeMachine)
    × FreeRun while_folding 3 (free_of (stale_machine nop)) end × HasFaulted end.platform

abbrev pub FencedFaultsFreely : Type 0
FencedFaultsFreely =
    (end : FreeMachine) → FreeRun while_active 3 (free_of (stale_machine fence_bytes)) end
    → HasFaulted end.platform

-- satp: MODE Sv39, ASID 1, and a root outside RAM
unfoldable pub stale_atp : SupervisorRoot
stale_atp = Table Sv39 1 0

-- for HS the first frame of RAM for page 5, which may be executed
unfoldable pub stale_first : FirstEntry
stale_first = record {
  tag = Flat;
  atp = stale_atp;
  page = 5;
  frame = 0x80000;
  r = false;
  w = false;
  x = true;
  u = false;
  level = 0;
}

-- a machine that has cached this, in HS at the first of the two instructions of page 5: this one, and ADDI
-- x1, x0, 1
unfoldable pub first_machine : List ℕ → Machine
first_machine first = record {
  platform = record {
    virt = record (virtual_at HS (5 * 4096)) {
      csrs = record csrs_at_reset { hs = record csrs_at_reset.hs { atp = stale_atp } };
      first = stale_first ∷ [];
    };
    clock = times_at_start;
    console = record { bytes = []; room = 0; inputs = [] };
    steps = 0;
    status = Running;
  };
  ram = first ++ (0x93 ∷ 0 ∷ 0x10 ∷ 0 ∷ []);
  spaces = [];
  space_room = 1;
  entry_room = needed;
  device = false;
}

-- SFENCE.VMA x0, x0, and HFENCE.VVMA x0, x0
abbrev pub sfence_bytes : List ℕ
sfence_bytes = 0x73 ∷ 0 ∷ 0 ∷ 0x12 ∷ []

abbrev pub hfence_bytes : List ℕ
hfence_bytes = 0x73 ∷ 0 ∷ 0 ∷ 0x22 ∷ []

-- it executes the second instruction by this translation where it made no fence, or one of those that name
-- translations with V = 1 alone, and else not
abbrev pub StaleFirstIsUsed : Type 0
StaleFirstIsUsed = HasExecuted HS (run (first_machine nop) 2).platform

abbrev pub OtherFencesKeepFirst : Type 0
OtherFencesKeepFirst = HasExecuted HS (run (first_machine hfence_bytes) 2).platform
    × HasExecuted HS (run (first_machine fence_bytes) 2).platform

abbrev pub FencedFirstFaults : Type 0
FencedFirstFaults = HasFaulted (run (first_machine sfence_bytes) 2).platform
