-- The first stage, whose table is read through the second (Privileged Architecture 20211203, 4.3.2, 4.4 and
-- 8.5).
use Rattle.std.specs.Prelude.{ℕ, ◌%◌, ◌^◌, true, false, ◌||◌, Option, Some, None, Result, Ok, Err, if◌then◌else◌}
use Rattle.arch_defs.specs.declared.modes.Access.{Access}
use Rattle.arch_defs.specs.declared.modes.Access.TheVariants.{Implicit}
use Rattle.arch_defs.specs.declared.modes.Mode.{Mode}
use Rattle.arch_defs.specs.declared.modes.Mode.TheVariants.{HS, U, VS, VU}
use Rattle.arch_defs.specs.declared.modes.Trap.{Trap}
use Rattle.arch_defs.specs.declared.modes.TheConstants.{LOAD_ACCESS_FAULT}
use Rattle.arch_defs.specs.declared.registers.SupervisorCsrs.{SupervisorCsrs}
use Rattle.arch_defs.specs.declared.registers.Csrs.{Csrs}
use Rattle.arch_defs.specs.declared.roots.SupervisorRoot.{SupervisorRoot}
use Rattle.arch_defs.specs.declared.roots.SupervisorRoot.TheVariants as root
use Rattle.arch_defs.specs.declared.walks.Found.{Found}
use Rattle.arch_defs.specs.declared.walks.Found.TheVariants.{Passes, PageFaults, MissesEntry}
use Rattle.arch_defs.specs.declared.walks.Privilege.{Privilege}
use Rattle.arch_defs.specs.declared.walks.WalkEnd.{WalkEnd}
use Rattle.arch_defs.specs.declared.walks.WalkEnd.TheVariants.{Leaf, PageFault, FetchEnd}
use Rattle.arch_defs.specs.Memory.{Reading, SecondStage}
use Rattle.arch_defs.specs.Permits.{permits_first}
use Rattle.arch_defs.specs.Roots.{supervisor_shape}
use Rattle.arch_defs.specs.TableEntries.{leaf_with}
use Rattle.arch_defs.specs.Walk.{EntryReading, leaf_address, walk}

-- the registers of the level whose table translates: HS's with V = 0, VS's with V = 1 (8.2.18)
abbrev pub supervisor_of : Csrs → Mode → SupervisorCsrs
supervisor_of csrs HS = csrs.hs
supervisor_of csrs U = csrs.hs
supervisor_of csrs VS = csrs.vs
supervisor_of csrs VU = csrs.vs

-- as whom a mode's accesses are translated: with V = 1 sstatus.MXR counts beside vsstatus.MXR (8.5)
abbrev pub privilege_of : Csrs → Mode → Privilege
privilege_of csrs HS = record { user = false; sum = csrs.hs.status.sum; mxr = csrs.hs.status.mxr }
privilege_of csrs U = record { user = true; sum = csrs.hs.status.sum; mxr = csrs.hs.status.mxr }
privilege_of csrs VS =
    record { user = false; sum = csrs.vs.status.sum; mxr = csrs.vs.status.mxr || csrs.hs.status.mxr }
privilege_of csrs VU =
    record { user = true; sum = csrs.vs.status.sum; mxr = csrs.vs.status.mxr || csrs.hs.status.mxr }

-- the trap of the read of an entry by itself, where the second stage has no place for it. A walk hands it on,
-- and the access that the walk serves gets a trap of its own in its place
abbrev pub unread : ℕ → Trap
unread at = record {
  cause = LOAD_ACCESS_FAULT;
  interrupt = false;
  tval = at;
  tval2 = 0;
  gva = false;
  implicit = true;
}

-- the word of the entry at a guest physical address, by its physical address, if it has one
abbrev pub entry_word_at : Reading → ℕ → Option ℕ → Result ℕ Trap
entry_word_at reading at (Some place) = Ok (reading place 8)
entry_word_at reading at None = Err (unread at)

-- the words of entries, each at the place that the second stage has for it
abbrev pub entry_words_through : SecondStage → Reading → EntryReading
entry_words_through second reading at = entry_word_at reading at (second at Implicit)

-- what a walk's end is to an access
abbrev pub found_by : Privilege → Access → ℕ → WalkEnd → Found
found_by privilege access va (Leaf frame level r w x u) =
    let leaf = leaf_with frame level r w x u in
    if permits_first privilege access leaf then Passes (leaf_address leaf va) else PageFaults
found_by privilege access va PageFault = PageFaults
found_by privilege access va (FetchEnd place trap) = MissesEntry place

-- Bare passes each address on (4.1.11)
abbrev pub found_under : SecondStage → Reading → Privilege → ℕ → Access → SupervisorRoot → Found
found_under second reading privilege va access root.Bare = Passes va
found_under second reading privilege va access (root.Table mode asid ppn) =
    found_by privilege access va
    (walk (entry_words_through second reading) (ppn % 2 ^ 44) (supervisor_shape mode) va access)

-- what the first stage makes of a virtual address for an access
unfoldable pub first_stage : SecondStage → Reading → Csrs → Mode → ℕ → Access → Found
first_stage second reading csrs mode va access =
    found_under second reading (privilege_of csrs mode) va access (supervisor_of csrs mode).atp
