-- The fills of a step: which cached translation a machine's next instruction lacks, and what fills leave
-- (own, within what Privileged Architecture 20211203, 8.3.2 and 8.5, permits).
use Rattle.std.specs.Prelude.{ℕ, zero, suc, ◌+◌, Bool, List, [], ◌∷◌, Option, Some, None, if◌then◌else◌}
use Rattle.arch_defs.specs.declared.cached.Entry.{Entry}
use Rattle.arch_defs.specs.declared.registers.Csrs.{Csrs}
use Rattle.arch_defs.specs.declared.registers.Virtual.{Virtual}
use Rattle.arch_defs.specs.CachedEntries.{device_by_entries, filled, second_by}
use Rattle.arch_defs.specs.Interrupts.{due}
use Rattle.arch_defs.specs.Memory.{Known, mmu, ram_memory, reading_of}
use Rattle.arch_defs.specs.Spaces.{Space}
use Rattle.arch_defs.specs.WalkedEntries.{entry_by_walk, folds}
use Rattle.machine_defs.specs.Core.{core}
use Rattle.machine_defs.specs.FirstLeaves.{known_of, tag_of}
use Rattle.machine_defs.specs.Machine.{Machine}
use Rattle.machine_defs.specs.Outcomes.{Missed, Outcome}

-- what an instruction lacks: where it stops at an access without a place, what is filled for that; nothing,
-- where a cached translation has the access on the device page
abbrev pub missing_entry_at : Bool → Csrs → List ℕ → List Entry → Outcome → Option Entry
missing_entry_at device csrs ram entries (Missed missing wanted) =
    if device_by_entries entries csrs.hs.status.mxr missing.address missing.kind then None
    else entry_by_walk device csrs ram missing.address missing.kind
missing_entry_at device csrs ram entries _ = None

-- what the next instruction of a state that folds lacks under these entries, by what is known of virtual
-- addresses
unfoldable pub missing_entry_under : Bool → Known → Virtual → List ℕ → List Entry → Option Entry
missing_entry_under device known virt ram entries =
    missing_entry_at device virt.csrs ram entries
    (core (mmu known (second_by entries virt.csrs.hs.status.mxr) (reading_of (ram_memory ram))) virt)

-- under those of the front space; where an interrupt is due, nothing
abbrev pub missing_entry_with : Bool → Known → Virtual → List ℕ → List Space → Option ℕ → Option Entry
missing_entry_with device known virt ram [] code = None
missing_entry_with device known virt ram (s ∷ ss) (Some code) = None
missing_entry_with device known virt ram (s ∷ ss) None = missing_entry_under device known virt ram s.entries

-- what the next try of a machine lacks
unfoldable pub missing_entry : Machine → Option Entry
missing_entry m = let virt = m.platform.virt in
    if folds virt
    then missing_entry_with m.device (known_of virt.first (tag_of virt) virt) virt m.ram m.spaces
    (due virt.csrs virt.mode)
    else None

-- an entry is filled into the front space
abbrev pub filled_front : ℕ → List Space → Entry → List Space
filled_front most [] e = []
filled_front most (s ∷ ss) e = record s { entries = filled most s.entries e } ∷ ss

abbrev pub fill : Machine → Entry → Machine
fill m e = record m { spaces = filled_front m.entry_room m.spaces e }

-- a machine after the fills of its next step, at most that many
abbrev pub after_fill : (Machine → Machine) → Machine → Option Entry → Machine
after_fill others m None = m
after_fill others m (Some e) = others (fill m e)

unfoldable pub after_fills : ℕ → Machine → Machine
after_fills zero m = m
after_fills (suc n) m = after_fill (after_fills n) m (missing_entry m)

-- how many translations an instruction asks for at most: those of four first-stage entries and of the
-- address itself, for pc and for the data
abbrev pub needed : ℕ
needed = 10

-- how many fills a step makes at most
abbrev pub most_fills : Machine → ℕ
most_fills m = m.entry_room + needed

-- how many tries a step takes at most where a space has room for that many entries: one after each fill, and
-- the first
abbrev pub most_tries : ℕ → ℕ
most_tries room = room + needed + 1

-- the machine at the last try of its next step
abbrev pub ready : Machine → Machine
ready m = after_fills (most_fills m) m

-- how many fills the next step of a machine makes, of at most that many
abbrev pub counted : (Machine → ℕ) → Machine → Option Entry → ℕ
counted others m None = 0
counted others m (Some e) = others (fill m e) + 1

unfoldable pub fills : ℕ → Machine → ℕ
fills zero m = 0
fills (suc n) m = counted (fills n) m (missing_entry m)
