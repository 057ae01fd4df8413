-- The cached translations by which a step's accesses go: of the first stage for pc and for data, and of the
-- second for each address that they need (Privileged Architecture 20211203, 4.2.1, 4.3.2, 8.3.2 and 8.5).
-- HLV, HLVX and HSV use none (own).
use Rattle.std.specs.Prelude.{ℕ, ◌/◌, ◌%◌, ◌^◌, ◌==◌, List, [], ◌∷◌, ◌++◌, Option, Some, None, find, map, if◌then◌else◌}
use Rattle.std.specs.List.{flat_map}
use Rattle.arch_defs.specs.declared.cached.Entry.{Entry}
use Rattle.arch_defs.specs.declared.first.FirstEntry.{FirstEntry}
use Rattle.arch_defs.specs.declared.modes.Access.{Access}
use Rattle.arch_defs.specs.declared.modes.Access.TheVariants.{Fetch, Implicit}
use Rattle.arch_defs.specs.declared.registers.Virtual.{Virtual}
use Rattle.arch_defs.specs.declared.roots.SupervisorRoot.{SupervisorRoot}
use Rattle.arch_defs.specs.declared.roots.SupervisorRoot.TheVariants as root
use Rattle.arch_defs.specs.declared.walks.Found.{Found}
use Rattle.arch_defs.specs.declared.walks.Found.TheVariants.{Passes, PageFaults, MissesEntry}
use Rattle.arch_defs.specs.declared.widths.Width.{Width}
use Rattle.arch_defs.specs.declared.widths.Width.TheVariants.{Word}
use Rattle.arch_defs.specs.CachedEntries.{entry_at, leaf_of}
use Rattle.arch_defs.specs.FirstEntries.{first_leaf, is_first_of}
use Rattle.arch_defs.specs.Interrupts.{due}
use Rattle.arch_defs.specs.Memory.{Mmu}
use Rattle.arch_defs.specs.Permits.{permits_first, permits_second}
use Rattle.arch_defs.specs.Roots.{supervisor_shape}
use Rattle.arch_defs.specs.Spaces.{front}
use Rattle.arch_defs.specs.Translation.{entry_words_through, first_stage, privilege_of, supervisor_of}
use Rattle.arch_defs.specs.Walk.{path}
use Rattle.arch_defs.specs.WalkedEntries.{folds}
use Rattle.arch_defs.specs.Widths.{bytes_in}
use Rattle.op_defs.specs.declared.ops.DataAccess.{DataAccess}
use Rattle.machine_defs.specs.Core.{fetch_place, kind_of}
use Rattle.machine_defs.specs.FirstLeaves.{tag_of}
use Rattle.machine_defs.specs.Machine.{Machine}
use Rattle.machine_defs.specs.Tries.{mmu_of}
use Rattle.instruction_laws.specs.MissedPlaces.{wanted_at}
use Rattle.run_log.specs.declared.uses.Use.{Use}
use Rattle.run_log.specs.declared.uses.Use.TheVariants.{First, Second}

-- the translation of a page, if there is one, serves the accesses that it permits
abbrev pub first_if : Virtual → ℕ → Access → Option FirstEntry → List Use
first_if virt va access (Some e) =
    if permits_first (privilege_of virt.csrs virt.mode) access (first_leaf e) then First e va access ∷ []
    else []
first_if virt va access None = []

abbrev pub second_if : Virtual → ℕ → Access → Option Entry → List Use
second_if virt address kind (Some e) =
    if permits_second virt.csrs.hs.status.mxr kind (leaf_of e) then Second e address kind ∷ [] else []
second_if virt address kind None = []

-- the first stage, where satp or vsatp names a table
abbrev pub first_under : Virtual → ℕ → Access → SupervisorRoot → List Use
first_under virt va access root.Bare = []
first_under virt va access (root.Table mode asid ppn) = first_if virt va access
    (find (is_first_of (tag_of virt) (root.Table mode asid ppn) (va / 4096)) virt.first)

abbrev pub first_uses : Virtual → ℕ → Access → List Use
first_uses virt va access = first_under virt va access (supervisor_of virt.csrs virt.mode).atp

-- the second stage, while the state folds, by the entries of the front space
abbrev pub second_uses : Virtual → List Entry → ℕ → Access → List Use
second_uses virt entries address kind =
    if folds virt then second_if virt address kind (entry_at (address / 4096) entries) else []

-- the entries of the first-stage table that are read where the address is not known
abbrev pub entries_read : Mmu → ℕ → Access → SupervisorRoot → List ℕ
entries_read through va access root.Bare = []
entries_read through va access (root.Table mode asid ppn) = map (λ met. met.place)
    (path (entry_words_through through.second through.reading) (ppn % 2 ^ 44) (supervisor_shape mode) va
    access)

-- what the first stage passes on
abbrev pub passed_uses : Virtual → List Entry → Access → Found → List Use
passed_uses virt entries access (Passes address) = second_uses virt entries address access
passed_uses virt entries access PageFaults = []
passed_uses virt entries access (MissesEntry place) = []

-- an access by what is known of its address, or else by the walk
abbrev pub uses_if_known : Virtual → List Entry → Mmu → ℕ → Access → Option ℕ → List Use
uses_if_known virt entries through va access (Some address) =
    first_uses virt va access ++ second_uses virt entries address access
uses_if_known virt entries through va access None =
    flat_map (λ place. second_uses virt entries place Implicit)
    (entries_read through va access (supervisor_of virt.csrs virt.mode).atp)
    ++ passed_uses virt entries access
    (first_stage through.second through.reading virt.csrs virt.mode va access)

abbrev pub access_uses : Virtual → List Entry → Mmu → ℕ → Width → Access → List Use
access_uses virt entries through va width access =
    if va % bytes_in width == 0
    then uses_if_known virt entries through va access (through.known va access) else []

-- the access to data of its instruction
abbrev pub data_uses : Virtual → List Entry → Mmu → Option DataAccess → List Use
data_uses virt entries through (Some wanted) =
    access_uses virt entries through wanted.address wanted.width (kind_of wanted.purpose)
data_uses virt entries through None = []

abbrev pub data_next : Machine → Option DataAccess
data_next m = let through = mmu_of m in
    wanted_at through.reading m.platform.virt (fetch_place through m.platform.virt)

-- where an interrupt is due no access is made
abbrev pub uses_with : Machine → Option ℕ → List Use
uses_with m (Some code) = []
uses_with m None = let virt = m.platform.virt in let entries = front m.spaces in let through = mmu_of m in
    access_uses virt entries through virt.regs.pc Word Fetch
    ++ data_uses virt entries through (data_next m)

-- those of a machine's last try
unfoldable pub uses : Machine → List Use
uses m = uses_with m (due m.platform.virt.csrs m.platform.virt.mode)
