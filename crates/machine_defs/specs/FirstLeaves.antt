-- The first-stage translations that one instruction finds by walks: that of its access at pc, and then that
-- of its access to data, each where a leaf permits the access (own, within what Privileged Architecture
-- 20211203, 4.2.1, permits). HLV, HLVX and HSV find none.
use Rattle.std.specs.Prelude.{ℕ, ◌%◌, ◌^◌, ◌==◌, List, [], ◌∷◌, ◌++◌, Option, Some, None, option_map, if◌then◌else◌}
use Rattle.arch_defs.specs.declared.first.FirstEntry.{FirstEntry}
use Rattle.arch_defs.specs.declared.first.Tag.{Tag}
use Rattle.arch_defs.specs.declared.first.Tag.TheVariants.{Flat, Nested}
use Rattle.arch_defs.specs.declared.modes.Access.{Access}
use Rattle.arch_defs.specs.declared.modes.Access.TheVariants.{Fetch}
use Rattle.arch_defs.specs.declared.modes.Mode.{Mode}
use Rattle.arch_defs.specs.declared.registers.Virtual.{Virtual}
use Rattle.arch_defs.specs.declared.roots.GuestRoot.{GuestRoot}
use Rattle.arch_defs.specs.declared.roots.SupervisorRoot.{SupervisorRoot}
use Rattle.arch_defs.specs.declared.roots.SupervisorRoot.TheVariants as root
use Rattle.arch_defs.specs.declared.walks.LeafPte.{LeafPte}
use Rattle.arch_defs.specs.declared.walks.Privilege.{Privilege}
use Rattle.arch_defs.specs.declared.walks.WalkEnd.{WalkEnd}
use Rattle.arch_defs.specs.declared.walks.WalkEnd.TheVariants.{Leaf, PageFault, FetchEnd}
use Rattle.arch_defs.specs.declared.widths.Width.{Width}
use Rattle.arch_defs.specs.declared.widths.Width.TheVariants.{Word}
use Rattle.arch_defs.specs.FirstEntries.{first_entry, known_under}
use Rattle.arch_defs.specs.Memory.{Known, Mmu}
use Rattle.arch_defs.specs.Permits.{permits_first}
use Rattle.arch_defs.specs.Roots.{supervisor_shape}
use Rattle.arch_defs.specs.TableEntries.{leaf_with}
use Rattle.arch_defs.specs.Translation.{entry_words_through, privilege_of, supervisor_of}
use Rattle.arch_defs.specs.Traps.{is_virtual}
use Rattle.arch_defs.specs.Walk.{walk}
use Rattle.arch_defs.specs.Widths.{bytes_in}
use Rattle.op_defs.specs.declared.ops.Effect.{Effect}
use Rattle.op_defs.specs.declared.ops.Effect.TheVariants.{Sets, Raises, Data, Calls, Privileged}
use Rattle.op_defs.specs.declared.ops.Op.{Op}
use Rattle.op_defs.specs.Meaning.{meaning}
use Rattle.op_defs.specs.Table.{op_of}
use Rattle.machine_defs.specs.Core.{At, Fails, Located, fetch_place, kind_of, word_at}

-- for whom the accesses of a mode are, and those of a state
abbrev pub tag_for : Mode → GuestRoot → Tag
tag_for mode hgatp = if is_virtual mode then Nested hgatp else Flat

abbrev pub tag_of : Virtual → Tag
tag_of virt = tag_for virt.mode virt.csrs.hgatp

-- what is known to a state by these first-stage translations, for whom this tag says
abbrev pub known_of : List FirstEntry → Tag → Virtual → Known
known_of first tag virt =
    known_under first tag (privilege_of virt.csrs virt.mode) (supervisor_of virt.csrs virt.mode).atp

-- the leaf at which a walk ends, if it permits the access; Bare has none
abbrev pub leaf_if : Privilege → Access → WalkEnd → Option LeafPte
leaf_if privilege access (Leaf frame level r w x u) =
    let leaf = leaf_with frame level r w x u in
    if permits_first privilege access leaf then Some leaf else None
leaf_if privilege access PageFault = None
leaf_if privilege access (FetchEnd place trap) = None

abbrev pub leaf_under : Mmu → Privilege → ℕ → Access → SupervisorRoot → Option LeafPte
leaf_under through privilege va access root.Bare = None
leaf_under through privilege va access (root.Table mode asid ppn) =
    let words = entry_words_through through.second through.reading in
    leaf_if privilege access (walk words (ppn % 2 ^ 44) (supervisor_shape mode) va access)

-- the translation that the walk for an access gives
unfoldable pub entry_walked : Tag → Mmu → Virtual → ℕ → Access → Option FirstEntry
entry_walked tag through virt va access =
    let atp = (supervisor_of virt.csrs virt.mode).atp in
    option_map (first_entry tag atp va) (leaf_under through (privilege_of virt.csrs virt.mode) va access atp)

-- an access of a width finds it, unless the address is known, or is not a multiple of the width
abbrev pub entries_of : Option FirstEntry → List FirstEntry
entries_of None = []
entries_of (Some e) = e ∷ []

abbrev pub unless_known : Option ℕ → Option FirstEntry → List FirstEntry
unless_known (Some address) found = []
unless_known None found = entries_of found

abbrev pub found_for : Tag → Mmu → Virtual → ℕ → Width → Access → List FirstEntry
found_for tag through virt va width access =
    if va % bytes_in width == 0
    then unless_known (through.known va access) (entry_walked tag through virt va access) else []

-- what the access to data finds: of an effect, of an instruction, and of the one at pc's place
abbrev pub found_by_effect : Tag → Mmu → Virtual → Effect → List FirstEntry
found_by_effect tag through virt (Sets rd value next) = []
found_by_effect tag through virt (Raises cause tval) = []
found_by_effect tag through virt (Data wanted) =
    found_for tag through virt wanted.address wanted.width (kind_of wanted.purpose)
found_by_effect tag through virt Calls = []
found_by_effect tag through virt (Privileged effect) = []

abbrev pub found_by_op : Tag → Mmu → Virtual → Option Op → List FirstEntry
found_by_op tag through virt None = []
found_by_op tag through virt (Some op) = found_by_effect tag through virt (meaning op virt.regs)

abbrev pub found_at : Tag → Mmu → Virtual → Located → List FirstEntry
found_at tag through virt (At place) = found_by_op tag through virt (op_of (word_at through.reading place))
found_at tag through virt (Fails failure) = []

-- all that one instruction finds
unfoldable pub leaves_found : Tag → Mmu → Virtual → List FirstEntry
leaves_found tag through virt =
    found_for tag through virt virt.regs.pc Word Fetch ++ found_at tag through virt (fetch_place through virt)
