-- A place stays the place, and is that of each address of the page; what a hit says; what a fill keeps.
use Rattle.std.specs.Prelude.{ℕ, ◌≡◌, ◌+◌, ◌*◌, ◌/◌, ◌%◌, ◌≤◌, false, List, [], length, Some, find}
use Rattle.std.specs.List.{All}
use Rattle.arch_defs.specs.declared.first.FirstEntry.{FirstEntry}
use Rattle.arch_defs.specs.declared.first.Tag.{Tag}
use Rattle.arch_defs.specs.declared.modes.Access.{Access}
use Rattle.arch_defs.specs.declared.walks.Privilege.{Privilege}
use Rattle.arch_defs.specs.declared.modes.Mode.{Mode}
use Rattle.arch_defs.specs.declared.registers.Csrs.{Csrs}
use Rattle.arch_defs.specs.declared.registers.Virtual.{Virtual}
use Rattle.arch_defs.specs.declared.roots.SupervisorRoot.{SupervisorRoot}
use Rattle.arch_defs.specs.declared.widths.Width.{Width}
use Rattle.arch_defs.specs.FirstEntries.{dropped_first, first_filled, is_first_of}
use Rattle.arch_defs.specs.Frames.{Frames, Same}
use Rattle.arch_defs.specs.Memory.{Mmu, machine_memory, mmu, reading_of, with_stored}
use Rattle.arch_defs.specs.SecondStage.{second_by_walk}
use Rattle.arch_defs.specs.Translation.{privilege_of}
use Rattle.arch_defs.specs.Widths.{bytes_in}
use Rattle.machine_defs.specs.Core.{At, accessed, storing}
use Rattle.machine_defs.specs.FirstLeaves.{found_for, known_of}
use Rattle.translation_buffer.specs.Holding.{has_frame}
use Rattle.translation_buffer.specs.declared.buffers.Buffer.{Buffer}
use Rattle.translation_buffer.specs.Serving.{Serves}
use Rattle.translation_buffer.specs.Places.{Reads, Translator, context_of, translated_place, translator}

-- in each memory in which the frames that were read are the same, each address of the page has its place in
-- the frame that was found, at its own offset
abbrev pub TranslationsStay : Type 0
TranslationsStay =
    (frames : Frames) (under : Translator) (who : Privilege) (memory other : List ℕ) (va near place : ℕ)
    (access : Access)
    → length memory % 4096 ≡ 0
    → Reads frames under who memory va access → translated_place under who memory va access ≡ Some place
    → Same frames memory other → near / 4096 ≡ va / 4096
    → translated_place under who other near access ≡ Some (4096 * (place / 4096) + near % 4096)

-- a buffer serves on after the store of an instruction to a frame that it does not hold
abbrev pub ServesStored : Type 0
ServesStored =
    (buffer : Buffer) (first : List FirstEntry) (owner : Tag) (csrs : Csrs) (mode : Mode) (memory : List ℕ)
    (width : Width) (place value : ℕ)
    → Serves buffer first owner csrs mode memory → has_frame buffer.read (place / 4096) ≡ false
    → place % bytes_in width ≡ 0
    → place + bytes_in width ≤ 0 + length memory
    → Serves buffer first owner csrs mode (with_stored 0 (storing place width value) memory)

-- what an access goes through that is by cached first-stage translations, and then by walks of memory
abbrev pub mmu_by : List FirstEntry → Tag → Virtual → List ℕ → Mmu
mmu_by first owner virt memory = mmu (known_of first owner virt)
    (second_by_walk virt.csrs virt.mode (machine_memory memory)) (reading_of (machine_memory memory))

-- where no table of the first stage is walked for an access, its place is that of the second stage
abbrev pub HitIsPlace : Type 0
HitIsPlace = (first : List FirstEntry) (owner : Tag) (virt : Virtual) (memory : List ℕ) (va place : ℕ)
    (width : Width) (access : Access) → va % bytes_in width ≡ 0
    → translated_place (translator first owner (context_of virt.csrs virt.mode))
    (privilege_of virt.csrs virt.mode) memory va access ≡ Some place
    → accessed (mmu_by first owner virt memory) virt.csrs virt.mode va width access ≡ At place

-- and it finds nothing, so nothing is cached for it
abbrev pub HitsFindNothing : Type 0
HitsFindNothing = (first : List FirstEntry) (owner : Tag) (virt : Virtual) (memory : List ℕ)
    (va place : ℕ) (width : Width) (access : Access)
    → translated_place (translator first owner (context_of virt.csrs virt.mode))
    (privilege_of virt.csrs virt.mode) memory va access ≡ Some place
    → found_for owner (mmu_by first owner virt memory) virt va width access ≡ []

-- a first-stage translation of another page than the new one's and the dropped one's is found as before
abbrev pub FillKeeps : Type 0
FillKeeps = (first : List FirstEntry) (e : FirstEntry) (tag : Tag) (atp : SupervisorRoot) (page : ℕ)
    → is_first_of tag atp page e ≡ false
    → All (λ x. is_first_of tag atp page x ≡ false) (dropped_first first e)
    → find (is_first_of tag atp page) (first_filled first e) ≡ find (is_first_of tag atp page) first
