-- What kept translations say of memory, and when a buffer serves the accesses of a mode (own).
use Rattle.std.specs.Prelude.{ℕ, ◌≡◌, ◌+◌, ◌/◌, ◌%◌, ◌^◌, ◌<◌, ◌≢◌, false, List, Option, Some, IfSome}
use Rattle.std.specs.List.{All}
use Rattle.arch_defs.specs.declared.first.FirstEntry.{FirstEntry}
use Rattle.arch_defs.specs.declared.first.Tag.{Tag}
use Rattle.arch_defs.specs.declared.hart_states.HartState.{HartState}
use Rattle.arch_defs.specs.declared.modes.Access.{Access}
use Rattle.arch_defs.specs.declared.modes.Access.TheVariants.{Fetch}
use Rattle.arch_defs.specs.declared.modes.Mode.{Mode}
use Rattle.arch_defs.specs.declared.registers.Csrs.{Csrs}
use Rattle.arch_defs.specs.declared.walks.Privilege.{Privilege}
use Rattle.arch_defs.specs.Frames.{Frames, Same}
use Rattle.arch_defs.specs.Bits.{bit}
use Rattle.arch_defs.specs.Translation.{privilege_of}
use Rattle.translation_buffer.specs.declared.frame_sets.FrameSet.{FrameSet}
use Rattle.translation_buffer.specs.Holding.{has_among, has_frame}
use Rattle.translation_buffer.specs.declared.buffers.Buffer.{Buffer}
use Rattle.translation_buffer.specs.declared.pages.Page.{Page}
use Rattle.translation_buffer.specs.declared.slots.Slot.{Slot}
use Rattle.translation_buffer.specs.declared.slots.Slots.{Slots}
use Rattle.translation_buffer.specs.Places.{Translator, context_of, translated_place, translator}
use Rattle.translation_buffer.specs.Tags.{run_bits, slots_of, start_of, page_tag, who_bits}

-- a slot says, in each memory in which these frames are the same, where each address with its tag in a run
-- has its place
pub record GivesPlaces (frames : Frames) (memory : List ℕ) (under : Translator) (run : ℕ) (kind : Access)
    (slot : Slot) : Type 0 where
  pub place : (other : List ℕ) (who : Privilege) (va : ℕ) → Same frames memory other → va < 2 ^ 64
      → slot.tag ≡ page_tag run who va
      → translated_place under who other va kind ≡ Some ((va + slot.delta) % 2 ^ 64)

-- a slot stands by the frames of a set whose bits it has
abbrev pub SlotStands : FrameSet → List ℕ → Translator → ℕ → Access → Slot → Type 0
SlotStands read memory under run kind slot = GivesPlaces (has_among read slot.bits) memory under run kind slot

abbrev pub AllStand : FrameSet → List ℕ → Translator → ℕ → Slots → Type 0
AllStand read memory under run slots =
    (kind : Access) → All (SlotStands read memory under run kind) (slots_of slots kind)

-- the page of the last fetch says, in each memory in which these frames are the same, where each address of
-- it that is a multiple of 4 has its place for a fetch
pub record PageStands (frames : Frames) (memory : List ℕ) (under : Translator) (who : Privilege)
    (page : Page) : Type 0 where
  pub place : (other : List ℕ) (va : ℕ) → Same frames memory other → va < 2 ^ 64
      → start_of va ≡ page.start
      → translated_place under who other va Fetch ≡ Some ((va + page.delta) % 2 ^ 64)

-- no address of the page of the last fetch is of a page, nor of another, if there is another
abbrev pub IsOffPage : ℕ → Page → Type 0
IsOffPage page last = (va : ℕ) → start_of va ≡ last.start → va / 4096 ≢ page

abbrev pub IsOffPages : ℕ → Option ℕ → Page → Type 0
IsOffPages page other last = IsOffPage page last × IfSome other (λ p. IsOffPage p last)

-- a slot lacks the bit of a frame
abbrev pub LacksBit : ℕ → Slot → Type 0
LacksBit frame slot = bit (frame % 64) slot.bits ≡ false

abbrev pub AllLackBit : ℕ → Slots → Type 0
AllLackBit frame slots = (kind : Access) → All (LacksBit frame) (slots_of slots kind)

-- a slot is of no address of a page
pub record LacksPage (page : ℕ) (slot : Slot) : Type 0 where
  pub apart : (run : ℕ) (who : Privilege) (va : ℕ) → va < 2 ^ 64 → slot.tag ≡ page_tag run who va
      → va / 4096 ≢ page

abbrev pub AllLackPage : ℕ → Slots → Type 0
AllLackPage page slots = (kind : Access) → All (LacksPage page) (slots_of slots kind)

-- nor of one of another page, if there is another
abbrev pub AllLackPages : ℕ → Option ℕ → Slots → Type 0
AllLackPages page other slots = AllLackPage page slots × IfSome other (λ p. AllLackPage p slots)

-- a buffer serves the accesses of a mode, by the first-stage translations that are cached and for whom they
-- are: it is for the mode's roots and for whom it accesses, all slots of its run stand by those of the frames
-- that were read whose bits they have, and the page of the last fetch stands by all of them
pub record Serves (buffer : Buffer) (first : List FirstEntry) (owner : Tag) (csrs : Csrs) (mode : Mode)
    (memory : List ℕ) : Type 0 where
  pub context : buffer.context ≡ context_of csrs mode
  pub who : buffer.who ≡ run_bits buffer.run + who_bits (privilege_of csrs mode)
  pub slots : AllStand buffer.read memory (translator first owner buffer.context) buffer.run buffer.slots
  pub page : PageStands (has_frame buffer.read) memory (translator first owner buffer.context)
      (privilege_of csrs mode) buffer.page

-- it serves the accesses of the hart as it is
abbrev pub ServesHart : Buffer → HartState → List ℕ → Type 0
ServesHart buffer s memory = Serves buffer s.virt.first s.tag s.virt.csrs s.virt.mode memory
