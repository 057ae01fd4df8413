-- The page of the last fetch stands in other memories and by more frames, and gives places.
use Rattle.std.proofs.Common.{◌≡◌, ◌≢◌, ℕ, ◌+◌, ◌*◌, ◌/◌, ◌%◌, ◌^◌, ◌<◌, ◌∙◌, List, Some, ap, sym, subst, arith}
use Rattle.arch_defs.specs.declared.first.FirstEntry.{FirstEntry}
use Rattle.arch_defs.specs.declared.first.Tag.{Tag}
use Rattle.arch_defs.specs.declared.modes.Access.TheVariants.{Fetch}
use Rattle.arch_defs.specs.declared.modes.Mode.{Mode}
use Rattle.arch_defs.specs.declared.registers.Csrs.{Csrs}
use Rattle.arch_defs.specs.declared.walks.Privilege.{Privilege}
use Rattle.arch_defs.specs.Frames.{Frames, Same, Within}
use Rattle.arch_defs.specs.Translation.{privilege_of}
use Rattle.arch_defs.proofs.FrameSets.{same_both, same_fewer, same_none}
use Rattle.translation_buffer.specs.declared.frame_sets.FrameSet.{FrameSet}
use Rattle.translation_buffer.specs.Holding.{has_among, has_frame}
use Rattle.translation_buffer.specs.declared.buffers.Buffer.{Buffer}
use Rattle.translation_buffer.specs.declared.contexts.Context.{Context}
use Rattle.translation_buffer.specs.declared.pages.Page.{Page}
use Rattle.translation_buffer.specs.declared.slots.Slot.{Slot}
use Rattle.translation_buffer.specs.Places.{Translator, context_of, translated_place, translator}
use Rattle.translation_buffer.specs.Serving.{IsOffPage, PageStands, Serves, SlotStands}
use Rattle.translation_buffer.specs.Tags.{run_bits, start_of, page_tag, who_bits}
use Rattle.translation_buffer.proofs.KeptSlots.{among_held, kept_tag}

-- no page
no_start : (va start : ℕ) → start ≡ 4 → start_of va ≡ start → ⊥
no_start va start none is = omega (arith, none, is)

pub no_page_stands : (frames : Frames) (memory : List ℕ) (under : Translator) (who : Privilege) (page : Page) → page.start ≡ 4 → PageStands frames memory under who page
no_page_stands frames memory under who page none = record { place = λ other va same small is. absurd (no_start va page.start none is) }

pub no_page_off : (page : ℕ) (last : Page) → last.start ≡ 4 → IsOffPage page last
no_page_off page last none va is same = no_start va last.start none is

start_page : (va start : ℕ) → start_of va ≡ start → start / 4096 ≡ va / 4096
start_page va start is = omega (arith, is)

pub other_page_off : (page : ℕ) (last : Page) → last.start / 4096 ≢ page → IsOffPage page last
other_page_off page last other va is same = other (start_page va last.start is ∙ same)

-- by more frames, and in another memory
pub page_more : (less more : Frames) (memory : List ℕ) (under : Translator) (who : Privilege) (page : Page) → Within less more → PageStands less memory under who page → PageStands more memory under who page
page_more less more memory under who page within stands = record {
  place = λ other va same small is. stands.place other va (same_fewer less more memory other within same) small is;
}

pub page_same : (frames : Frames) (memory other : List ℕ) (under : Translator) (who : Privilege) (page : Page) → Same frames memory other → PageStands frames memory under who page → PageStands frames other under who page
page_same frames memory other under who page same stands = record {
  place = λ third va later small is. stands.place third va (same_both frames memory other third same later) small is;
}

-- the page of a slot
same_page : (near va start : ℕ) → start_of near ≡ start → start ≡ va / 4096 * 4096 → near / 4096 ≡ va / 4096
same_page near va start is start_is = omega (arith, is, start_is)

pub slot_page : (read : FrameSet) (memory : List ℕ) (under : Translator) (run : ℕ) (who : Privilege) (va : ℕ) (slot : Slot) (page : Page) → SlotStands read memory under run Fetch slot
    → slot.tag ≡ page_tag run who va → page.start ≡ va / 4096 * 4096 → page.delta ≡ slot.delta → PageStands (has_frame read) memory under who page
slot_page read memory under run who va slot page stands tag start delta = record {
  place = λ other near same small is.
      let one : near / 4096 ≡ va / 4096 = same_page near va page.start is start in
      stands.place other who near (same_fewer (has_among read slot.bits) (has_frame read) memory other (among_held read slot.bits) same) small
      (tag ∙ ap (λ n. run_bits run + who_bits who + n) (sym one))
      ∙ ap (λ n. Some ((near + n) % 2 ^ 64)) (sym delta);
}

pub serves_page : (buffer : Buffer) (first : List FirstEntry) (owner : Tag) (csrs : Csrs) (mode : Mode) (memory : List ℕ) (va : ℕ) (slot : Slot) (page : Page) → Serves buffer first owner csrs mode memory
    → SlotStands buffer.read memory (translator first owner buffer.context) buffer.run Fetch slot → va < 2 ^ 64 → slot.tag ≡ (buffer.who + va / 4096) % 2 ^ 64
    → page.start ≡ va / 4096 * 4096 → page.delta ≡ slot.delta → PageStands (has_frame buffer.read) memory (translator first owner buffer.context) (privilege_of csrs mode) page
serves_page buffer first owner csrs mode memory va slot page serves stands small tag start delta =
    slot_page buffer.read memory (translator first owner buffer.context) buffer.run (privilege_of csrs mode) va slot page stands
    (tag ∙ kept_tag buffer first owner csrs mode memory va serves small) start delta

-- the place of an address of it
pub page_served : (buffer : Buffer) (first : List FirstEntry) (owner : Tag) (csrs : Csrs) (mode : Mode) (memory : List ℕ) (va : ℕ) → Serves buffer first owner csrs mode memory → va < 2 ^ 64
    → start_of va ≡ buffer.page.start → translated_place (translator first owner (context_of csrs mode)) (privilege_of csrs mode) memory va Fetch ≡ Some ((va + buffer.page.delta) % 2 ^ 64)
page_served buffer first owner csrs mode memory va serves small is =
    subst (λ (c : Context). translated_place (translator first owner c) (privilege_of csrs mode) memory va Fetch ≡ Some ((va + buffer.page.delta) % 2 ^ 64)) serves.context
    (serves.page.place memory va (same_none (has_frame buffer.read) memory) small is)
