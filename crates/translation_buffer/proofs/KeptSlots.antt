-- Slots stand in other memories, by more frames, and where they are kept.
use Rattle.std.proofs.Common.{◌≡◌, ℕ, ◌+◌, ◌*◌, ◌/◌, ◌%◌, ◌^◌, ◌<◌, ◌∙◌, true, List, Some, length, get_or, replicate, ap, sym, subst, arith}
use Rattle.std.specs.List.{All}
use Rattle.std.proofs.lemmas.Bool.{and_from, and_parts}
use Rattle.arch_defs.specs.declared.first.FirstEntry.{FirstEntry}
use Rattle.arch_defs.specs.declared.first.Tag.{Tag}
use Rattle.arch_defs.specs.declared.modes.Access.{Access}
use Rattle.arch_defs.specs.declared.modes.Access.TheVariants.{Fetch, Load, Store}
use Rattle.arch_defs.specs.declared.modes.Mode.{Mode}
use Rattle.arch_defs.specs.declared.registers.Csrs.{Csrs}
use Rattle.arch_defs.specs.declared.walks.Privilege.{Privilege}
use Rattle.arch_defs.specs.Bits.{bit}
use Rattle.arch_defs.specs.Frames.{Frames, Same, Within}
use Rattle.arch_defs.specs.Translation.{privilege_of}
use Rattle.arch_defs.proofs.FrameSets.{same_both, same_fewer, same_none}
use Rattle.translation_buffer.specs.declared.frame_sets.FrameSet.{FrameSet}
use Rattle.translation_buffer.specs.Holding.{has_among, has_frame, has_recent}
use Rattle.translation_buffer.specs.declared.buffers.Buffer.{Buffer}
use Rattle.translation_buffer.specs.declared.contexts.Context.{Context}
use Rattle.translation_buffer.specs.declared.slots.Slot.{Slot}
use Rattle.translation_buffer.specs.declared.slots.Slots.{Slots}
use Rattle.translation_buffer.specs.Places.{Reads, Translator, context_of, translated_place, translator}
use Rattle.translation_buffer.specs.Serving.{AllStand, Serves, SlotStands, GivesPlaces}
use Rattle.translation_buffer.specs.Tags.{AllUpTo, run_bits, slots_of, page_tag}
use Rattle.translation_buffer.proofs.Homes.{page_of_tag}
use Rattle.translation_buffer.proofs.KeptPlaces.{translations_stay}
use Rattle.translation_buffer.proofs.SlotKinds.{all_alike, each_kind}
use Rattle.translation_buffer.proofs.PageTags.{later_tag, none_of_tag, tag_small, tag_tells, tag_up_to}

-- no translation
pub none_stands : (frames : Frames) (memory : List ℕ) (under : Translator) (run : ℕ) (kind : Access) (slot : Slot) → slot.tag ≡ 0 → GivesPlaces frames memory under run kind slot
none_stands frames memory under run kind slot none = record {
  place = λ other who va same small tag. absurd (none_of_tag run who va slot none tag);
}

pub all_none : (read : FrameSet) (memory : List ℕ) (under : Translator) (run : ℕ) (kind : Access) (slot : Slot) (n : ℕ) → slot.tag ≡ 0 → All (SlotStands read memory under run kind) (replicate n slot)
all_none read memory under run kind slot n none = all_alike (SlotStands read memory under run kind) slot n (none_stands (has_among read slot.bits) memory under run kind slot none)

pub no_slot_stands : (read : FrameSet) (memory : List ℕ) (under : Translator) (run : ℕ) (slots : Slots)
    → All (SlotStands read memory under run Fetch) slots.fetches → All (SlotStands read memory under run Load) slots.loads → All (SlotStands read memory under run Store) slots.stores
    → AllStand read memory under run slots
no_slot_stands read memory under run slots fetches loads stores = each_kind (SlotStands read memory under run) slots fetches loads stores

-- no slot of earlier runs is of the next
pub next_stands : (read : FrameSet) (memory : List ℕ) (under : Translator) (run : ℕ) (slots : Slots) → AllUpTo run slots → AllStand read memory under (run + 1) slots
next_stands read memory under run slots all kind k d inside = record {
  place = λ other who va same small tag. absurd (later_tag run who va (get_or (slots_of slots kind) k d) (all kind k d inside) tag);
}

-- a walk's
pub walk_stands : (frames : Frames) (memory : List ℕ) (under : Translator) (run : ℕ) (who : Privilege) (va place : ℕ) (kind : Access) (slot : Slot) → length memory % 4096 ≡ 0 → va < 2 ^ 64
    → Reads frames under who memory va kind → translated_place under who memory va kind ≡ Some place → slot.tag ≡ page_tag run who va
    → ((near : ℕ) → near < 2 ^ 64 → near / 4096 ≡ va / 4096 → (near + slot.delta) % 2 ^ 64 ≡ 4096 * (place / 4096) + near % 4096)
    → GivesPlaces frames memory under run kind slot
walk_stands frames memory under run who va place kind slot whole small reads is tag places = record {
  place = λ other whom near same near_small tagged.
      let one = tag_tells run who whom va near small near_small (sym tag ∙ tagged) in
      subst (λ (w : Privilege). translated_place under w other near kind ≡ Some ((near + slot.delta) % 2 ^ 64)) one.0
      (translations_stay frames under who memory other va near place kind whole reads is same (sym one.1) ∙ ap Some (sym (places near near_small (sym one.1))));
}

-- by more frames, and in another memory
pub recent_among : (read : FrameSet) (bits : ℕ) → bits ≡ read.recent → Within (has_recent read) (has_among read bits)
recent_among read bits is frame named = subst (λ n. has_among read n frame ≡ true) (sym is) named

pub stands_more : (less more : Frames) (memory : List ℕ) (under : Translator) (run : ℕ) (kind : Access) (slot : Slot) → Within less more → GivesPlaces less memory under run kind slot → GivesPlaces more memory under run kind slot
stands_more less more memory under run kind slot within stands = record {
  place = λ other who va same small tag. stands.place other who va (same_fewer less more memory other within same) small tag;
}

-- those of a word are more where those of the set are
pub among_more : (less more : FrameSet) (bits : ℕ) → Within (has_frame less) (has_frame more) → Within (has_among less bits) (has_among more bits)
unfolding has_among
among_more less more bits within frame named =
    let parts = and_parts (has_frame less frame) (bit (frame % 64) bits) named in
    and_from _ _ (within frame parts.0) parts.1

pub all_more : (less more : FrameSet) (memory : List ℕ) (under : Translator) (run : ℕ) (slots : Slots) → Within (has_frame less) (has_frame more) → AllStand less memory under run slots → AllStand more memory under run slots
all_more less more memory under run slots within all kind k d inside =
    let slot = get_or (slots_of slots kind) k d in
    stands_more (has_among less slot.bits) (has_among more slot.bits) memory under run kind slot (among_more less more slot.bits within) (all kind k d inside)

-- memory where all frames of the set are the same
pub among_held : (read : FrameSet) (bits : ℕ) → Within (has_among read bits) (has_frame read)
unfolding has_among
among_held read bits frame named = (and_parts (has_frame read frame) (bit (frame % 64) bits) named).0

pub all_same : (read : FrameSet) (memory other : List ℕ) (under : Translator) (run : ℕ) (slots : Slots) → Same (has_frame read) memory other → AllStand read memory under run slots → AllStand read other under run slots
all_same read memory other under run slots same all kind k d inside =
    let frames = has_among read (get_or (slots_of slots kind) k d).bits in
    record {
      place = λ third who va later small tag. (all kind k d inside).place third who va
          (same_both frames memory other third (same_fewer frames (has_frame read) memory other (among_held read (get_or (slots_of slots kind) k d).bits) same) later) small tag;
    }

-- a hit
fits : (n : ℕ) → n < 2 ^ 64 → n % 2 ^ 64 ≡ n
fits n less = omega (arith, less)

pub kept_tag : (buffer : Buffer) (first : List FirstEntry) (owner : Tag) (csrs : Csrs) (mode : Mode) (memory : List ℕ) (va : ℕ) → Serves buffer first owner csrs mode memory → va < 2 ^ 64
    → (buffer.who + va / 4096) % 2 ^ 64 ≡ page_tag buffer.run (privilege_of csrs mode) va
kept_tag buffer first owner csrs mode memory va serves small =
    ap (λ n. (n + va / 4096) % 2 ^ 64) serves.who ∙ fits (page_tag buffer.run (privilege_of csrs mode) va) (tag_small buffer.run (privilege_of csrs mode) va buffer.few small)

pub kept_up_to : (buffer : Buffer) (first : List FirstEntry) (owner : Tag) (csrs : Csrs) (mode : Mode) (memory : List ℕ) (va : ℕ) → Serves buffer first owner csrs mode memory → va < 2 ^ 64
    → (buffer.who + va / 4096) % 2 ^ 64 < run_bits (buffer.run + 1)
kept_up_to buffer first owner csrs mode memory va serves small =
    subst (λ n. n < run_bits (buffer.run + 1)) (sym (kept_tag buffer first owner csrs mode memory va serves small)) (tag_up_to buffer.run (privilege_of csrs mode) va small)

pub kept_page : (buffer : Buffer) (first : List FirstEntry) (owner : Tag) (csrs : Csrs) (mode : Mode) (memory : List ℕ) (va : ℕ) → Serves buffer first owner csrs mode memory → va < 2 ^ 64
    → (buffer.who + va / 4096) % 2 ^ 64 % 2 ^ 52 ≡ va / 4096
kept_page buffer first owner csrs mode memory va serves small =
    page_of_tag buffer.run (privilege_of csrs mode) va _ small (kept_tag buffer first owner csrs mode memory va serves small)

pub served : (buffer : Buffer) (first : List FirstEntry) (owner : Tag) (csrs : Csrs) (mode : Mode) (memory : List ℕ) (va : ℕ) (access : Access) (slot : Slot) → Serves buffer first owner csrs mode memory
    → SlotStands buffer.read memory (translator first owner buffer.context) buffer.run access slot → va < 2 ^ 64 → slot.tag ≡ (buffer.who + va / 4096) % 2 ^ 64
    → translated_place (translator first owner (context_of csrs mode)) (privilege_of csrs mode) memory va access ≡ Some ((va + slot.delta) % 2 ^ 64)
served buffer first owner csrs mode memory va access slot serves stands small tag =
    subst (λ (c : Context). translated_place (translator first owner c) (privilege_of csrs mode) memory va access ≡ Some ((va + slot.delta) % 2 ^ 64)) serves.context
    (stands.place memory (privilege_of csrs mode) va (same_none (has_among buffer.read slot.bits) memory) small
    (tag ∙ kept_tag buffer first owner csrs mode memory va serves small))

-- the slot of an address
pub slot_stands : (read : FrameSet) (memory : List ℕ) (under : Translator) (run : ℕ) (slots : Slots) (kind access : Access) (at : ℕ) (d : Slot) → access ≡ kind
    → at < length (slots_of slots kind) → AllStand read memory under run slots → SlotStands read memory under run access (get_or (slots_of slots kind) at d)
slot_stands read memory under run slots kind access at d same inside all =
    subst (λ k. SlotStands read memory under run k (get_or (slots_of slots kind) at d)) (sym same) (all kind at d inside)
