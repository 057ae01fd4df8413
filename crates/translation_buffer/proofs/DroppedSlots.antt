-- Slots without those that have the bit of a frame.
use Rattle.std.proofs.Common.{◌≡◌, ◌≢◌, ℕ, ◌%◌, ◌<◌, ◌∙◌, true, false, List, length, get_or, set, refl, ap, sym, subst, arith, ◌+◌, ◌⊎◌, inl, inr}
use Rattle.std.specs.List.{All}
use Rattle.std.proofs.lemmas.Bool.{and_from, and_parts, both_ways, cases_eq}
use Rattle.std.proofs.lemmas.List.{get_or-set_same, get_or-set_other, get_or_default}
use Rattle.std.proofs.lemmas.Nat.Bits.{bit_at-zero}
use Rattle.arch_defs.specs.Bits.{bit}
use Rattle.arch_defs.specs.Frames.{Within}
use Rattle.translation_buffer.specs.declared.frame_sets.FrameSet.{FrameSet}
use Rattle.translation_buffer.specs.Holding.{has_among, has_frame}
use Rattle.translation_buffer.specs.Places.{Translator}
use Rattle.translation_buffer.specs.declared.slots.Slot.{Slot}
use Rattle.translation_buffer.specs.declared.slots.Slots.{Slots}
use Rattle.translation_buffer.specs.Serving.{AllLackBit, AllStand, LacksBit, SlotStands}
use Rattle.translation_buffer.specs.Tags.{AllUpTo, AreLeft, IsUpTo, slots_of}
use Rattle.translation_buffer.proofs.KeptSlots.{none_stands, stands_more}
use Rattle.translation_buffer.proofs.SlotKinds.{each_kind, kinds_left}
use Rattle.translation_buffer.proofs.PageTags.{none_up_to}

-- a slot in the place of another
pub none_lacks : (frame : ℕ) (slot : Slot) → slot.bits ≡ 0 → LacksBit frame slot
none_lacks frame slot none = rw (none, bit_at-zero (frame % 64)) refl

pub drop_left : (slots : List Slot) (at : ℕ) (none : Slot) → at < length slots → none.tag ≡ 0 → AreLeft slots (set slots at none)
drop_left slots at none inside is k d = by (cases_eq k at)
  where
    by : (k ≡ at) ⊎ (k ≢ at) → (get_or (set slots at none) k d ≡ get_or slots k d) ⊎ ((get_or (set slots at none) k d).tag ≡ 0)
    by (inl same) = inr (ap (λ n. (get_or (set slots at none) n d).tag) same ∙ ap (λ (s : Slot). s.tag) (get_or-set_same slots at none d inside) ∙ is)
    by (inr apart) = inl (get_or-set_other slots at k none d apart)

pub none_dropped : (slots : List Slot) → AreLeft slots slots
none_dropped slots k d = inl refl

pub drop_lacks : (slots : List Slot) (at frame : ℕ) (none : Slot) → at < length slots → none.bits ≡ 0 → (other : Slot) → LacksBit frame (get_or (set slots at none) at other)
drop_lacks slots at frame none inside is other = rw (get_or-set_same slots at none other inside) (none_lacks frame none is)

pub drop_others : (slots : List Slot) (at : ℕ) (none : Slot) (place : ℕ) (other : Slot) → place ≢ at → get_or (set slots at none) place other ≡ get_or slots place other
drop_others slots at none place other apart = get_or-set_other slots at place none other apart

pub lacks_kept : (slots : List Slot) (at frame : ℕ) (slot other : Slot) → at < length slots → LacksBit frame (get_or slots at slot) → LacksBit frame (get_or slots at other)
lacks_kept slots at frame slot other inside lacks = subst (LacksBit frame) (get_or_default slots at slot other inside) lacks

pub ruleset dropping = (drop_left, none_dropped, drop_lacks, drop_others)

-- one after another
pub left_more : (old slots new : List Slot) → AreLeft old slots → AreLeft slots new → AreLeft old new
left_more old slots new before left k d = by (left k d)
  where
    with_old : (get_or new k d ≡ get_or slots k d) → (get_or slots k d ≡ get_or old k d) ⊎ ((get_or slots k d).tag ≡ 0) → (get_or new k d ≡ get_or old k d) ⊎ ((get_or new k d).tag ≡ 0)
    with_old same (inl as_before) = inl (same ∙ as_before)
    with_old same (inr gone) = inr (ap (λ (s : Slot). s.tag) same ∙ gone)

    by : (get_or new k d ≡ get_or slots k d) ⊎ ((get_or new k d).tag ≡ 0) → (get_or new k d ≡ get_or old k d) ⊎ ((get_or new k d).tag ≡ 0)
    by (inl same) = with_old same (before k d)
    by (inr gone) = inr gone

pub each_more : (P : Slot → Type 0) (old new : List Slot) (at : ℕ) → ((other : Slot) → P (get_or new at other))
    → ((place : ℕ) (other : Slot) → place ≢ at → get_or new place other ≡ get_or old place other)
    → ((k : ℕ) (other : Slot) → k < at → P (get_or old k other)) → (k : ℕ) (other : Slot) → k < at + 1 → P (get_or new k other)
each_more P old new at here others before k other below = by (cases_eq k at)
  where
    by : (k ≡ at) ⊎ (k ≢ at) → P (get_or new k other)
    by (inl same) = subst (λ n. P (get_or new n other)) (sym same) (here other)
    by (inr apart) = subst P (sym (others k other apart)) (before k other (omega (arith, below, apart)))

-- those of all kinds
pub all_kinds : (frame : ℕ) (slots : Slots) → All (LacksBit frame) slots.fetches → All (LacksBit frame) slots.loads → All (LacksBit frame) slots.stores → AllLackBit frame slots
all_kinds frame slots fetches loads stores = each_kind (λ kind. LacksBit frame) slots fetches loads stores

pub left_stand : (old new : Slots)
    → length new.fetches ≡ length old.fetches → AreLeft old.fetches new.fetches → length new.loads ≡ length old.loads → AreLeft old.loads new.loads → length new.stores ≡ length old.stores → AreLeft old.stores new.stores
    → (read : FrameSet) (memory : List ℕ) (under : Translator) (run : ℕ) → AllStand read memory under run old → AllStand read memory under run new
left_stand old new fetches fetches_left loads loads_left stores stores_left read memory under run =
    kinds_left (SlotStands read memory under run) (λ kind slot. none_stands (has_among read slot.bits) memory under run kind slot) old new fetches fetches_left loads loads_left stores stores_left

pub left_up_to : (old new : Slots)
    → length new.fetches ≡ length old.fetches → AreLeft old.fetches new.fetches → length new.loads ≡ length old.loads → AreLeft old.loads new.loads → length new.stores ≡ length old.stores → AreLeft old.stores new.stores
    → (run : ℕ) → AllUpTo run old → AllUpTo run new
left_up_to old new fetches fetches_left loads loads_left stores stores_left run =
    kinds_left (λ kind. IsUpTo run) (λ kind. none_up_to run) old new fetches fetches_left loads loads_left stores stores_left

-- slots that lack the bit of a frame stand by a set without the frames of its mark, which all have this bit
apart_by_bit : (bits frame other : ℕ) → bit (frame % 64) bits ≡ false → bit (other % 64) bits ≡ true → other % 4096 ≢ frame % 4096
apart_by_bit bits frame other lacks has same =
    let low : other % 64 ≡ frame % 64 = omega (arith, same) in
    both_ways (bit (frame % 64) bits) lacks (sym (ap (λ n. bit n bits) low) ∙ has)

others_among : (old new : FrameSet) (bits frame : ℕ) → bit (frame % 64) bits ≡ false
    → ((other : ℕ) → other % 4096 ≢ frame % 4096 → has_frame new other ≡ has_frame old other) → Within (has_among old bits) (has_among new bits)
unfolding has_among
others_among old new bits frame lacks others other named =
    let parts = and_parts (has_frame old other) (bit (other % 64) bits) named in
    and_from _ _ (others other (apart_by_bit bits frame other lacks parts.1) ∙ parts.0) parts.1

pub all_without : (old new : FrameSet) (frame : ℕ) (memory : List ℕ) (under : Translator) (run : ℕ) (slots : Slots)
    → ((other : ℕ) → other % 4096 ≢ frame % 4096 → has_frame new other ≡ has_frame old other) → AllLackBit frame slots
    → AllStand old memory under run slots → AllStand new memory under run slots
all_without old new frame memory under run slots others lack all kind k d inside =
    let slot = get_or (slots_of slots kind) k d in
    stands_more (has_among old slot.bits) (has_among new slot.bits) memory under run kind slot (others_among old new slot.bits frame (lack kind k d inside) others) (all kind k d inside)
