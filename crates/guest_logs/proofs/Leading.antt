-- The entries of the front space of a guest lead into its RAM, or to the device page.
use Rattle.std.specs.List.{All}
use Rattle.std.proofs.Common.{arith, ◌≡◌, ◌∙◌, ℕ, ◌<◌, List, [], ◌∷◌, length, refl, ap, subst, sym}
use Rattle.arch_defs.specs.declared.cached.Entry.{Entry}
use Rattle.arch_defs.specs.CachedEntries.{CanFill}
use Rattle.arch_defs.specs.Layouts.{Layout}
use Rattle.arch_defs.specs.Memory.{ram_memory}
use Rattle.arch_defs.specs.Ram.{ram_of}
use Rattle.arch_defs.specs.Spaces.{Space, front}
use Rattle.cached_uses.specs.Serving.{LeadsInto}
use Rattle.cached_uses.proofs.Leading.{filled_lead_into}
use Rattle.guest_exit.specs.declared.guests.Guest.{Guest}
use Rattle.guest_exit.proofs.Pools.{size_of}
use Rattle.guest_turns.specs.Hosting.{IsHosted}
use Rattle.shadow_pool.specs.declared.slots.Slot.{Slot}
use Rattle.shadow_pool.specs.Slots.{AreSlots, AreTidy, space_at, spaces_in, spaces_of}
use Rattle.shadow_pool.proofs.Listing.{entries_are}
use Rattle.shadow_space.specs.Shadows.{Tidy}

-- each of them can be filled
front_fills : (part : Layout) (most : ℕ) (slots : List Slot) (memory : List ℕ) → AreSlots part most slots → AreTidy slots memory
    → All (CanFill part.blocks) (front (spaces_in slots))
unfolding Tidy
front_fills part most [] memory are tidy = absurd (omega (arith, are.some))
front_fills part most (slot ∷ rest) memory are tidy = by (spaces_in (slot ∷ rest)) refl
  where
    inside : 0 < length (slot ∷ rest)
    inside = omega arith

    fill : All (CanFill part.blocks) slot.space.entries
    fill = subst (λ (own : Layout). All (CanFill own.blocks) slot.space.entries) (are.each 0 slot inside).part (tidy 0 slot inside).is.fill

    by : (spaces : List Space) → spaces_in (slot ∷ rest) ≡ spaces → All (CanFill part.blocks) (front spaces)
    by [] is = λ i d h. absurd (omega (arith, h))
    by (first ∷ others) is =
        let some : 0 < length (spaces_in (slot ∷ rest)) = omega (arith, ap length is) in
        subst (All (CanFill part.blocks)) (entries_are (slot ∷ rest) 0 slot are.order some ∙ ap (λ ss. (space_at ss 0).entries) is) fill

pub front_leads : (guest : Guest) (memory : List ℕ) → IsHosted guest memory
    → All (LeadsInto (ram_memory (ram_of guest.part.blocks memory))) (front (spaces_of guest.pool))
front_leads guest memory hosted i d inside =
    let placed = hosted.placed in
    filled_lead_into guest.part.blocks (ram_of guest.part.blocks memory) _ (omega (arith, placed.once.few)) (size_of guest.part memory placed.held)
    (subst (λ (part : Layout). All (CanFill part.blocks) (front (spaces_of guest.pool))) placed.own
    (front_fills guest.pool.part guest.pool.most guest.pool.slots memory placed.tidy.slots placed.tidy.tables) i d inside)
