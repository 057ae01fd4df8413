-- How many cached translations a guest's spaces have.
use Rattle.std.proofs.Common.{arith, ◌≡◌, ◌∙◌, ℕ, suc, ◌+◌, ◌*◌, ◌^◌, ◌<◌, ◌≤◌, List, [], ◌∷◌, length, get_or, take, refl, ap, sym, subst}
use Rattle.std.specs.List.{All, sum_by}
use Rattle.std.proofs.Math.Seq.{take-suc}
use Rattle.std.proofs.lemmas.List.{get_or_default, take_all}
use Rattle.std.proofs.lemmas.List.Sums.{sum_by-le, sum_by_more_le, sum_by_push}
use Rattle.arch_defs.specs.Layouts.{Layout}
use Rattle.arch_defs.specs.Spaces.{Space}
use Rattle.guest_exit.specs.declared.guests.Guest.{Guest}
use Rattle.guest_exit.specs.View.{machine_of}
use Rattle.shadow_pool.specs.declared.slots.Slot.{Slot}
use Rattle.shadow_pool.specs.Slots.{AreSlots, AreTidy, no_space, space_at, spaces_in}
use Rattle.shadow_pool.proofs.Entering.{few_spaces}
use Rattle.shadow_pool.proofs.Listing.{entries_are}
use Rattle.shadow_space.specs.Shadows.{Tidy}
use Rattle.guest_turns.specs.Hosting.{IsHosted}

-- the spaces of tidy tables are few, and each has few entries
slots_few : (part : Layout) (most : ℕ) (slots : List Slot) (memory : List ℕ) → AreSlots part most slots → AreTidy slots memory → length (spaces_in slots) ≤ 2 ^ 16
unfolding Tidy
slots_few part most [] memory are tidy = absurd (omega (arith, are.some))
slots_few part most (first ∷ rest) memory are tidy =
    let inside : 0 < length (first ∷ rest) = omega arith in
    let same : first.space.part ≡ part = (are.each 0 first inside).part in
    let small = subst (λ (own : Layout). own.spaces < 2 ^ 16) same (tidy 0 first inside).is.small.spaces in
    omega (arith, small, are.own, few_spaces (first ∷ rest))

slots_small : (part : Layout) (most : ℕ) (slots : List Slot) (memory : List ℕ) → AreSlots part most slots → AreTidy slots memory
    → All (λ (space : Space). length space.entries ≤ 256) (spaces_in slots)
unfolding Tidy
slots_small part most [] memory are tidy i d h = absurd (omega (arith, h))
slots_small part most (first ∷ rest) memory are tidy i d h =
    let inside : i < length (first ∷ rest) = omega (arith, h, few_spaces (first ∷ rest)) in
    let table = (tidy i first inside).is in
    let entries = entries_are (first ∷ rest) i first are.order h in
    rw (get_or_default (spaces_in (first ∷ rest)) i d no_space h) (omega (arith, table.few, table.most, ap length entries))

-- the entries of spaces
abbrev pub counted : List Space → ℕ
counted spaces = sum_by (λ space. length space.entries) spaces

pub hosted_few : (guest : Guest) (memory : List ℕ) → IsHosted guest memory → counted (machine_of guest memory).spaces ≤ 2 ^ 24
hosted_few guest memory hosted =
    let tidy = hosted.placed.tidy in
    let few = slots_few guest.pool.part guest.pool.most guest.pool.slots memory tidy.slots tidy.tables in
    let small = sum_by-le (λ (space : Space). length space.entries) 256 (spaces_in guest.pool.slots)
    (slots_small guest.pool.part guest.pool.most guest.pool.slots memory tidy.slots tidy.tables) in
    omega (arith, few, small)

-- of one more of them
pub one_more : (spaces : List Space) (i n : ℕ) → i < length spaces → ((d : Space) → n ≡ length (get_or spaces i d).entries)
    → counted (take i spaces) + n ≡ counted (take (i + 1) spaces)
one_more spaces i n inside is =
    let next : i + 1 ≡ suc i = omega arith in
    ap (λ n. counted (take i spaces) + n) (is no_space)
    ∙ sym (sum_by_push (λ space. length space.entries) (take i spaces) (get_or spaces i no_space))
    ∙ ap counted (sym (take-suc spaces i no_space inside))
    ∙ ap (λ k. counted (take k spaces)) (sym next)

pub more_few : (spaces : List Space) (i n : ℕ) → i < length spaces → ((d : Space) → n ≡ length (get_or spaces i d).entries)
    → counted (take i spaces) + n ≤ counted spaces
more_few spaces i n inside is = rw (is no_space) (sum_by_more_le (λ (space : Space). length space.entries) spaces i no_space inside)

-- and of all
pub all_counted : (spaces : List Space) (i : ℕ) → length spaces ≤ i → counted (take i spaces) ≡ counted spaces
all_counted spaces i past = ap counted (take_all i spaces past)
