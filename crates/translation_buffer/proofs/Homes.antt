-- Slots at the low bits of their pages' numbers, and without those of a page.
use Rattle.std.proofs.Common.{◌≡◌, ◌≢◌, ℕ, ◌+◌, ◌*◌, ◌/◌, ◌%◌, ◌^◌, ◌<◌, ◌∙◌, ◌==◌, ◌⊎◌, inl, inr, false, List, length, get_or, set, replicate, ap, sym, subst, arith}
use Rattle.std.specs.List.{All}
use Rattle.std.proofs.lemmas.Bool.{both_ways, cases_eq, eq-eqb}
use Rattle.std.proofs.lemmas.List.{get_or-replicate, get_or-set_same, get_or-set_other, get_or_default, length-replicate, length-set}
use Rattle.arch_defs.specs.declared.modes.Access.TheVariants.{Fetch, Load, Store, ExecLoad, Implicit}
use Rattle.arch_defs.specs.declared.walks.Privilege.{Privilege}
use Rattle.translation_buffer.specs.declared.slots.Slot.{Slot}
use Rattle.translation_buffer.specs.declared.slots.Slots.{Slots}
use Rattle.translation_buffer.specs.Serving.{AllLackPage, LacksPage}
use Rattle.translation_buffer.specs.Tags.{AllAtHome, AreAtHome, AreLeft, IsAtHome, bit_of, run_bits, who_bits}
use Rattle.translation_buffer.proofs.PageTags.{none_of_tag}
use Rattle.translation_buffer.proofs.SlotKinds.{kinds_left}

pub each_at_home : (slots : Slots) → AreAtHome slots.fetches → AreAtHome slots.loads → AreAtHome slots.stores → AllAtHome slots
each_at_home slots fetches loads stores Fetch = fetches
each_at_home slots fetches loads stores Load = loads
each_at_home slots fetches loads stores Store = stores
each_at_home slots fetches loads stores ExecLoad = λ k d inside. absurd (omega (arith, inside))
each_at_home slots fetches loads stores Implicit = λ k d inside. absurd (omega (arith, inside))

-- no slot
pub alike_at_home : (slot : Slot) (n : ℕ) → slot.tag ≡ 0 → AreAtHome (replicate n slot)
alike_at_home slot n none k d inside = λ some. absurd (some (ap (λ (s : Slot). s.tag) (get_or-replicate n k slot d (rw (length-replicate n slot) at inside)) ∙ none))

-- what is left
pub left_at_home : (old new : List Slot) → length new ≡ length old → AreLeft old new → AreAtHome old → AreAtHome new
left_at_home old new size left all k d inside = by (left k d)
  where
    by : (get_or new k d ≡ get_or old k d) ⊎ ((get_or new k d).tag ≡ 0) → IsAtHome (length new) k (get_or new k d)
    by (inl same) = subst (λ n. IsAtHome n k (get_or new k d)) (sym size) (subst (IsAtHome (length old) k) (sym same) (all k d (subst (λ n. k < n) size inside)))
    by (inr gone) = λ some. absurd (some gone)

pub kinds_at_home : (old new : Slots)
    → length new.fetches ≡ length old.fetches → AreLeft old.fetches new.fetches → length new.loads ≡ length old.loads → AreLeft old.loads new.loads → length new.stores ≡ length old.stores → AreLeft old.stores new.stores
    → AllAtHome old → AllAtHome new
kinds_at_home old new fetches fetches_left loads loads_left stores stores_left all = each_at_home new
    (left_at_home old.fetches new.fetches fetches fetches_left (all Fetch)) (left_at_home old.loads new.loads loads loads_left (all Load)) (left_at_home old.stores new.stores stores stores_left (all Store))

-- one more
set_at_home : (slots : List Slot) (at : ℕ) (slot : Slot) → at < length slots → IsAtHome (length slots) at slot → AreAtHome slots → AreAtHome (set slots at slot)
set_at_home slots at slot inside is all k d below = by (cases_eq k at)
  where
    size : length (set slots at slot) ≡ length slots
    size = length-set slots at slot

    by : (k ≡ at) ⊎ (k ≢ at) → IsAtHome (length (set slots at slot)) k (get_or (set slots at slot) k d)
    by (inl same) = subst (λ n. IsAtHome n k (get_or (set slots at slot) k d)) (sym size)
        (subst (λ n. IsAtHome (length slots) n (get_or (set slots at slot) n d)) (sym same) (subst (IsAtHome (length slots) at) (sym (get_or-set_same slots at slot d inside)) is))
    by (inr apart) = subst (λ n. IsAtHome n k (get_or (set slots at slot) k d)) (sym size)
        (subst (IsAtHome (length slots) k) (sym (get_or-set_other slots at k slot d apart)) (all k d (subst (λ n. k < n) size below)))

of_page : (page own size at : ℕ) → own ≡ page → at ≡ page % size → own % size ≡ at
of_page page own size at own_is is = ap (λ n. n % size) own_is ∙ sym is

pub fetch_at_home : (slots : Slots) (at page : ℕ) (slot : Slot) → at < length slots.fetches → at ≡ page % length slots.fetches → slot.tag % 2 ^ 52 ≡ page → AllAtHome slots → AllAtHome (record slots { fetches = set slots.fetches at slot })
fetch_at_home slots at page slot inside is own all = each_at_home (record slots { fetches = set slots.fetches at slot })
    (set_at_home slots.fetches at slot inside (λ some. of_page page (slot.tag % 2 ^ 52) (length slots.fetches) at own is) (all Fetch)) (all Load) (all Store)

pub load_at_home : (slots : Slots) (at page : ℕ) (slot : Slot) → at < length slots.loads → at ≡ page % length slots.loads → slot.tag % 2 ^ 52 ≡ page → AllAtHome slots → AllAtHome (record slots { loads = set slots.loads at slot })
load_at_home slots at page slot inside is own all = each_at_home (record slots { loads = set slots.loads at slot })
    (all Fetch) (set_at_home slots.loads at slot inside (λ some. of_page page (slot.tag % 2 ^ 52) (length slots.loads) at own is) (all Load)) (all Store)

pub store_at_home : (slots : Slots) (at page : ℕ) (slot : Slot) → at < length slots.stores → at ≡ page % length slots.stores → slot.tag % 2 ^ 52 ≡ page → AllAtHome slots → AllAtHome (record slots { stores = set slots.stores at slot })
store_at_home slots at page slot inside is own all = each_at_home (record slots { stores = set slots.stores at slot })
    (all Fetch) (all Load) (set_at_home slots.stores at slot inside (λ some. of_page page (slot.tag % 2 ^ 52) (length slots.stores) at own is) (all Store))

-- a tag's page
own_page : (run n va : ℕ) → va < 2 ^ 64 → (36028797018963968 * (run + 1) + 4503599627370496 * n + va / 4096) % 4503599627370496 ≡ va / 4096
own_page run n va small = omega (arith, small)

pub page_of_tag : (run : ℕ) (who : Privilege) (va tag : ℕ) → va < 2 ^ 64 → tag ≡ run_bits run + who_bits who + va / 4096 → tag % 2 ^ 52 ≡ va / 4096
page_of_tag run who va tag small is = ap (λ n. n % 2 ^ 52) is ∙ own_page run (bit_of who.user + 2 * bit_of who.sum + 4 * bit_of who.mxr) va small

-- slots of no address of a page
none_of_page : (page : ℕ) (slot : Slot) → slot.tag ≡ 0 → LacksPage page slot
none_of_page page slot none = record { apart = λ run who va small tag. absurd (none_of_tag run who va slot none tag) }

off_page : (page : ℕ) (slot : Slot) → (slot.tag % 2 ^ 52 == page) ≡ false → LacksPage page slot
off_page page slot off = record {
  apart = λ run who va small tag same.
      both_ways (slot.tag % 2 ^ 52 == page) off (eq-eqb (slot.tag % 2 ^ 52) page (page_of_tag run who va slot.tag small tag ∙ same));
}

off_home : (size at page : ℕ) (slot : Slot) → at ≢ page % size → IsAtHome size at slot → LacksPage page slot
off_home size at page slot other is = record {
  apart = λ run who va small tag same. other (sym (is (λ none. none_of_tag run who va slot none tag)) ∙ ap (λ n. n % size) (page_of_tag run who va slot.tag small tag ∙ same));
}

pub page_dropped : (slots : List Slot) (at page : ℕ) (none : Slot) → at < length slots → at ≡ page % length slots → none.tag ≡ 0 → AreAtHome slots → All (LacksPage page) (set slots at none)
page_dropped slots at page none inside is gone all k d below = by (cases_eq k at)
  where
    by : (k ≡ at) ⊎ (k ≢ at) → LacksPage page (get_or (set slots at none) k d)
    by (inl same) = subst (λ n. LacksPage page (get_or (set slots at none) n d)) (sym same) (subst (LacksPage page) (sym (get_or-set_same slots at none d inside)) (none_of_page page none gone))
    by (inr apart) = subst (LacksPage page) (sym (get_or-set_other slots at k none d apart))
        (off_home (length slots) k page (get_or slots k d) (λ own. apart (own ∙ sym is)) (all k d (subst (λ n. k < n) (length-set slots at none) below)))

pub page_kept : (slots : List Slot) (at page : ℕ) (slot : Slot) → at < length slots → at ≡ page % length slots → ((get_or slots at slot).tag % 2 ^ 52 == page) ≡ false → AreAtHome slots → All (LacksPage page) slots
page_kept slots at page slot inside is off all k d below = by (cases_eq k at)
  where
    by : (k ≡ at) ⊎ (k ≢ at) → LacksPage page (get_or slots k d)
    by (inl same) = subst (λ n. LacksPage page (get_or slots n d)) (sym same) (subst (LacksPage page) (get_or_default slots at slot d inside) (off_page page (get_or slots at slot) off))
    by (inr apart) = off_home (length slots) k page (get_or slots k d) (λ own. apart (own ∙ sym is)) (all k d below)

-- and of all kinds, where slots are left out
pub kinds_lack : (old new : Slots)
    → length new.fetches ≡ length old.fetches → AreLeft old.fetches new.fetches → length new.loads ≡ length old.loads → AreLeft old.loads new.loads → length new.stores ≡ length old.stores → AreLeft old.stores new.stores
    → (page : ℕ) → AllLackPage page old → AllLackPage page new
kinds_lack old new fetches fetches_left loads loads_left stores stores_left page =
    kinds_left (λ kind. LacksPage page) (λ kind. none_of_page page) old new fetches fetches_left loads loads_left stores stores_left
