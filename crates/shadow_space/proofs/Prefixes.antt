-- The levels of a page's tables.
use Rattle.std.proofs.Common.{◌≡◌, ◌≢◌, ℕ, zero, suc, ◌+◌, ◌-◌, ◌*◌, ◌%◌, ◌<◌, ◌≤◌, ◌^◌, ◌⊎◌, inl, inr, refl, sym, subst, arith}
use Rattle.std.proofs.lemmas.Bool.{eq-eqb, ne_eqb}
use Rattle.arch_defs.specs.CachedEntries.{guest_page_bits}
use Rattle.shadow_space.specs.Trees.{prefix, top}
use Rattle.shadow_space.specs.Ways.{slot_of, table_prefix}
use Rattle.shadow_space.proofs.Slots.{whole}
use Rattle.table_words.proofs.Words.{same_or}

-- a table below the root has the page's prefix
pub low_prefix : (h page : ℕ) → h < top → table_prefix h page ≡ prefix h page
low_prefix h page low = rw (ne_eqb h top (λ e. omega (arith, e, low))) refl

pub root_prefix : (h page : ℕ) → h ≡ top → table_prefix h page ≡ 0
root_prefix h page is = rw (eq-eqb h top is) refl

root_slot : (h page : ℕ) → suc h ≡ top → slot_of (suc h) page ≡ prefix h page
root_slot h page is = rw (eq-eqb (suc h) top is) refl

low_slot : (h page : ℕ) → suc h ≢ top → slot_of (suc h) page ≡ prefix h page % 512
low_slot h page other = rw (ne_eqb (suc h) top other) refl

-- the prefixes of a page's tables are those of the tables above with the page's entries in them
pub slot_whole : (h page : ℕ) → suc h ≤ top → 512 * table_prefix (suc h) page + slot_of (suc h) page ≡ prefix h page
slot_whole h page low = by (same_or (suc h) top)
  where
    by : (suc h ≡ top) ⊎ (suc h ≢ top) → 512 * table_prefix (suc h) page + slot_of (suc h) page ≡ prefix h page
    by (inl is) = omega (arith, root_prefix (suc h) page is, root_slot h page is)
    by (inr other) = omega (arith, low_prefix (suc h) page (omega (arith, low, other)), low_slot h page other, whole (prefix h page))

-- the root has an entry for the prefix of each page
pub few_prefixes : (h page : ℕ) → suc h ≡ top → page < 2 ^ guest_page_bits → prefix h page < 2048
few_prefixes h page is small = subst (λ n. prefix n page < 2048) (sym below) (omega (arith, small))
  where
    below : h ≡ top - 1
    below = omega (arith, is)

pub slot_small : (level page : ℕ) → page < 2 ^ guest_page_bits → slot_of level page < 2048
slot_small zero page small = omega arith
slot_small (suc h) page small = by (same_or (suc h) top)
  where
    by : (suc h ≡ top) ⊎ (suc h ≢ top) → slot_of (suc h) page < 2048
    by (inl is) = omega (arith, root_slot h page is, few_prefixes h page is small)
    by (inr other) = omega (arith, low_slot h page other)

pub slot_low : (level page : ℕ) → level < top → slot_of level page < 512
slot_low zero page low = omega arith
slot_low (suc h) page low = omega (arith, low_slot h page (λ e. omega (arith, e, low)))
