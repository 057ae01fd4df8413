-- A turn of one guest among all.
use Rattle.std.proofs.Common.{◌≡◌, ◌≢◌, ℕ, zero, suc, ◌<◌, ◌⊎◌, inl, inr, Bool, true, false, List, [], ◌∷◌, length, get_or, map, set, refl, ap, sym, subst, ◌∙◌, arith}
use Rattle.std.proofs.lemmas.Bool.{both_ways, cases_Bool, cases_eq}
use Rattle.std.proofs.lemmas.List.{get_or-map, get_or-set_other, get_or-set_same, get_or_default, length-map, length-set}
use Rattle.std.proofs.Math.Seq.{map-set_same}
use Rattle.arch_defs.specs.Frames.{Apart, Frames, LieIn, Only, Same, in_blocks}
use Rattle.arch_defs.specs.Layouts.{Layout, named_by, no_part}
use Rattle.arch_defs.specs.Ram.{ram_of, slices}
use Rattle.arch_defs.proofs.FrameSets.{apart_sym, kept}
use Rattle.frame_split.specs.Shares.{ArePairwiseApart}
use Rattle.shadow_space.specs.Shadows.{AreZeros}
use Rattle.machine_defs.specs.Machine.{Machine}
use Rattle.guest_exit.specs.declared.guests.Guest.{Guest}
use Rattle.guest_exit.specs.View.{KeepsLayout, changed_by, machine_of}
use Rattle.guest_turns.specs.Hosted.{Hosted, is_set, machine_at, no_machine, part_at}
use Rattle.guest_turns.specs.Hosting.{AreHosted, IsFree, IsGone, IsHosted, parts_of}
use Rattle.guest_turns.specs.TurnLists.{updated}
use Rattle.guest_turns.proofs.Placing.{hosted_kept, machine_kept, only_in_part}

abbrev pub machines_of : List Guest → List ℕ → List Machine
machines_of guests memory = map (λ guest. machine_of guest memory) guests

-- the part of a guest at a place of the list
part_there : (guests : List Guest) (i : ℕ) (d : Guest) (p : Layout) → i < length guests → get_or (parts_of guests) i p ≡ (get_or guests i d).part
part_there guests i d p h = get_or-map (λ guest. guest.part) guests i d p h

pub parts_apart : (guests : List Guest) (i j : ℕ) (d : Guest) → ArePairwiseApart (parts_of guests) → i < length guests → j < length guests → i ≢ j
    → Apart (named_by (get_or guests i d).part) (named_by (get_or guests j d).part)
parts_apart guests i j d apart i_in j_in other =
    rw (← part_there guests i d d.part i_in, ← part_there guests j d d.part j_in) (apart i j d.part (rw count i_in) (rw count j_in) other)
  where
    count : length (parts_of guests) ≡ length guests
    count = length-map guests (λ guest. guest.part)

-- the machine of a guest whose part is the same, also of one that has retired
no_ram : (old new : List ℕ) → ram_of [] new ≡ ram_of [] old
unfolding slices
no_ram old new = refl

pub other_machine : (guests : List Guest) (retired free : List Bool) (memory : List ℕ) (i : ℕ) (d : Guest) (changed : List ℕ) → AreHosted guests retired free memory → i < length guests
    → Same (named_by (get_or guests i d).part) memory changed → machine_of (get_or guests i d) changed ≡ machine_of (get_or guests i d) memory
other_machine guests retired free memory i d changed all i_in same = by (cases_Bool (is_set retired i))
  where
    by : (is_set retired i ≡ true) ⊎ (is_set retired i ≡ false) → machine_of (get_or guests i d) changed ≡ machine_of (get_or guests i d) memory
    by (inl gone) =
        let none = (all.gone i d i_in gone).blocks in
        ap (λ ram. record (machine_of (get_or guests i d) memory) { ram = ram })
        (ap (λ blocks. ram_of blocks changed) none ∙ no_ram memory changed ∙ ap (λ blocks. ram_of blocks memory) (sym none))
    by (inr active) = machine_kept (get_or guests i d) memory changed same (all.each i d i_in active)

-- a free block is apart from each part
pub free_from_part : (guests : List Guest) (block : ℕ) (memory : List ℕ) (g : ℕ) (d : Guest) → g < length guests → IsFree block (parts_of guests) memory
    → Apart (in_blocks (block ∷ [])) (named_by (get_or guests g d).part)
free_from_part guests block memory g d g_in was =
    rw (← part_there guests g d d.part g_in) (was.apart g d.part (rw (length-map guests (λ guest. guest.part)) g_in))

-- one guest of all is another one now: their machines
machines_same : (guests : List Guest) (memory changed : List ℕ) (d : Guest)
    → ((i : ℕ) → i < length guests → machine_of (get_or guests i d) changed ≡ machine_of (get_or guests i d) memory) → machines_of guests changed ≡ machines_of guests memory
machines_same [] memory changed d same = refl
machines_same (guest ∷ guests) memory changed d same =
    ap (λ m. m ∷ machines_of guests changed) (same 0 (omega arith))
    ∙ ap (λ ms. machine_of guest memory ∷ ms) (machines_same guests memory changed d (λ i h. same (suc i) (omega (arith, h))))

pub machines_changed : (guests : List Guest) (memory changed : List ℕ) (g : ℕ) (new d : Guest) (change : Machine → Machine) → g < length guests
    → machine_of new changed ≡ change (machine_of (get_or guests g d) memory)
    → ((i : ℕ) → i < length guests → i ≢ g → machine_of (get_or guests i d) changed ≡ machine_of (get_or guests i d) memory)
    → machines_of (set guests g new) changed ≡ updated g change (machines_of guests memory)
machines_changed [] memory changed g new d change h here others = absurd (omega (arith, h))
machines_changed (guest ∷ guests) memory changed zero new d change h here others =
    ap (λ m. m ∷ machines_of guests changed) here
    ∙ ap (λ ms. change (machine_of guest memory) ∷ ms)
    (machines_same guests memory changed d (λ i h'. others (suc i) (omega (arith, h')) (λ e. omega (arith, e))))
machines_changed (guest ∷ guests) memory changed (suc g) new d change h here others =
    ap (λ m. m ∷ machines_of (set guests g new) changed) (others 0 (omega arith) (λ e. omega (arith, e)))
    ∙ ap (λ ms. machine_of guest memory ∷ ms)
    (machines_changed guests memory changed g new d change (omega (arith, h)) here
    (λ i h' other. others (suc i) (omega (arith, h')) (λ e. other (omega (arith, e)))))

-- and their parts
pub parts_changed : (guests : List Guest) (g : ℕ) (new d : Guest) (change : Layout → Layout) → g < length guests → new.part ≡ change (get_or guests g d).part
    → parts_of (set guests g new) ≡ updated g change (parts_of guests)
parts_changed [] g new d change h here = absurd (omega (arith, h))
parts_changed (guest ∷ guests) zero new d change h here = ap (λ part. part ∷ parts_of guests) here
parts_changed (guest ∷ guests) (suc g) new d change h here = ap (λ parts. guest.part ∷ parts) (parts_changed guests g new d change (omega (arith, h)) here)

-- what holds of all guests then
module _ (guests : List Guest) (retired free : List Bool) (memory : List ℕ) (all : AreHosted guests retired free memory) (g : ℕ) (g_in : g < length guests)
    (new : Guest) (retired' free' : List Bool) (changed : List ℕ) where
  after : List Guest
  after = set guests g new

  count : length (set guests g new) ≡ length guests
  count = length-set guests g new

  -- what holds of the guest, and of the others as they were, holds of each
  each_one : (P : ℕ → Guest → Type 0) → P g new → ((i : ℕ) → i < length guests → i ≢ g → P i (get_or guests i new)) → (i : ℕ) (d : Guest) → i < length (set guests g new) → P i (get_or (set guests g new) i d)
  each_one P here others i d h = by (cases_eq i g)
    where
      i_in : i < length guests
      i_in = rw count at h

      by : (i ≡ g) ⊎ (i ≡ g → ⊥) → P i (get_or (set guests g new) i d)
      by (inl same) = subst (λ j. P j (get_or (set guests g new) j d)) (sym same) (subst (P g) (sym (get_or-set_same guests g new d g_in)) here)
      by (inr other) = subst (P i) (sym (get_or-set_other guests g i new d other ∙ get_or_default guests i d new i_in)) (others i i_in other)

  pairwise : ((i : ℕ) → i < length guests → i ≢ g → Apart (named_by (get_or guests i new).part) (named_by new.part)) → ArePairwiseApart (parts_of (set guests g new))
  pairwise apart i j d i_in j_in other = rw (part_there (set guests g new) i new d i_in', part_there (set guests g new) j new d j_in') (by (cases_eq i g) (cases_eq j g))
    where
      i_in' : i < length (set guests g new)
      i_in' = rw (length-map (set guests g new) (λ guest. guest.part)) at i_in

      j_in' : j < length (set guests g new)
      j_in' = rw (length-map (set guests g new) (λ guest. guest.part)) at j_in

      was : (k : ℕ) → k ≢ g → get_or (set guests g new) k new ≡ get_or guests k new
      was k other = get_or-set_other guests g k new new other

      is : (k : ℕ) → k ≡ g → get_or (set guests g new) k new ≡ new
      is k same = ap (λ k. get_or (set guests g new) k new) same ∙ get_or-set_same guests g new new g_in

      by : (i ≡ g) ⊎ (i ≢ g) → (j ≡ g) ⊎ (j ≢ g) → Apart (named_by (get_or (set guests g new) i new).part) (named_by (get_or (set guests g new) j new).part)
      by (inl a) (inl b) = absurd (other (a ∙ sym b))
      by (inl a) (inr b) = rw (is i a, was j b) (apart_sym (named_by (get_or guests j new).part) (named_by new.part) (apart j (rw count at j_in') b))
      by (inr a) (inl b) = rw (was i a, is j b) (apart i (rw count at i_in') a)
      by (inr a) (inr b) = rw (was i a, was j b) (parts_apart guests i j new all.apart (rw count at i_in') (rw count at j_in') other)

  -- a block that is free then: one that has become so, and one that was, over a change of other frames
  pub now_free : (block : ℕ) → LieIn (in_blocks (block ∷ [])) (length changed) → AreZeros (in_blocks (block ∷ [])) changed
      → ((i : ℕ) → i < length guests → i ≢ g → Apart (in_blocks (block ∷ [])) (named_by (get_or guests i new).part)) → Apart (in_blocks (block ∷ [])) (named_by new.part)
      → IsFree block (parts_of (set guests g new)) changed
  now_free block lies are_zero others own = record {
    lies = lies;
    apart = λ i d h.
        let i_in : i < length (set guests g new) = rw (length-map (set guests g new) (λ guest. guest.part)) at h in
        rw (part_there (set guests g new) i new d i_in) (each_one (λ i guest. Apart (in_blocks (block ∷ [])) (named_by guest.part)) own others i new i_in);
    zero = are_zero;
  }

  pub still_free : (frames : Frames) (block : ℕ) → Only frames memory changed → IsFree block (parts_of guests) memory → Apart (in_blocks (block ∷ [])) frames
      → Apart (in_blocks (block ∷ [])) (named_by new.part) → IsFree block (parts_of (set guests g new)) changed
  still_free frames block only was apart own =
      now_free block (subst (LieIn (in_blocks (block ∷ []))) (sym only.size) was.lies)
      (let same = kept (in_blocks (block ∷ [])) frames memory changed apart only in record { each = λ at named. same.bytes at named ∙ was.zero.each at named })
      (λ i i_in other. free_from_part guests block memory i new i_in was) own

  pub changed_hosted : (is_set retired' g ≡ false → IsHosted new changed) → (is_set retired' g ≡ true → IsGone new) → ((i : ℕ) → i ≢ g → is_set retired' i ≡ is_set retired i)
      → ((i : ℕ) → i < length guests → i ≢ g → Same (named_by (get_or guests i new).part) memory changed)
      → ((i : ℕ) → i < length guests → i ≢ g → Apart (named_by (get_or guests i new).part) (named_by new.part))
      → ((block : ℕ) → is_set free' block ≡ true → IsFree block (parts_of (set guests g new)) changed) → AreHosted (set guests g new) retired' free' changed
  changed_hosted here gone flags others apart spare = record {
    few = rw count all.few;
    each = each_one (λ i guest. is_set retired' i ≡ false → IsHosted guest changed) here
        (λ i i_in other active. hosted_kept (get_or guests i new) memory changed (others i i_in other) (all.each i new i_in (sym (flags i other) ∙ active)));
    gone = each_one (λ i guest. is_set retired' i ≡ true → IsGone guest) gone (λ i i_in other flag. all.gone i new i_in (sym (flags i other) ∙ flag));
    apart = pairwise apart;
    spare = spare;
  }

-- what a turn or a try of the guest g, which changes its machine so, leaves of all
pub record Turned (guests : List Guest) (retired free : List Bool) (memory : List ℕ) (g : ℕ) (change : Machine → Machine) (after : List Guest) (changed : List ℕ) : Type 0 where
  pub hosted : AreHosted after retired free changed
  pub machines : machines_of after changed ≡ updated g change (machines_of guests memory)
  pub parts : parts_of after ≡ parts_of guests

pub turned_by : (guests : List Guest) (retired free : List Bool) (memory : List ℕ) (g : ℕ) (change : Machine → Machine) (old new : Guest) (changed : List ℕ)
    → AreHosted guests retired free memory → g < length guests → is_set retired g ≡ false → old ≡ get_or guests g old → machine_of new changed ≡ change (machine_of old memory)
    → KeepsLayout old new → Only (changed_by old) memory changed → IsHosted new changed → Turned guests retired free memory g change (set guests g new) changed
turned_by guests retired free memory g change old new changed all g_in active is made keeps only_own hosted = record {
  hosted = changed_hosted guests retired free memory all g g_in new retired free changed (λ a. hosted) (λ flag. absurd (both_ways (is_set retired g) active flag)) (λ i other. refl)
      others (λ i i_in other. subst (λ part. Apart (named_by (get_or guests i new).part) (named_by part)) (sym own_part) (parts_apart guests i g new all.apart i_in g_in other))
      (λ block flag.
      let was = all.spare block flag in
      still_free guests retired free memory all g g_in new retired free changed (named_by (get_or guests g new).part) block only was (own_free block was) (subst (λ part. Apart (in_blocks (block ∷ [])) (named_by part)) (sym own_part) (own_free block was)));
  machines = machines_changed guests memory changed g new new change g_in (made ∙ ap (λ guest. change (machine_of guest memory)) there)
      (λ i i_in other. other_machine guests retired free memory i new changed all i_in (others i i_in other));
  parts = map-set_same (λ guest. guest.part) guests g new old (keeps.part ∙ ap (λ guest. guest.part) is);
}
  where
    there : old ≡ get_or guests g new
    there = is ∙ get_or_default guests g old new g_in

    own_part : new.part ≡ (get_or guests g new).part
    own_part = keeps.part ∙ ap (λ guest. guest.part) there

    only : Only (named_by (get_or guests g new).part) memory changed
    only = only_in_part (get_or guests g new) memory changed (all.each g new g_in active).placed (subst (λ guest. Only (changed_by guest) memory changed) there only_own)

    others : (i : ℕ) → i < length guests → i ≢ g → Same (named_by (get_or guests i new).part) memory changed
    others i i_in other = kept (named_by (get_or guests i new).part) (named_by (get_or guests g new).part) memory changed (parts_apart guests i g new all.apart i_in g_in other) only

    own_free : (block : ℕ) → IsFree block (parts_of guests) memory → Apart (in_blocks (block ∷ [])) (named_by (get_or guests g new).part)
    own_free block was = free_from_part guests block memory g new g_in was

-- what is seen of a guest that is at a place of the list
pub seen_part : (guests : List Guest) (g : ℕ) (guest : Guest) → g < length guests → guest ≡ get_or guests g guest → part_at (parts_of guests) g ≡ guest.part
seen_part guests g guest g_in is = get_or-map (λ guest. guest.part) guests g guest no_part g_in ∙ ap (λ guest. guest.part) (sym is)

pub seen_machine : (guests : List Guest) (memory : List ℕ) (g : ℕ) (guest : Guest) → g < length guests → guest ≡ get_or guests g guest
    → machine_at (machines_of guests memory) g ≡ machine_of guest memory
seen_machine guests memory g guest g_in is =
    get_or-map (λ guest. machine_of guest memory) guests g guest no_machine g_in ∙ ap (λ guest. machine_of guest memory) (sym is)

pub written_machine : (guests : List Guest) (memory : List ℕ) (g : ℕ) (guest : Guest) → g < length guests
    → machine_at (machines_of (set guests g guest) memory) g ≡ machine_of guest memory
written_machine guests memory g guest g_in =
    seen_machine (set guests g guest) memory g guest (rw (length-set guests g guest) g_in) (sym (get_or-set_same guests g guest guest g_in))

-- a host's value is that of its guests, memory and flags
abbrev pub seen_of : List Guest → List ℕ → List Bool → List Bool → Hosted
seen_of guests memory free retired = record { machines = machines_of guests memory; parts = parts_of guests; memory = memory; free = free; retired = retired }

pub among : (guests : List Guest) (memory : List ℕ) (free retired : List Bool) (host : Hosted) (g : ℕ) → seen_of guests memory free retired ≡ host → g < length host.machines → g < length guests
among guests memory free retired host g is inside =
    rw (← length-map guests (λ guest. machine_of guest memory)) (subst (λ host. g < length host.machines) (sym is) inside)

pub active_of : (guests : List Guest) (memory : List ℕ) (free retired : List Bool) (host : Hosted) (g : ℕ) → seen_of guests memory free retired ≡ host → is_set host.retired g ≡ false → is_set retired g ≡ false
active_of guests memory free retired host g is active = ap (λ host. is_set host.retired g) is ∙ active

pub host_part : (guests : List Guest) (memory : List ℕ) (free retired : List Bool) (host : Hosted) (g : ℕ) (guest : Guest) → seen_of guests memory free retired ≡ host → g < length guests
    → guest ≡ get_or guests g guest → part_at host.parts g ≡ guest.part
host_part guests memory free retired host g guest is g_in at = subst (λ host. part_at host.parts g ≡ guest.part) is (seen_part guests g guest g_in at)

pub host_machine : (guests : List Guest) (memory : List ℕ) (free retired : List Bool) (host : Hosted) (g : ℕ) (guest : Guest) → seen_of guests memory free retired ≡ host → g < length guests
    → guest ≡ get_or guests g guest → machine_at host.machines g ≡ machine_of guest memory
host_machine guests memory free retired host g guest is g_in at =
    subst (λ host. machine_at host.machines g ≡ machine_of guest memory) is (seen_machine guests memory g guest g_in at)
