-- First-stage translations, read again.
use Rattle.std.specs.List.{All, flat_map}
use Rattle.std.proofs.Common.{◌≡◌, ℕ, ◌*◌, ◌^◌, ◌<◌, ◌≤◌, List, [], ◌∷◌, ◌++◌, length, drop, refl, ap, ◌∙◌, sym, arith}
use Rattle.std.proofs.lemmas.List.Elements.{All-cons, All-nil}
use Rattle.arch_defs.specs.declared.first.FirstEntry.{FirstEntry}
use Rattle.arch_defs.specs.declared.first.Tag.{Tag}
use Rattle.arch_defs.specs.declared.first.Tag.TheVariants.{Flat, Nested}
use Rattle.arch_defs.specs.declared.roots.SupervisorMode.TheVariants.{Sv39, Sv48}
use Rattle.arch_defs.specs.declared.roots.SupervisorRoot.{SupervisorRoot}
use Rattle.arch_defs.specs.declared.roots.SupervisorRoot.TheVariants.{Bare, Table}
use Rattle.arch_defs.specs.CsrBits.{satp_bits}
use Rattle.guest_save.proofs.Bits.{first_flags_again, first_flags_small}
use Rattle.guest_save.proofs.CountedParts.{count_again, key_small}
use Rattle.guest_save.proofs.Eights.{after_items, after_number, items_again, numbers_length, so_many_again}
use Rattle.guest_save.proofs.StoredRegisters.{satp_again}
use Rattle.guest_save.specs.declared.versions.Version.{Version}
use Rattle.guest_save.specs.declared.versions.Version.TheVariants.{First, Second, Third}
use Rattle.guest_save.specs.Forms.{first_entry_form, first_flags_of, first_form, first_numbers, tag_numbers}
use Rattle.guest_save.specs.Reading.{after_first, first_entries_in, first_entry_in, first_entry_of, first_in, tag_in}
use Rattle.guest_save.specs.Savable.{IsSavable}
use Rattle.guest_save.specs.Versions.{CanTell}
use Rattle.machine_defs.specs.Machine.{Machine}
use Rattle.run_laws.specs.FirstKeys.{IsOfFirstTable, IsStorableFirst, IsStorableTag, first_levels}

-- a translation that can be told
record CanBeTold (e : FirstEntry) : Type 0 where
  pub table : IsOfFirstTable e
  pub storable : IsStorableFirst e

levels_few : (atp : SupervisorRoot) → first_levels atp ≤ 4
levels_few Bare = omega arith
levels_few (Table Sv39 asid ppn) = omega arith
levels_few (Table Sv48 asid ppn) = omega arith

level_small : (e : FirstEntry) → IsOfFirstTable e → e.level < 4
level_small e is = let low = is.level in omega (arith, low, levels_few e.atp)

-- its six numbers
entry_length : (e : FirstEntry) → length (first_entry_form e) ≡ 48
entry_length e = numbers_length (first_numbers e)

satp_small : (atp : SupervisorRoot) → satp_bits atp < 2 ^ 64
unfolding satp_bits
satp_small Bare = omega arith
satp_small (Table Sv39 asid ppn) = omega arith
satp_small (Table Sv48 asid ppn) = omega arith

tag_small : (tag : Tag) → ((tag_numbers tag).0 < 2 ^ 64) × ((tag_numbers tag).1 < 2 ^ 64)
tag_small Flat = (omega arith, omega arith)
tag_small (Nested hgatp) = (omega arith, key_small hgatp)

abbrev Small : ℕ → Type 0
Small n = n < 2 ^ 64

entry_fits : (e : FirstEntry) → CanBeTold e → All Small (first_numbers e)
entry_fits e is =
    let v = (tag_numbers e.tag).0 in
    let hgatp = (tag_numbers e.tag).1 in
    let atp = satp_bits e.atp in
    let flags = first_flags_of e in
    let page = is.table.page in
    let frame = is.table.frame in
    All-cons Small v (hgatp ∷ atp ∷ e.page ∷ e.frame ∷ flags ∷ []) (tag_small e.tag).0
    (All-cons Small hgatp (atp ∷ e.page ∷ e.frame ∷ flags ∷ []) (tag_small e.tag).1
    (All-cons Small atp (e.page ∷ e.frame ∷ flags ∷ []) (satp_small e.atp)
    (All-cons Small e.page (e.frame ∷ flags ∷ []) (omega (arith, page))
    (All-cons Small e.frame (flags ∷ []) (omega (arith, frame))
    (All-cons Small flags [] (first_flags_small e (level_small e is.table)) (All-nil Small))))))

-- each of them, read again
tag_again : (tag : Tag) → IsStorableTag tag → tag_in (tag_numbers tag).0 (tag_numbers tag).1 ≡ tag
tag_again Flat is = refl
tag_again (Nested hgatp) is = ap Nested is

numbers_again : (e : FirstEntry) → CanBeTold e → first_entry_of (first_numbers e) ≡ e
numbers_again e is =
    let f = first_flags_again e (level_small e is.table) in
    let tag = tag_again e.tag is.storable.tag in
    let atp = satp_again e.atp is.storable.atp in
    let r = f.r in let w = f.w in let x = f.x in let u = f.u in let level = f.level in
    λ i. record { tag = tag i; atp = atp i; page = e.page; frame = e.frame; r = r i; w = w i; x = x i; u = u i; level = level i }

entry_again : (e : FirstEntry) (rest : List ℕ) → CanBeTold e → first_entry_in (first_entry_form e ++ rest) ≡ e
entry_again e rest is =
    ap first_entry_of (so_many_again 6 (first_numbers e) rest refl (entry_fits e is)) ∙ numbers_again e is

entries_again : (entries : List FirstEntry) (rest : List ℕ) → All CanBeTold entries
    → first_entries_in (length entries) (flat_map first_entry_form entries ++ rest) ≡ entries
entries_again entries rest can = items_again first_entry_form first_entry_in 48 CanBeTold entry_length entry_again entries rest can

after_entries : (entries : List FirstEntry) (rest : List ℕ) → drop (48 * length entries) (flat_map first_entry_form entries ++ rest) ≡ rest
after_entries entries rest = after_items first_entry_form first_entry_in 48 entry_length entries rest

-- those of a machine that can be saved
can_be_told : (m : Machine) → IsSavable m → All CanBeTold m.platform.virt.first
can_be_told m savable = λ k d inside. record { table = savable.first.tables k d inside; storable = savable.storable k d inside }

pub first_again : (version : Version) (m : Machine) (rest : List ℕ) → IsSavable m → CanTell version m → first_in version (first_form version m rest) ≡ m.platform.virt.first
unfolding first_form
first_again First m rest savable tells = sym tells.1
first_again Second m rest savable tells = sym tells
first_again Third m rest savable tells =
    let few : length m.platform.virt.first ≤ 32 = savable.first.few in
    let tail = flat_map first_entry_form m.platform.virt.first ++ rest in
    rw (count_again 32 (length m.platform.virt.first) tail few (omega (arith, few)), after_number (length m.platform.virt.first) tail)
    (entries_again m.platform.virt.first rest (can_be_told m savable))

pub after_first_again : (version : Version) (m : Machine) (rest : List ℕ) → IsSavable m → after_first version (first_form version m rest) ≡ rest
unfolding first_form
after_first_again First m rest savable = refl
after_first_again Second m rest savable = refl
after_first_again Third m rest savable =
    let few : length m.platform.virt.first ≤ 32 = savable.first.few in
    let tail = flat_map first_entry_form m.platform.virt.first ++ rest in
    rw (count_again 32 (length m.platform.virt.first) tail few (omega (arith, few)), after_number (length m.platform.virt.first) tail)
    (after_entries m.platform.virt.first rest)
