-- Whether bytes are the form of a machine that can be saved, as a test (own). It goes in the order of
-- `IsSavable`, and leaves out what each machine has that bytes give (`IsRead` of Tests).
use Rattle.std.specs.Prelude.{ℕ, ◌+◌, ◌*◌, ◌%◌, ◌^◌, Bool, true, false, not, ◌&&◌, ◌||◌, ◌==◌, nat_le, nat_lt, List, [], ◌∷◌, Option, Some, None, length, bytes_eq}
use Rattle.std.specs.List.{list_all}
use Rattle.arch_defs.specs.declared.cached.Entry.{Entry}
use Rattle.arch_defs.specs.declared.first.FirstEntry.{FirstEntry}
use Rattle.arch_defs.specs.declared.registers.Regs.{Regs}
use Rattle.arch_defs.specs.declared.registers.Virtual.{Virtual}
use Rattle.arch_defs.specs.declared.roots.GuestRoot.{GuestRoot}
use Rattle.arch_defs.specs.Devices.{device_frame}
use Rattle.arch_defs.specs.FirstEntries.{first_room, is_first_of}
use Rattle.arch_defs.specs.Memory.{block_size, ram_base}
use Rattle.arch_defs.specs.Roots.{is_table, names_table}
use Rattle.arch_defs.specs.Spaces.{Space, is_for}
use Rattle.arch_defs.specs.WalkedEntries.{folds}
use Rattle.guest_save.specs.declared.headers.Header.{Header}
use Rattle.guest_save.specs.declared.versions.Version.TheVariants.{Third}
use Rattle.guest_save.specs.Headers.{header_numbers, header_of}
use Rattle.guest_save.specs.Savable.{pages_of, top_level_of}
use Rattle.guest_save.specs.Saves.{saved_form, saved_machine_in}
use Rattle.guest_settings.specs.Limits.{least_entries, most_blocks, most_console, most_entries, most_spaces}
use Rattle.machine_defs.specs.Machine.{Machine}
use Rattle.run_laws.specs.FirstKeys.{first_levels}
use Rattle.run_laws.specs.Reservations.{places_from}

-- whether a test passes of each element and each later one
abbrev pub all_pairs : {A : Type 0} → (A → A → Bool) → List A → Bool
all_pairs test [] = true
all_pairs test (x ∷ xs) = list_all (test x) xs && all_pairs test xs

abbrev pub is_within : ℕ → ℕ → ℕ → Bool
is_within n least most = nat_le least n && nat_le n most

-- sizes are within the limits of a configuration, and RAM, of this size, is of whole blocks
abbrev pub has_sizes : Header → ℕ → Bool
has_sizes h size =
    size == h.blocks * block_size
    && is_within h.blocks 1 most_blocks
    && is_within h.spaces 1 most_spaces
    && is_within h.entries least_entries most_entries
    && nat_le h.console most_console

-- no moment is too late, and none later than one that comes after it
abbrev pub inputs_rise : List (ℕ × ℕ) → Bool
inputs_rise inputs =
    list_all (λ input. nat_lt input.0 (2 ^ 62)) inputs && all_pairs (λ a b. nat_le a.0 b.0) inputs

-- there are 32 registers, and pc is a multiple of 4
abbrev pub has_registers : Regs → Bool
has_registers regs = length regs.x == 32 && regs.pc % 4 == 0

-- what is reserved, if anything is, lies aligned in RAM of this size
abbrev pub is_reservation_within : Option (ℕ × ℕ) → ℕ → Bool
is_reservation_within None size = true
is_reservation_within (Some (place, width)) size =
    place % width == 0 && (width == 4 || width == 8) && places_from ram_base size place

abbrev pub is_in_ram : ℕ → Entry → Bool
is_in_ram size e = nat_le ram_base (4096 * e.frame) && nat_le (4096 * e.frame + 4096) (ram_base + size)

-- the frame of an entry is in RAM, or is the device page, where there is one
abbrev pub is_in_reach : ℕ → Bool → Entry → Bool
is_in_reach size device e = is_in_ram size e || (device && e.frame == device_frame)

-- a walk of a table of this key can give an entry
abbrev pub entry_fits : GuestRoot → ℕ → Bool → Entry → Bool
entry_fits key size device e =
    nat_lt e.page (pages_of key)
    && is_in_reach size device e
    && nat_le e.level (top_level_of key)
    && (e.r || e.x)
    && (not e.w || e.r)

abbrev pub has_other_page : Entry → Entry → Bool
has_other_page a b = not (a.page == b.page)

-- a space can be saved whose key was read
abbrev pub space_fits : ℕ → ℕ → Bool → Space → Bool
space_fits size room device s =
    is_table s.key
    && nat_le (length s.entries) room
    && list_all (entry_fits s.key size device) s.entries
    && all_pairs has_other_page s.entries

abbrev pub has_other_key : Space → Space → Bool
has_other_key a b = not (is_for a.key b)

abbrev pub is_front : GuestRoot → List Space → Bool
is_front key [] = false
is_front key (s ∷ ss) = is_for key s

-- the space of hgatp is in front where the state folds
abbrev pub has_front : Virtual → List Space → Bool
has_front state spaces = not (folds state) || is_front state.csrs.hgatp spaces

-- a table can give a first-stage translation
abbrev pub first_fits : FirstEntry → Bool
first_fits e =
    names_table e.atp
    && nat_lt e.page (2 ^ 52)
    && nat_lt e.frame (2 ^ 44)
    && nat_lt e.level (first_levels e.atp)
    && (e.r || e.x)
    && (not e.w || e.r)

abbrev pub is_apart : FirstEntry → FirstEntry → Bool
is_apart a b = not (is_first_of b.tag b.atp b.page a)

-- first-stage translations, whose values of hgatp, satp and vsatp were read, can be saved
abbrev pub has_first : List FirstEntry → Bool
has_first first = nat_le (length first) first_room && all_pairs is_apart first && list_all first_fits first

-- a machine that was read can be saved
unfoldable pub is_savable : Machine → Bool
is_savable m = let p = m.platform in
    has_sizes (header_of m) (length m.ram)
    && nat_le (length p.console.bytes) p.console.room
    && inputs_rise p.console.inputs
    && has_registers p.virt.regs
    && list_all (λ n. nat_lt n (2 ^ 64)) (header_numbers Third (header_of m))
    && nat_le p.steps (2 ^ 60)
    && nat_le p.clock.time (2 ^ 62 + p.steps)
    && is_reservation_within p.virt.reservation (length m.ram)
    && nat_le (length m.spaces) m.space_room
    && list_all (space_fits (length m.ram) m.entry_room m.device) m.spaces
    && all_pairs has_other_key m.spaces
    && has_front p.virt m.spaces
    && has_first m.platform.virt.first

-- bytes are the form of a machine that can be saved, in the version that they tell: of the one that they give
unfoldable pub is_saved : List ℕ → Bool
is_saved bytes =
    is_savable (saved_machine_in bytes).machine && bytes_eq (saved_form (saved_machine_in bytes)) bytes
