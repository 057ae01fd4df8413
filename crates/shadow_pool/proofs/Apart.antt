-- The frames of that many spaces are apart from all others of the part.
use Rattle.std.proofs.Common.{ℕ, ◌+◌, ◌*◌, ◌≤◌, arith}
use Rattle.std.proofs.lemmas.Nat.{mul-le}
use Rattle.arch_defs.specs.Frames.{Apart, Frames, Within, in_blocks, within}
use Rattle.arch_defs.specs.Layouts.{Layout, NamesEachOnce, host_frames, in_tables, root_frames, table_frames}
use Rattle.guest_settings.specs.Needs.{tables_for}
use Rattle.arch_defs.proofs.FrameSets.{apart_sym, apart_within, joined_within, left_within, range_within, ranges_apart, right_within, within_apart}
use Rattle.arch_defs.proofs.Naming.{apart_joined}
use Rattle.shadow_pool.specs.Laws.{HostIsApartFromSpaces, PoolLiesWithin, RamIsApartFromSpaces}
use Rattle.shadow_pool.specs.Slots.{table_frames_for}

module _ (part : Layout) (count : ℕ) (own : count ≤ part.spaces) where
  abbrev roots : Frames
  roots = within (part.first_root + 4) (4 * count)

  abbrev tables : Frames
  tables = within (part.first_table + 1) (count * tables_for part.entries)

  roots_within : Within roots (root_frames part)
  roots_within = range_within (part.first_root + 4) (4 * count) part.first_root (4 * (1 + part.spaces)) (omega arith) (omega (arith, own))

  tables_within : Within tables (table_frames part)
  tables_within =
      range_within (part.first_table + 1) (count * tables_for part.entries) part.first_table (1 + part.spaces * tables_for part.entries) (omega arith)
      (omega (arith, mul-le count (tables_for part.entries) part.spaces (tables_for part.entries) own (omega arith)))

  in_part_tables : Within (table_frames_for part count) (in_tables part)
  in_part_tables =
      joined_within roots tables (in_tables part) (λ f is. left_within (root_frames part) (table_frames part) f (roots_within f is))
      (λ f is. right_within (root_frames part) (table_frames part) f (tables_within f is))

  apart_from : NamesEachOnce part → Apart (host_frames part) (table_frames_for part count)
  apart_from once =
      apart_sym (table_frames_for part count) (host_frames part)
      (apart_joined (table_frames_for part count) (within part.first_root 4) (within part.first_table 1)
      (apart_sym (within part.first_root 4) (table_frames_for part count)
      (apart_joined (within part.first_root 4) roots tables (ranges_apart part.first_root 4 (part.first_root + 4) (4 * count) (omega arith))
      (within_apart (within part.first_root 4) (root_frames part) tables host_root (apart_within (root_frames part) tables (table_frames part) tables_within once.roots))))
      (apart_sym (within part.first_table 1) (table_frames_for part count)
      (apart_joined (within part.first_table 1) roots tables
      (apart_sym roots (within part.first_table 1) (within_apart roots (root_frames part) (within part.first_table 1) roots_within (apart_within (root_frames part) (within part.first_table 1) (table_frames part) host_table once.roots)))
      (ranges_apart part.first_table 1 (part.first_table + 1) (count * tables_for part.entries) (omega arith)))))
    where
      host_root : Within (within part.first_root 4) (root_frames part)
      host_root = range_within part.first_root 4 part.first_root (4 * (1 + part.spaces)) (omega arith) (omega arith)

      host_table : Within (within part.first_table 1) (table_frames part)
      host_table = range_within part.first_table 1 part.first_table (1 + part.spaces * tables_for part.entries) (omega arith) (omega arith)

pub pool_within : (part : Layout) → PoolLiesWithin part
pool_within part count own f is = right_within (in_blocks part.blocks) (in_tables part) f (in_part_tables part count own f is)

pub ram_apart : (part : Layout) → NamesEachOnce part → RamIsApartFromSpaces part
ram_apart part once count own = apart_within (in_blocks part.blocks) (table_frames_for part count) (in_tables part) (in_part_tables part count own) once.tables

pub host_apart : (part : Layout) → NamesEachOnce part → HostIsApartFromSpaces part
host_apart part once count own = apart_from part count own once
