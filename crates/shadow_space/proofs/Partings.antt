-- The frames of a part's spaces are apart from each other, and from all others of the part.
use Rattle.std.proofs.Common.{ℕ, ◌+◌, ◌*◌, ◌<◌, ◌≤◌, ◌⊎◌, inl, inr, ◌∙◌, arith}
use Rattle.std.proofs.lemmas.Bool.{cases_lt}
use Rattle.arch_defs.specs.Frames.{Apart, Frames, Within, in_blocks, joined, within}
use Rattle.arch_defs.specs.Layouts.{Layout, NamesEachOnce, in_tables, root_frames, space_frames, table_frames}
use Rattle.arch_defs.proofs.FrameSets.{apart_sym, apart_within, joined_within, left_within, range_within, ranges_apart, right_within, within_apart}
use Rattle.arch_defs.proofs.Naming.{apart_joined}
use Rattle.guest_settings.specs.Needs.{tables_for}
use Rattle.shadow_space.specs.Laws.{HostFramesAreApart, RamIsApart, SpacesAreApart, SpacesLieWithin, UntouchedAreZeros}
use Rattle.shadow_space.proofs.Clearing.{zeros_at}
use Rattle.shadow_space.proofs.Tidying.{tables_end}

joined_apart : (a b c : Frames) → Apart a c → Apart b c → Apart (joined a b) c
joined_apart a b c first second = apart_sym c (joined a b) (apart_joined c a b (apart_sym a c first) (apart_sym b c second))

module _ (part : Layout) where
  root_within : (i : ℕ) → i < part.spaces → Within (within (part.first_root + 4 * (1 + i)) 4) (root_frames part)
  root_within i own = range_within (part.first_root + 4 * (1 + i)) 4 part.first_root (4 * (1 + part.spaces)) (omega arith) (omega arith)

  tables_within : (i : ℕ) → i < part.spaces → Within (within (part.first_table + 1 + i * tables_for part.entries) (tables_for part.entries)) (table_frames part)
  tables_within i own =
      range_within (part.first_table + 1 + i * tables_for part.entries) (tables_for part.entries) part.first_table (1 + part.spaces * tables_for part.entries) (omega arith)
      (omega (arith, tables_end i part.spaces (tables_for part.entries) own))

  space_within : (i : ℕ) → i < part.spaces → Within (space_frames part i) (in_tables part)
  space_within i own =
      joined_within (within (part.first_root + 4 * (1 + i)) 4) (within (part.first_table + 1 + i * tables_for part.entries) (tables_for part.entries)) (in_tables part)
      (λ f is. left_within (root_frames part) (table_frames part) f (root_within i own f is))
      (λ f is. right_within (root_frames part) (table_frames part) f (tables_within i own f is))

  pub spaces_within : SpacesLieWithin part
  spaces_within i own f is = right_within (in_blocks part.blocks) (in_tables part) f (space_within i own f is)

  pub ram_apart : NamesEachOnce part → RamIsApart part
  ram_apart once i own = apart_within (in_blocks part.blocks) (space_frames part i) (in_tables part) (space_within i own) once.tables

  -- roots and other tables
  root_tables : NamesEachOnce part → (a b : Frames) → Within a (root_frames part) → Within b (table_frames part) → Apart a b
  root_tables once a b first second = within_apart a (root_frames part) b first (apart_within (root_frames part) b (table_frames part) second once.roots)

  host_root : Within (within part.first_root 4) (root_frames part)
  host_root = range_within part.first_root 4 part.first_root (4 * (1 + part.spaces)) (omega arith) (omega arith)

  host_table : Within (within part.first_table 1) (table_frames part)
  host_table = range_within part.first_table 1 part.first_table (1 + part.spaces * tables_for part.entries) (omega arith) (omega arith)

  pub host_apart : NamesEachOnce part → HostFramesAreApart part
  host_apart once i own =
      joined_apart (within part.first_root 4) (within part.first_table 1) (space_frames part i)
      (apart_joined (within part.first_root 4) (within (part.first_root + 4 * (1 + i)) 4) (within (part.first_table + 1 + i * tables_for part.entries) (tables_for part.entries))
      (ranges_apart part.first_root 4 (part.first_root + 4 * (1 + i)) 4 (omega arith))
      (root_tables once (within part.first_root 4) (within (part.first_table + 1 + i * tables_for part.entries) (tables_for part.entries)) host_root (tables_within i own)))
      (apart_joined (within part.first_table 1) (within (part.first_root + 4 * (1 + i)) 4) (within (part.first_table + 1 + i * tables_for part.entries) (tables_for part.entries))
      (apart_sym (within (part.first_root + 4 * (1 + i)) 4) (within part.first_table 1) (root_tables once (within (part.first_root + 4 * (1 + i)) 4) (within part.first_table 1) (root_within i own) host_table))
      (ranges_apart part.first_table 1 (part.first_table + 1 + i * tables_for part.entries) (tables_for part.entries) (omega arith)))

  -- two spaces, the first before the second
  in_order : NamesEachOnce part → (i j : ℕ) → i < j → j < part.spaces → Apart (space_frames part i) (space_frames part j)
  in_order once i j before own =
      let first : i < part.spaces = omega arith in
      joined_apart (within (part.first_root + 4 * (1 + i)) 4) (within (part.first_table + 1 + i * tables_for part.entries) (tables_for part.entries)) (space_frames part j)
      (apart_joined (within (part.first_root + 4 * (1 + i)) 4) (within (part.first_root + 4 * (1 + j)) 4) (within (part.first_table + 1 + j * tables_for part.entries) (tables_for part.entries))
      (ranges_apart (part.first_root + 4 * (1 + i)) 4 (part.first_root + 4 * (1 + j)) 4 (omega arith))
      (root_tables once (within (part.first_root + 4 * (1 + i)) 4) (within (part.first_table + 1 + j * tables_for part.entries) (tables_for part.entries)) (root_within i first) (tables_within j own)))
      (apart_joined (within (part.first_table + 1 + i * tables_for part.entries) (tables_for part.entries)) (within (part.first_root + 4 * (1 + j)) 4) (within (part.first_table + 1 + j * tables_for part.entries) (tables_for part.entries))
      (apart_sym (within (part.first_root + 4 * (1 + j)) 4) (within (part.first_table + 1 + i * tables_for part.entries) (tables_for part.entries))
      (root_tables once (within (part.first_root + 4 * (1 + j)) 4) (within (part.first_table + 1 + i * tables_for part.entries) (tables_for part.entries)) (root_within j own) (tables_within i first)))
      (ranges_apart (part.first_table + 1 + i * tables_for part.entries) (tables_for part.entries) (part.first_table + 1 + j * tables_for part.entries) (tables_for part.entries)
      (omega (arith, tables_end i j (tables_for part.entries) before))))

  pub spaces_apart : NamesEachOnce part → SpacesAreApart part
  spaces_apart once i j own own' other = by (cases_lt i j)
    where
      by : (i < j) ⊎ (j ≤ i) → Apart (space_frames part i) (space_frames part j)
      by (inl before) = in_order once i j before own'
      by (inr after) = apart_sym (space_frames part j) (space_frames part i) (in_order once j i (omega (arith, other)) own)

-- frames that are as they were in zeros are zeros
pub untouched : UntouchedAreZeros
untouched frames size memory same = record { each = λ at named. same.bytes at named ∙ zeros_at size at }
