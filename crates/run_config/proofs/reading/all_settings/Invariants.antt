use Rattle.std.proofs.Common.{◌≡◌, ◌++◌, [], drop, length, map}
use Rattle.run_config.specs.Guests.{guests_fault, settings_of}
use Rattle.run_config.specs.Seen.{names_of, tables_seen}
use Rattle.run_config.proofs.reading.all_settings.Given as goal

abbrev pub invariant-loop-table : goal.invariant-loop-table
invariant-loop-table l = record {
  count : length l.guests.items ≡ l.table-index;
  faults : guests_fault l.format [] (tables_seen l.tables) ≡ guests_fault l.format (names_of l.guests.items) (tables_seen (drop l.table-index l.tables));
  settings : map (settings_of l.format) (tables_seen l.tables) ≡ l.guests.items ++ map (settings_of l.format) (tables_seen (drop l.table-index l.tables));
}
