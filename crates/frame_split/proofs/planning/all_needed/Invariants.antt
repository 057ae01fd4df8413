use Rattle.std.proofs.Common.{◌≡◌, ◌+◌, ◌*◌, ◌≤◌, drop}
use Rattle.frame_split.specs.Shares.{blocks_of_all, most_guest_tables, roots_of_all, tables_of_all}
use Rattle.frame_split.proofs.planning.all_needed.Given as goal

abbrev pub invariant-loop-i : goal.invariant-loop-i
invariant-loop-i l = record {
  blocks : l.totals.blocks + blocks_of_all (drop l.i l.needs) ≡ blocks_of_all l.needs;
  roots : l.totals.roots + roots_of_all (drop l.i l.needs) ≡ roots_of_all l.needs;
  tables : l.totals.tables + tables_of_all (drop l.i l.needs) ≡ tables_of_all l.needs;
  few : (l.totals.blocks ≤ 32 * l.i) × (l.totals.roots ≤ 9 * l.i) × (l.totals.tables ≤ most_guest_tables * l.i);
}
