use Rattle.std.specs.Prelude.{vec_capacity}
use Rattle.std.proofs.Common.{◌≡◌, ◌*◌, ◌≤◌, Ok, length, map, take}
use Rattle.nesthv_top.specs.Ends.{HasRead}
use Rattle.nesthv_top.specs.Contents.{sources_of}
use Rattle.nesthv_top.specs.Loads.{source_read, AreReadFor}
use Rattle.nesthv_top.specs.Reads.{guests_steps}
use Rattle.nesthv_top.proofs.loading.read_guests.Given as goal

abbrev pub invariant-loop-i : goal.invariant-loop-i
invariant-loop-i g l = record {
  read : HasRead g.S.Store (λ files. guests_steps files 0 (take l.i l.settings)) (2 * l.i) (λ files guests. map source_read guests.items ≡ sources_of files (take l.i l.settings)) (Ok l.guests)
      l.fn.store l.store l.fn.reads.made l.reads.made;
  fitting : AreReadFor (take l.i l.settings) l.guests.items;
  room : length l.settings ≤ vec_capacity l.guests;
  count : length l.guests.items ≡ l.i;
}
