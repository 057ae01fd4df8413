-- What the steps of a machine keep: one that folds has the space of hgatp in front.
use Rattle.std.specs.Prelude.{ℕ, ◌≡◌, ◌≤◌, true, Some}
use Rattle.arch_defs.specs.declared.cached.Entry.{Entry}
use Rattle.instruction_laws.specs.FrontSpaces.{FrontIs}
use Rattle.arch_defs.specs.WalkedEntries.{folds}
use Rattle.guest_settings.specs.declared.guests.GuestSpec.{GuestSpec}
use Rattle.machine_defs.specs.Fills.{fill, missing_entry, needed}
use Rattle.machine_defs.specs.Machine.{Machine, start}
use Rattle.machine_defs.specs.Runs.{left_after, run}

-- a machine has room for a space and for the entries that an instruction asks for, and while it folds the
-- space of hgatp is in front
pub record IsOrderly (m : Machine) : Type 0 where
  pub entries : needed ≤ m.entry_room
  pub spaces : 1 ≤ m.space_room
  pub front : folds m.platform.virt ≡ true → FrontIs m.platform.virt.csrs.hgatp m.spaces

-- it is so at its start, after each fill, after each try, and after each run
abbrev pub StartIsOrderly : Type 0
StartIsOrderly = (guest : GuestSpec) → needed ≤ guest.entries → 1 ≤ guest.spaces → IsOrderly (start guest)

abbrev pub FillKeepsOrderly : Type 0
FillKeepsOrderly = (m : Machine) (e : Entry) → IsOrderly m → missing_entry m ≡ Some e → IsOrderly (fill m e)

abbrev pub TryKeepsOrderly : Type 0
TryKeepsOrderly = (m : Machine) → IsOrderly m → IsOrderly (left_after m)

abbrev pub RunKeepsOrderly : Type 0
RunKeepsOrderly = (m : Machine) (n : ℕ) → IsOrderly m → IsOrderly (run m n)
