-- The section of a guest in the report.
use Rattle.std.specs.Prelude.{ℕ, List}
use Rattle.guest_settings.specs.declared.guests.GuestSpec.{GuestSpec}
use Rattle.guest_settings.specs.Sections.{section_text}
use Rattle.machine_defs.specs.Machine.{Machine, start}
use Rattle.machine_defs.specs.Runs.{run}

-- what a machine's section says
abbrev pub section_of : List ℕ → Machine → List ℕ
section_of name m = section_text name m.platform.status m.platform.steps m.platform.console.bytes

-- the section of a guest whose lone machine has run for n steps
abbrev pub section : GuestSpec → ℕ → List ℕ
section guest n = section_of guest.name (run (start guest) n)
