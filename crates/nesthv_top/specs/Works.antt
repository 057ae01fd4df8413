-- What `work` writes of the guests that a seed and a size give.
use Rattle.std.specs.Prelude.{ℕ, ◌*◌, List, ◌++◌, length, codes, decimal}
use Rattle.std.specs.List.{flat_map, sum}
use Rattle.guest_settings.specs.declared.guests.GuestSpec.{GuestSpec}
use Rattle.guest_settings.specs.declared.statuses.Status.{Status}
use Rattle.machine_defs.specs.Machine.{Machine, start}
use Rattle.guest_settings.specs.Sections.{header}
use Rattle.machine_defs.specs.Runs.{run}
use Rattle.work_images.specs.Guests.{guests}

-- the seed and the size
unfoldable pub work_heading : ℕ → ℕ → List ℕ
work_heading seed size = codes "work " ++ decimal seed ++ codes " " ++ decimal size ++ codes "\n"

-- the line of a guest: the header of its section, and the sum of its console's bytes
unfoldable pub sum_line : List ℕ → Status → ℕ → List ℕ → List ℕ
sum_line name status steps console =
    header name status steps (length console) ++ codes " sum " ++ decimal (sum console) ++ codes "\n"

-- the line that says this of a machine
abbrev pub line_of : List ℕ → Machine → List ℕ
line_of name m = sum_line name m.platform.status m.platform.steps m.platform.console.bytes

-- the line of a guest whose lone machine has run for n steps
abbrev pub line_after : ℕ → GuestSpec → List ℕ
line_after n guest = line_of guest.name (run (start guest) n)

-- all that is written: each guest's lone machine has run for 1,000 steps for each of its commands
abbrev pub work_text : ℕ → ℕ → List ℕ
work_text seed size = work_heading seed size ++ flat_map (line_after (1000 * size)) (guests seed size)
