-- The section of a guest in the report (own).
use Rattle.std.specs.Prelude.{ℕ, List, ◌++◌, length, codes, decimal}
use Rattle.guest_settings.specs.declared.statuses.Status.{Status}
use Rattle.guest_settings.specs.declared.statuses.Status.TheVariants.{Running, Waiting, Stopped}

-- the word for a status
abbrev pub status_word : Status → List ℕ
status_word Running = codes "running"
status_word Waiting = codes "waiting"
status_word Stopped = codes "stopped"

-- the line that heads a section, without its line feed: a name, a status, a count of steps and one of console
-- bytes
unfoldable pub header : List ℕ → Status → ℕ → ℕ → List ℕ
header name status steps bytes =
    codes "guest " ++ name ++ codes " " ++ status_word status ++ codes " steps " ++ decimal steps
    ++ codes " bytes " ++ decimal bytes

-- a section: the header and the console's bytes, each with a line feed
abbrev pub section_text : List ℕ → Status → ℕ → List ℕ → List ℕ
section_text name status steps console =
    header name status steps (length console) ++ codes "\n" ++ console ++ codes "\n"
