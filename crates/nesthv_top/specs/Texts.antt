-- What a command finds, and what it writes.
use Rattle.std.specs.Prelude.{ℕ, List, [], ◌∷◌, ◌++◌, length, codes, decimal}
use Rattle.guest_settings.specs.Needs.{frames_needed}
use Rattle.command_line.specs.Commands.{Command, FileCommand, OnFiles, Run, Replay, Check, Save, Work}
use Rattle.guest_save.specs.Forms.{form}
use Rattle.guest_save.specs.Saves.{saved_form}
use Rattle.guest_turns.specs.declared.sources.Source.{Source}
use Rattle.guest_turns.specs.declared.sources.Source.TheVariants.{Fresh, Kept}
use Rattle.guest_turns.specs.Sources.{need_of_source}
use Rattle.outside.specs.Files.{Files}
use Rattle.replay.specs.Comparisons.{verdict_of}
use Rattle.replay.specs.declared.comparisons.Verdict.{Verdict}
use Rattle.replay.specs.declared.comparisons.Verdict.TheVariants.{Same, Differs}
use Rattle.nesthv_top.specs.Contents.{stored_of}
use Rattle.nesthv_top.specs.Plans.{Plan, machine_after, name_of_source, plan_frames, report_of}
use Rattle.nesthv_top.specs.Works.{work_text}

-- how long the file is that a guest comes from: its image, or the form of its saved machine
abbrev pub file_length : Source → ℕ
file_length (Fresh spec) = length spec.image
file_length (Kept name saved) = length (saved_form saved)

-- the line that says what a guest needs: its name, how long its file is, and its frames of machine memory
unfoldable pub guest_check : Source → List ℕ
guest_check source = codes "guest " ++ name_of_source source
    ++ codes " image " ++ decimal (file_length source)
    ++ codes " frames " ++ decimal (frames_needed (need_of_source source)) ++ codes "\n"

-- those lines, and one that says what all guests need
abbrev pub guest_checks : List Source → List ℕ
guest_checks [] = []
guest_checks (source ∷ rest) = guest_check source ++ guest_checks rest

unfoldable pub frames_check : ℕ → List ℕ
frames_check frames = codes "frames " ++ decimal frames ++ codes "\n"

abbrev pub check_text : Plan → List ℕ
check_text plan = guest_checks plan.sources ++ frames_check (plan_frames plan)

-- the line that says a verdict
unfoldable pub verdict_line : Verdict → List ℕ
verdict_line Same = codes "same\n"
verdict_line (Differs n) = codes "differs at " ++ decimal n ++ codes "\n"

-- what a command on files finds with this stored report: a replay whether the report differs from it, the
-- others nothing that differs
abbrev pub verdict_with : FileCommand → List ℕ → Plan → Verdict
verdict_with (Run config) stored plan = Same
verdict_with (Replay config report) stored plan = verdict_of stored (report_of plan)
verdict_with (Check config) stored plan = Same
verdict_with (Save config guest) stored plan = Same

-- the same of any command
abbrev pub found_of : Files → Command → Plan → Verdict
found_of files (OnFiles command) plan = verdict_with command (stored_of files command) plan
found_of files (Work seed size) plan = Same

-- what a command on files writes: a run the report, a replay its verdict, a check what the guests need, and a
-- save the form of a guest's machine after its turns
abbrev pub text_with : FileCommand → List ℕ → Plan → List ℕ
text_with (Run config) stored plan = report_of plan
text_with (Replay config report) stored plan = verdict_line (verdict_of stored (report_of plan))
text_with (Check config) stored plan = check_text plan
text_with (Save config guest) stored plan = form (machine_after plan guest)

-- what any command writes
abbrev pub text_of : Files → Command → Plan → List ℕ
text_of files (OnFiles command) plan = text_with command (stored_of files command) plan
text_of files (Work seed size) plan = work_text seed size
