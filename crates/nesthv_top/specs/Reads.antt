-- The steps of a command before it runs: which files it reads, and how it tests what they say.
use Rattle.std.specs.Prelude.{ℕ, ◌+◌, List, [], ◌∷◌, ◌++◌, Option, Some, None, option_map, Result, Ok, Err, Bool, true, false, length, nat_le}
use Rattle.std.specs.Str.{is_utf8}
use Rattle.arch_defs.specs.Frames.{most_frames}
use Rattle.command_line.specs.Commands.{Command, FileCommand, OnFiles, Run, Replay, Check, Save, Work}
use Rattle.frame_split.specs.Shares.{frames_with}
use Rattle.guest_save.specs.Deciding.{is_saved}
use Rattle.guest_turns.specs.Sources.{needs_of_sources}
use Rattle.outside.specs.Asks.{Ask}
use Rattle.outside.specs.Files.{Files}
use Rattle.run_config.specs.declared.faults.ConfigFault.{ConfigFault}
use Rattle.run_config.specs.Faults as fault
use Rattle.run_config.specs.declared.guests.FreshGuest.{FreshGuest}
use Rattle.run_config.specs.declared.guests.GuestSettings.{GuestSettings}
use Rattle.run_config.specs.declared.guests.InputSource.{InputSource}
use Rattle.run_config.specs.declared.guests.InputSource.TheVariants.{Pairs, File}
use Rattle.run_config.specs.declared.guests.Origin.{Origin}
use Rattle.run_config.specs.declared.guests.Origin.TheVariants.{Fresh, Saved}
use Rattle.run_config.specs.Accept.{accept}
use Rattle.run_config.specs.Configurations.{Configuration}
use Rattle.run_config.specs.Records.{bad_record}
use Rattle.run_config.specs.Tests.{first_fault, unless}
use Rattle.nesthv_top.specs.Contents.{config_most, config_name, content, config_of, guest_ram_size, image_most, image_of, records_most, report_most, saved_most, saved_of, sources_of}
use Rattle.nesthv_top.specs.Steps.{Step, made_of, AskedMore}

-- a read of a file, at most that many bytes of it
abbrev pub ask : List ℕ → ℕ → Ask
ask name most = record { name = name; most = most; failed = false }

-- a step that reads a file and then tests, one that tests alone, and one whose test takes memory
abbrev pub reading : Ask → Option ConfigFault → Step
reading asked found = record { ask = Some asked; takes = false; fault = found }

abbrev pub testing : Option ConfigFault → Step
testing found = record { ask = None; takes = false; fault = found }

abbrev pub making : Option ConfigFault → Step
making found = record { ask = None; takes = true; fault = found }

-- the fault of bytes that are too long for a configuration, or no text (own)
abbrev pub text_fault : List ℕ → Option ConfigFault
text_fault bytes = first_fault (
    unless (nat_le (length bytes) 65536) fault.too_long
    ∷ unless (is_utf8 bytes) fault.not_toml
    ∷ [])

-- the fault of a configuration that is refused
abbrev pub fault_by : Result Configuration ConfigFault → Option ConfigFault
fault_by (Ok c) = None
fault_by (Err found) = Some found

-- the fault of a command that saves a guest which a configuration does not have: the guest's number (own)
abbrev pub absent_guest_fault : FileCommand → Result Configuration ConfigFault → Option ConfigFault
absent_guest_fault (Save config guest) (Ok c) =
    unless (nat_le (guest + 1) (length c.guests)) (fault.no_guest guest)
absent_guest_fault command accepted = None

-- the configuration: it is read and tested as text, then as a configuration, and then whether it has the
-- guest that is to be saved
abbrev pub config_steps : Files → FileCommand → List Step
config_steps files command =
    reading (ask (config_name command) config_most) (text_fault (config_of files command))
    ∷ making (fault_by (accept (config_of files command)))
    ∷ testing (absent_guest_fault command (accept (config_of files command)))
    ∷ []

-- the fault of an image that is longer than its guest's RAM: the guest's number, and how many bytes were read
-- (own)
abbrev pub image_fault : ℕ → FreshGuest → List ℕ → Option ConfigFault
image_fault number guest image =
    unless (nat_le (length image) (guest_ram_size guest)) (fault.image_long number (length image))

-- the image of a fresh guest of this number
abbrev pub image_step : Files → ℕ → FreshGuest → Step
image_step files number guest =
    reading (ask guest.image (image_most guest)) (image_fault number guest (image_of files guest))

-- the fault of a file of inputs with a bad record: the guest's number, and that of the first such record
-- (own)
abbrev pub records_fault : ℕ → List ℕ → Option ConfigFault
records_fault number bytes = option_map (λ bad. fault.input_file number bad) (bad_record bytes)

-- the file that the inputs of a guest of this number come from, where they come from one
abbrev pub input_steps : Files → ℕ → InputSource → List Step
input_steps files number (Pairs inputs) = []
input_steps files number (File name) =
    reading (ask name records_most) (records_fault number (content files name records_most)) ∷ []

-- what is read for a fresh guest: its image, and then its file of inputs
abbrev pub fresh_steps : Files → ℕ → FreshGuest → List Step
fresh_steps files number guest = image_step files number guest ∷ input_steps files number guest.input

-- the fault of a file that is not a form of a machine that can be saved: the guest's number (own)
abbrev pub saved_fault : ℕ → List ℕ → Option ConfigFault
saved_fault number bytes = unless (is_saved bytes) (fault.saved number)

-- the file of a resumed guest of this number: it is read, and then tested as a saved machine
abbrev pub saved_steps : Files → ℕ → List ℕ → List Step
saved_steps files number name =
    reading (ask name saved_most) None ∷ making (saved_fault number (saved_of files name)) ∷ []

-- what is read for a guest
abbrev pub origin_steps : Files → ℕ → Origin → List Step
origin_steps files number (Fresh guest) = fresh_steps files number guest
origin_steps files number (Saved name) = saved_steps files number name

abbrev pub guest_steps : Files → ℕ → GuestSettings → List Step
guest_steps files number guest = origin_steps files number guest.origin

-- the same of guests in their order, after that many others
unfoldable pub guests_steps : Files → ℕ → List GuestSettings → List Step
guests_steps files before [] = []
guests_steps files before (guest ∷ rest) =
    guest_steps files before guest ++ guests_steps files (before + 1) rest

-- the stored report that a command names
abbrev pub report_steps : FileCommand → List Step
report_steps (Run config) = []
report_steps (Replay config report) = reading (ask report report_most) None ∷ []
report_steps (Check config) = []
report_steps (Save config guest) = []

-- the fault of guests and spare blocks that need more frames than machine memory has, which is 131,072 (own)
abbrev pub frames_fault : ℕ → Option ConfigFault
frames_fault frames = unless (nat_le frames most_frames) (fault.frames frames)

-- the steps after those of a configuration that is accepted: the guests, the report, and the frames
abbrev pub accepted_steps : Files → FileCommand → Result Configuration ConfigFault → List Step
accepted_steps files command (Ok c) = guests_steps files 0 c.guests
    ++ report_steps command
    ++ testing (frames_fault (frames_with (needs_of_sources (sources_of files c.guests)) c.spare))
    ∷ []
accepted_steps files command (Err found) = []

-- all steps of a command on files
unfoldable pub file_steps : Files → FileCommand → List Step
file_steps files command =
    config_steps files command ++ accepted_steps files command (accept (config_of files command))

-- the steps of a command: a work has none
abbrev pub steps_for : Files → Option Command → List Step
steps_for files (Some (OnFiles command)) = file_steps files command
steps_for files (Some (Work seed size)) = []
steps_for files None = []

-- the reads for a command: up to the first test that refuses
abbrev pub asks_of : Files → Option Command → List Ask
asks_of files command = made_of (steps_for files command)

-- the most reads of a command: a configuration, an image and a file of inputs of each of 16 guests, and a
-- report
abbrev pub most_reads : ℕ
most_reads = 34

-- reads were made, and the first of them was that of the command's configuration, whatever it answered; a
-- work makes none
abbrev pub BeginsWithConfig : Option Command → Option (List Ask) → Option (List Ask) → Type 0
BeginsWithConfig (Some (OnFiles command)) before after = (failed : Bool) × (rest : List Ask)
    × AskedMore (record { name = config_name command; most = config_most; failed = failed } ∷ rest)
    before after
BeginsWithConfig (Some (Work seed size)) before after = AskedMore [] before after
BeginsWithConfig None before after = ⊥
