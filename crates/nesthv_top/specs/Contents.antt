-- What the files say that a command names: the configuration, the images, the inputs, the saved machines, and
-- the stored report.
use Rattle.std.specs.Prelude.{ℕ, ◌+◌, ◌*◌, List, [], map, unwrap_or}
use Rattle.arch_defs.specs.Memory.{block_size}
use Rattle.command_line.specs.Commands.{FileCommand, Run, Replay, Check, Save}
use Rattle.guest_save.specs.Saves.{SavedMachine, saved_machine_in}
use Rattle.guest_settings.specs.declared.guests.GuestSpec.{GuestSpec}
use Rattle.guest_turns.specs.declared.sources.Source.{Source}
use Rattle.guest_turns.specs.declared.sources.Source.TheVariants as source
use Rattle.outside.specs.Files.{Files, read_of}
use Rattle.run_config.specs.declared.guests.FreshGuest.{FreshGuest}
use Rattle.run_config.specs.declared.guests.GuestSettings.{GuestSettings}
use Rattle.run_config.specs.declared.guests.InputSource.{InputSource}
use Rattle.run_config.specs.declared.guests.InputSource.TheVariants.{Pairs, File}
use Rattle.run_config.specs.declared.guests.Origin.{Origin}
use Rattle.run_config.specs.declared.guests.Origin.TheVariants.{Fresh, Saved}
use Rattle.run_config.specs.Records.{records_of}

-- the first bytes of a file; one that is not there counts as empty
abbrev pub content : Files → List ℕ → ℕ → List ℕ
content files name most = unwrap_or (read_of (files.bytes_of name) files.absent_is_empty most) []

-- the configuration that a command on files names
abbrev pub config_name : FileCommand → List ℕ
config_name (Run config) = config
config_name (Replay config report) = config
config_name (Check config) = config
config_name (Save config guest) = config

-- at most how many bytes of a configuration are asked for: one more than it may have
abbrev pub config_most : ℕ
config_most = 65537

-- what is read of it
abbrev pub config_of : Files → FileCommand → List ℕ
config_of files command = content files (config_name command) config_most

-- at most how many bytes of a fresh guest's image are asked for: one more than its RAM has
abbrev pub guest_ram_size : FreshGuest → ℕ
guest_ram_size guest = guest.blocks * block_size

abbrev pub image_most : FreshGuest → ℕ
image_most guest = guest_ram_size guest + 1

-- what is read of it
abbrev pub image_of : Files → FreshGuest → List ℕ
image_of files guest = content files guest.image (image_most guest)

-- at most how many bytes of a file of inputs are asked for: one more than 65,536 records have
abbrev pub records_most : ℕ
records_most = 589825

-- what is read of the file that a guest's inputs come from, which is nothing where they come from none
abbrev pub records_in : Files → InputSource → List ℕ
records_in files (Pairs inputs) = []
records_in files (File name) = content files name records_most

-- the inputs that come from here, where these are the bytes of the file
abbrev pub inputs_from : InputSource → List ℕ → List (ℕ × ℕ)
inputs_from (Pairs inputs) bytes = inputs
inputs_from (File name) bytes = records_of bytes

-- a fresh guest of this name, with its image and the bytes of its file of inputs
abbrev pub guest_of : List ℕ → FreshGuest → List ℕ → List ℕ → GuestSpec
guest_of name guest image records = record {
  name = name;
  image = image;
  blocks = guest.blocks;
  spaces = guest.spaces;
  entries = guest.entries;
  console = guest.console;
  inputs = inputs_from guest.input records;
  device = guest.device;
}

-- at most how many bytes of a saved machine are asked for: one more than the longest form of one has
abbrev pub saved_most : ℕ
saved_most = 68798705

-- what is read of the file that a resumed guest names, and the machine that it gives
abbrev pub saved_of : Files → List ℕ → List ℕ
saved_of files name = content files name saved_most

abbrev pub resumed_of : Files → List ℕ → SavedMachine
resumed_of files name = saved_machine_in (saved_of files name)

-- where a guest of this name comes from: it is fresh, or goes on from its saved machine
abbrev pub source_by : Files → List ℕ → Origin → Source
source_by files name (Fresh guest) =
    source.Fresh (guest_of name guest (image_of files guest) (records_in files guest.input))
source_by files name (Saved file) = source.Kept name (resumed_of files file)

abbrev pub sources_of : Files → List GuestSettings → List Source
sources_of files guests = map (λ guest. source_by files guest.name guest.origin) guests

-- at most how many bytes of a report are asked for, which are those that it is compared by
abbrev pub report_most : ℕ
report_most = 33554432

-- what is read of the stored report that a command names
abbrev pub stored_of : Files → FileCommand → List ℕ
stored_of files (Run config) = []
stored_of files (Replay config report) = content files report report_most
stored_of files (Check config) = []
stored_of files (Save config guest) = []
