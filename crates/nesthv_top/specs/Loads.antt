-- What was read for guests, and the guests that are made of it.
use Rattle.std.specs.Prelude.{⊤, ◌≡◌, ◌≤◌, ℕ, List, Option, Some, None, length, map}
use Rattle.std.specs.List.{All}
use Rattle.arch_defs.specs.Frames.{most_frames}
use Rattle.command_line.specs.Commands.{FileCommand}
use Rattle.frame_split.specs.Shares.{frames_with}
use Rattle.guest_save.specs.Savable.{IsSavable}
use Rattle.guest_settings.specs.declared.guests.GuestSpec.{GuestSpec}
use Rattle.guest_turns.specs.declared.sources.Source.{Source}
use Rattle.guest_turns.specs.declared.sources.Source.TheVariants as source
use Rattle.guest_turns.specs.Sources.{needs_of_sources}
use Rattle.outside.specs.declared.stores.Store as stores
use Rattle.outside.specs.Files.{Files}
use Rattle.run_config.specs.declared.guests.GuestSettings.{GuestSettings}
use Rattle.run_config.specs.declared.guests.InputSource.{InputSource}
use Rattle.run_config.specs.declared.guests.InputSource.TheVariants.{Pairs, File}
use Rattle.run_config.specs.Records.{bad_record}
use Rattle.run_config.specs.Configurations.{Configuration, IsFreshWithin}
use Rattle.nesthv_top.specs.declared.ends.FreshFiles.{FreshFiles}
use Rattle.nesthv_top.specs.declared.ends.GuestFiles.{GuestFiles}
use Rattle.nesthv_top.specs.declared.ends.GuestFiles.TheVariants.{Fresh, Saved}
use Rattle.nesthv_top.specs.declared.ends.FilesRead.{FilesRead}
use Rattle.nesthv_top.specs.declared.ends.Loaded.{Loaded}
use Rattle.nesthv_top.specs.Contents.{guest_of, guest_ram_size, sources_of, stored_of}
use Rattle.nesthv_top.specs.Plans.{planned}
use Rattle.nesthv_top.specs.Reads.{file_steps}
use Rattle.nesthv_top.specs.Seen.{loaded_plan, names_in, HasGuest, IsJob}
use Rattle.nesthv_top.specs.Steps.{AreAnswered, ArePassed}

-- the guest that what was read for it makes: a fresh one, and any
abbrev pub spec_read : FreshFiles → GuestSpec
spec_read read = guest_of read.name.now read.guest.now read.image read.records

abbrev pub source_read : GuestFiles → Source
source_read (Fresh read) = source.Fresh (spec_read read)
source_read (Saved name saved) = source.Kept name.now saved

-- its name
abbrev pub name_read : GuestFiles → List ℕ
name_read (Fresh read) = read.name.now
name_read (Saved name saved) = name.now

-- inputs come from bytes without a bad record, or from no file
abbrev pub AreGood : InputSource → List ℕ → Type 0
AreGood (Pairs inputs) bytes = ⊤
AreGood (File name) bytes = bad_record bytes ≡ None

-- what was read passes the tests of a fresh guest
pub record IsFreshFitting (read : FreshFiles) : Type 0 where
  pub limits : IsFreshWithin read.guest.now
  pub image : length read.image ≤ guest_ram_size read.guest.now
  pub records : AreGood read.guest.now.input read.records

-- and of any guest: for a resumed one, a machine that can be saved
abbrev pub IsFitting : GuestFiles → Type 0
IsFitting (Fresh read) = IsFreshFitting read
IsFitting (Saved name saved) = IsSavable saved.machine

-- it was read for guests of these settings, and passes their tests
pub record AreReadFor (settings : List GuestSettings) (read : List GuestFiles) : Type 0 where
  pub names : map name_read read ≡ names_in settings
  pub fitting : All IsFitting read

-- the frames that guests and that many spare blocks need
abbrev pub frames_read : List GuestFiles → ℕ → ℕ
frames_read read spare = frames_with (needs_of_sources (map source_read read)) spare

-- all that was read beside a configuration is what the files say
pub record IsAllRead (files : Files) (command : FileCommand) (c : Configuration) (read : FilesRead)
    : Type 0 where
  pub guests : map source_read read.guests.items ≡ sources_of files c.guests
  pub stored : read.stored.items ≡ stored_of files command

-- it passed all tests
pub record IsTested (c : Configuration) (read : FilesRead) : Type 0 where
  pub guests : AreReadFor c.guests read.guests.items
  pub frames : read.frames ≡ frames_read read.guests.items c.spare
  pub few : read.frames ≤ most_frames

-- all reads and tests of a command have been passed, and that many reads were made
pub record HasPassed {X : Type 0} (S : stores.Ghosts X) (command : FileCommand) (made : ℕ) (old new : X)
    : Type 0 where
  pub steps : (files : Files) → S.files old ≡ Some files
      → ArePassed (file_steps files command) 0 (S.asked old) made (S.asked new)
  pub answered : AreAnswered 0 (S.asked old) made (S.asked new)
  pub some : 1 ≤ made

-- what was loaded is what a command needs: where the store tells its files, it is what these say
pub record IsLoaded (told : Option Files) (command : FileCommand) (loaded : Loaded) : Type 0 where
  pub plan : (files : Files) → told ≡ Some files → planned files command ≡ Some (loaded_plan loaded)
  pub stored : (files : Files) → told ≡ Some files → loaded.stored.items ≡ stored_of files command
  pub job : IsJob loaded.job
  pub guest : HasGuest command loaded.job.config
