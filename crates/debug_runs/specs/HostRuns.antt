-- A host of one guest, as a run that can be kept.
use Rattle.std.specs.Prelude.{ℕ, ◌≡◌, false, List, length}
use Rattle.guest_save.specs.Forms.{form}
use Rattle.guest_save.specs.Reading.{machine_in}
use Rattle.guest_save.specs.Savable.{IsSavable}
use Rattle.guest_turns.specs.Hosted.{Hosted, is_set, machine_at}
use Rattle.guest_turns.specs.declared.sources.Source.{Source}
use Rattle.guest_turns.specs.Sources.{machine_of_source, IsBootableSource}
use Rattle.machine_defs.specs.Machine.{Machine}
use Rattle.machine_defs.specs.Runs.{run}

-- the machine is one of the run of a source
pub record IsRunOfSource (m : Machine) : Type 0 where
  pub source : Source
  pub steps : ℕ
  pub bootable : IsBootableSource source
  pub machine : m ≡ run (machine_of_source source) steps

-- a host has one guest, which has not retired
pub record HasOne (host : Hosted) : Type 0 where
  pub one : length host.machines ≡ 1
  pub active : (g : ℕ) → is_set host.retired g ≡ false
  pub runs : IsRunOfSource (machine_at host.machines 0)

-- bytes are the form of the machine that they give, and that can be saved
pub record IsForm (bytes : List ℕ) : Type 0 where
  pub savable : IsSavable (machine_in bytes)
  pub form : form (machine_in bytes) ≡ bytes
