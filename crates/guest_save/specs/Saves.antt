-- A saved machine: one that a form gives, and the version of that form.
use Rattle.std.specs.Prelude.{ℕ, List}
use Rattle.guest_save.specs.declared.versions.Version.{Version}
use Rattle.guest_save.specs.Forms.{form_of}
use Rattle.guest_save.specs.Reading.{machine_in}
use Rattle.guest_save.specs.Versions.{version_in}
use Rattle.machine_defs.specs.Machine.{Machine}

pub record SavedMachine : Type 0 where
  pub version : Version
  pub machine : Machine

-- the form that gives it
abbrev pub saved_form : SavedMachine → List ℕ
saved_form saved = form_of saved.version saved.machine

-- the one that any bytes give
abbrev pub saved_machine_in : List ℕ → SavedMachine
saved_machine_in bytes = record { version = version_in bytes; machine = machine_in bytes }
