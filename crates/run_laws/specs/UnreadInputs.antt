-- What runs keep of the inputs that are unread: they are such as a guest may be given.
use Rattle.std.specs.Prelude.{ℕ}
use Rattle.guest_settings.specs.declared.guests.GuestSpec.{GuestSpec}
use Rattle.guest_settings.specs.Inputs.{AreInputs}
use Rattle.machine_defs.specs.Machine.{Machine, start}
use Rattle.machine_defs.specs.Runs.{run}

-- those of a guest's machine at its start are the guest's
abbrev pub StartHasInputs : Type 0
StartHasInputs = (guest : GuestSpec) → AreInputs guest.inputs
    → AreInputs (start guest).platform.console.inputs

-- in a run they stay so
abbrev pub RunKeepsInputs : Type 0
RunKeepsInputs = (m : Machine) (n : ℕ) → AreInputs m.platform.console.inputs
    → AreInputs (run m n).platform.console.inputs
