-- What has been put of the log of a run.
use Rattle.std.specs.Prelude.{ℕ, Bool, List}
use Rattle.log_lines.specs.declared.kinds.Kinds.{Kinds}
use Rattle.machine_defs.specs.Machine.{Machine}
use Rattle.outside.specs.declared.sinks.Sink as sinks
use Rattle.outside.specs.Pieces.{Puts}
use Rattle.run_log.specs.Log.{IsLog}

-- the log of a number of steps of a machine's run, from one on, or a front of it
abbrev pub HasLogged : {O : Type 0} → sinks.Ghosts O → Kinds → Machine → ℕ → ℕ → Bool → O
    → O → Type 0
HasLogged K kinds m from steps whole old new =
    (bytes : List ℕ) × IsLog kinds m from steps bytes × Puts K.stands_for old new whole bytes
