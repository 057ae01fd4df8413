-- Calm steps, of which one entry of the hart makes all of a turn's (own).
use Rattle.std.specs.Prelude.{ℕ, zero, suc, ◌≡◌, ◌<◌, None}
use Rattle.guest_settings.specs.declared.statuses.Status.TheVariants.{Running}
use Rattle.arch_defs.specs.Registers.{clear_interrupts}
use Rattle.machine_defs.specs.Fills.{missing_entry}
use Rattle.machine_defs.specs.Machine.{Machine, with_pending_lines}
use Rattle.machine_defs.specs.Runs.{event_in, plain_count, run}
use Rattle.machine_defs.specs.Tries.{try}
use Rattle.guest_exit.specs.HartEntry.{Lasts}

-- a machine's next step is calm: it is plain, and nothing is filled for it
pub record IsCalm (m : Machine) : Type 0 where
  pub running : m.platform.status ≡ Running
  pub plain : plain_count (event_in (try m)) ≡ 1
  pub no_fill : missing_entry m ≡ None

-- its next k steps are, and in them nothing changes that the hart does not have for it: no interrupt of VS
-- waits for HS to take it, and neither the timer nor an input comes before the last begins. Any bit of sip
-- and hip may be set, if it is not enabled, or not the host's to take
pub record AreCalm (m : Machine) (k : ℕ) : Type 0 where
  pub each : (i : ℕ) → i < k → IsCalm (run m i)
  pub lasts : 0 < k → Lasts m.platform k

-- a calm step at which no bit of sip or hip is set; hip shows hvip (Privileged Architecture 20211203, 4.1.3
-- and 8.2.3)
pub record IsClear (m : Machine) : Type 0 where
  pub calm : IsCalm m
  pub sip : m.platform.virt.csrs.sip ≡ clear_interrupts
  pub hip : m.platform.virt.csrs.hvip ≡ clear_interrupts

-- such steps are calm together, whatever is enabled, where sip shows at first what the clock sets
abbrev pub ClearStepsAreCalm : Type 0
ClearStepsAreCalm = (m : Machine) (k : ℕ) → with_pending_lines m.platform ≡ m.platform
    → ((i : ℕ) → i < k → IsClear (run m i)) → AreCalm m k

-- the entries of a turn of k calm steps: one, if there are steps
abbrev pub calm_entries : ℕ → ℕ
calm_entries zero = 0
calm_entries (suc k) = 1
