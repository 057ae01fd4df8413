-- What a try leaves that makes a step: one step more, and what the clock sets as the clock sets it.
use Rattle.std.specs.Prelude.{◌==◌}
use Rattle.std.proofs.Common.{◌≡◌, ◌+◌, Option, Bool, true, false, refl}
use Rattle.arch_defs.specs.declared.cached.Fence.{Fence}
use Rattle.arch_defs.specs.Calls.{environment, state_of}
use Rattle.arch_defs.specs.Registers.{a7, read}
use Rattle.machine_defs.specs.Machine.{Machine, Platform, Tried, Ended, WaitsForGood, called, with_pending_lines, stopped_if, with_call, with_first}
use Rattle.machine_defs.specs.Tries.{try}
use Rattle.instruction_laws.proofs.TryEnds.{Calls, Fences, Halts, Makes, Passes, Serves, Takes}
use Rattle.guest_exit.proofs.SomeEnds.{SomeEnd, some_end}

pub record IsStep (m after : Machine) : Type 0 where
  pub counted : after.platform.steps ≡ m.platform.steps + 1
  pub current : with_pending_lines after.platform ≡ after.platform

abbrev pub LeavesStep : Machine → Tried → Type 0
LeavesStep m (Ended after event) = IsStep m after
LeavesStep m WaitsForGood = Unit {0}

stops_or_not : (p : Platform) (stops : Bool) → (stopped_if stops p).steps ≡ p.steps
stops_or_not p true = refl
stops_or_not p false = refl

called_steps : (p : Platform) → (called p).steps ≡ p.steps
called_steps p = stops_or_not (with_call p (environment (state_of p.virt.regs p.clock p.console))) (read p.virt.regs a7 == 8)

ended_step : (m : Machine) (tried : Tried) (fence : Option Fence) → SomeEnd m tried fence → LeavesStep m tried
ended_step m tried fence (Takes first trap) = record { counted = refl; current = refl }
ended_step m tried fence (Makes first completion event any) = record { counted = refl; current = refl }
ended_step m tried fence (Serves first rd value console leaves) = record { counted = refl; current = refl }
ended_step m tried fence (Calls first) = record { counted = rw (called_steps (with_first m first).platform) refl; current = refl }
ended_step m tried fence (Passes first virt moment any) = record { counted = refl; current = refl }
ended_step m tried fence Halts = tt
ended_step m tried fence (Fences first virt named any) = record { counted = refl; current = refl }

pub try_step : (m : Machine) → LeavesStep m (try m)
try_step m = ended_step m (try m) _ (some_end m)
