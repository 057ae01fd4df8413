-- The next step of a guest's lone machine, and what is left after it.
use Rattle.std.specs.Prelude.{ℕ, ◌≡◌, ◌+◌, ◌^◌, ◌<◌, ◌≤◌, Bool, false, true, List, [], ◌∷◌, Some, None}
use Rattle.std.specs.Option.{ForSome}
use Rattle.arch_defs.specs.declared.cached.Entry.{Entry}
use Rattle.arch_defs.specs.declared.levels.Level.TheVariants.{HS}
use Rattle.arch_defs.specs.Clocks.{next_event}
use Rattle.guest_settings.specs.declared.statuses.Status.TheVariants.{Running}
use Rattle.machine_defs.specs.declared.events.Event.TheVariants.{Trap}
use Rattle.machine_defs.specs.Fills.{fill, missing_entry}
use Rattle.machine_defs.specs.Machine.{Machine, Tried}
use Rattle.machine_defs.specs.Runs.{event_in, instruction_count, left_after, left_by, plain_count, run, trace_of}
use Rattle.machine_defs.specs.Tries.{try}
use Rattle.fill_laws.specs.Budgets.{NeedNoFill}
use Rattle.hosted_steps.specs.HartSteps.{host_takes}
use Rattle.guest_exit.specs.declared.guests.Guest.{Guest}
use Rattle.guest_exit.specs.View.{KeepsSpaces, machine_of}

-- a guest goes on, and its clock and its count of steps have room for one step more
pub record CanStep (guest : Guest) : Type 0 where
  pub running : guest.status ≡ Running
  pub clock : guest.clock.time ≤ 2 ^ 62 + guest.steps
  pub steps : guest.steps < 2 ^ 61

-- its clock and its count of steps have room for that many, and no event of the clock comes before the last
-- of them is made
pub record HasRoomForSteps (taken : ℕ) (guest : Guest) : Type 0 where
  pub event : ForSome (next_event guest.clock) (λ moment. guest.clock.time + taken ≤ moment)
  pub clock : guest.clock.time + taken ≤ 2 ^ 63
  pub steps : guest.steps + taken ≤ 2 ^ 61

-- it has made that many, each in one step of its clock, and goes on as before, with its spaces
pub record HasStepped (taken : ℕ) (before after : Guest) : Type 0 where
  pub made : after.steps ≡ before.steps + taken
  pub clock : after.clock.time ≡ before.clock.time + taken
  pub status : after.status ≡ before.status
  pub keeps : KeepsSpaces before after

-- a machine's next step is made: its try, which lacks no cached translation
pub record MakesStep (before after : Machine) : Type 0 where
  pub ready : missing_entry before ≡ None
  pub step : after ≡ left_after before

-- its next steps are made, which lack none either
pub record MakesSteps (n : ℕ) (before after : Machine) : Type 0 where
  pub ready : NeedNoFill n before
  pub steps : after ≡ run before n

-- its next try lacks a cached translation: the walk of the guest's own table, as RAM is, answers the access
-- with a leaf that permits it and whose frame is in RAM
abbrev pub IsMiss : Machine → Type 0
IsMiss m = (e : Entry) × (missing_entry m ≡ Some e)

-- which is filled, and nothing else happens
abbrev pub Fills : Machine → Machine → Type 0
Fills before after = (e : Entry) × (missing_entry before ≡ Some e) × (after ≡ fill before e)

-- a try that is not a plain step
pub record IsNotPlain (tried : Tried) : Type 0 where
  pub trace : trace_of (event_in tried) ≡ 0
  pub plain : plain_count (event_in tried) ≡ 0

-- the machine's next step is one in which the hart has no part: none such is plain
abbrev pub IsQuiet : Machine → Type 0
IsQuiet m = IsNotPlain (try m)

-- a guest is left as a try leaves its machine, whatever is in memory, which stays
abbrev pub Makes : Guest → Guest → (Machine → Tried) → Type 0
Makes before after tried =
    (memory : List ℕ)
    → machine_of after memory ≡ left_by (machine_of before memory) (tried (machine_of before memory))

-- the next step of its machine is made, an interrupt that is taken, whatever is in memory
pub record TakesInterrupt (before after : Guest) : Type 0 where
  pub step : (memory : List ℕ) → MakesStep (machine_of before memory) (machine_of after memory)
  pub quiet : (memory : List ℕ) → IsQuiet (machine_of before memory)
  pub none : (memory : List ℕ) → instruction_count (event_in (try (machine_of before memory))) ≡ 0
  pub event : (memory : List ℕ) → event_in (try (machine_of before memory)) ≡ Trap HS true ∷ []
  pub made : after.steps ≡ before.steps + 1
  pub clock : after.clock.time ≡ before.clock.time + 1

-- where the host takes one, and else it leaves the guest
pub record TakesIfDue (taken : Bool) (before after : Guest) : Type 0 where
  pub which : taken ≡ host_takes before.virt
  pub takes : taken ≡ true → TakesInterrupt before after
  pub stays : taken ≡ false → after ≡ before
