-- Laws of fills, of steps and of runs.
use Rattle.std.specs.Prelude.{ℕ, ◌≡◌, ◌+◌, ◌*◌, ◌/◌, ◌++◌, ◌≤◌, ◌&&◌, Bool, true, false, if◌then◌else◌, List, Option, Some, None, length}
use Rattle.arch_defs.specs.declared.cached.Entry.{Entry}
use Rattle.arch_defs.specs.declared.cached.Fence.{Fence}
use Rattle.arch_defs.specs.declared.modes.Access.{Access}
use Rattle.arch_defs.specs.declared.registers.Csrs.{Csrs}
use Rattle.arch_defs.specs.declared.registers.Virtual.{Virtual}
use Rattle.arch_defs.specs.declared.walks.MissingPlace.{MissingPlace}
use Rattle.arch_defs.specs.CachedEntries.{CanFill, device_by, device_by_entries, entry_at, is_device, leaf_of, place_by, second_by}
use Rattle.arch_defs.specs.Interrupts.{due}
use Rattle.arch_defs.specs.Memory.{bare, block_size, ram_memory}
use Rattle.arch_defs.specs.Permits.{permits_second}
use Rattle.arch_defs.specs.SecondStage.{device_by_walk, second_by_walk}
use Rattle.arch_defs.specs.Spaces.{Space, fenced, front}
use Rattle.arch_defs.specs.Walk.{leaf_address}
use Rattle.arch_defs.specs.WalkedEntries.{entry_by_walk, folds}
use Rattle.op_defs.specs.declared.ops.DataAccess.{DataAccess}
use Rattle.machine_defs.specs.declared.events.Event.{Event}
use Rattle.guest_settings.specs.declared.guests.GuestSpec.{GuestSpec}
use Rattle.guest_settings.specs.declared.statuses.Status.TheVariants.{Running}
use Rattle.machine_defs.specs.Fills.{after_fills, fill, fills, missing_entry, missing_entry_at, most_fills, needed, ready}
use Rattle.machine_defs.specs.FirstLeaves.{known_of, tag_of}
use Rattle.machine_defs.specs.Machine.{Machine, Ended, start}
use Rattle.machine_defs.specs.Outcomes.{Missed}
use Rattle.machine_defs.specs.Runs.{events, left_by, run, step, step_within}
use Rattle.machine_defs.specs.Tries.{Stages, device_of, fence_under, outcome_under, second_of, spaces_after, stages_of, try, try_under}
use Rattle.fill_laws.specs.Keeping.{IsOrderly}

-- while a machine folds, its second stage is by the entries of the front space
abbrev pub FoldsByFront : Type 0
FoldsByFront = (m : Machine) → folds m.platform.virt ≡ true
    → second_of m ≡ second_by (front m.spaces) m.platform.virt.csrs.hs.status.mxr

-- the entry of an address's page, if it permits the access and is not of the device page, gives its place
abbrev pub FrontGivesPlaces : Type 0
FrontGivesPlaces = (m : Machine) (address : ℕ) (kind : Access) (e : Entry) → folds m.platform.virt ≡ true
    → entry_at (address / 4096) (front m.spaces) ≡ Some e
    → permits_second m.platform.virt.csrs.hs.status.mxr kind (leaf_of e) ≡ true → is_device e ≡ false
    → second_of m address kind ≡ Some (leaf_address (leaf_of e) address)

-- and else it is RAM as it is
abbrev pub FlatIsRam : Type 0
FlatIsRam = (m : Machine) → folds m.platform.virt ≡ false → second_of m ≡ bare (ram_memory m.ram)

-- what an orderly machine lacks is read off how its instruction ends under its own second stage
abbrev pub MissingEntriesAreRead : Type 0
MissingEntriesAreRead = (m : Machine) → IsOrderly m → folds m.platform.virt ≡ true
    → due m.platform.virt.csrs m.platform.virt.mode ≡ None
    → missing_entry m ≡ missing_entry_at m.device m.platform.virt.csrs m.ram (front m.spaces)
    (outcome_under (stages_of m) m)

-- and a machine that does not fold lacks nothing, nor one that takes an interrupt
abbrev pub FlatMissesNothing : Type 0
FlatMissesNothing = (m : Machine) → folds m.platform.virt ≡ false → missing_entry m ≡ None

abbrev pub InterruptedMissesNothing : Type 0
InterruptedMissesNothing = (m : Machine) (code : ℕ)
    → due m.platform.virt.csrs m.platform.virt.mode ≡ Some code → missing_entry m ≡ None

-- where an orderly machine lacks nothing and yet its instruction stops, at an access that no cached
-- translation has on the device page, the walk of hgatp's table gives nothing to be cached: the fault that is
-- taken is that of this walk
abbrev pub StopsAreFaults : Type 0
StopsAreFaults = (m : Machine) (missing : MissingPlace) (wanted : Option DataAccess) → IsOrderly m
    → folds m.platform.virt ≡ true → due m.platform.virt.csrs m.platform.virt.mode ≡ None
    → missing_entry m ≡ None → outcome_under (stages_of m) m ≡ Missed missing wanted
    → device_by_entries (front m.spaces) m.platform.virt.csrs.hs.status.mxr missing.address missing.kind
    ≡ false
    → entry_by_walk m.device m.platform.virt.csrs m.ram missing.address missing.kind ≡ None

-- that many fills suffice, as many as a space has room for and `needed`: the next try lacks nothing
abbrev pub FillsSuffice : Type 0
FillsSuffice = (m : Machine) → needed ≤ m.entry_room → missing_entry (ready m) ≡ None

-- so of each guest's machine after each run, if its spaces have the room
abbrev pub FillsSufficeForGuests : Type 0
FillsSufficeForGuests = (guest : GuestSpec) (k : ℕ) → needed ≤ guest.entries → 1 ≤ guest.spaces
    → missing_entry (ready (run (start guest) k)) ≡ None

-- and more of them would change nothing
abbrev pub MoreChangeNothing : Type 0
MoreChangeNothing = (m : Machine) (n : ℕ) → needed ≤ m.entry_room → most_fills m ≤ n
    → after_fills n m ≡ ready m

-- nor would they change the step of a machine that goes on
abbrev pub StepsSettle : Type 0
StepsSettle = (m : Machine) (n : ℕ) → needed ≤ m.entry_room → most_fills m ≤ n → m.platform.status ≡ Running
    → step_within n m ≡ step m

-- fills change the spaces alone
abbrev pub OnlySpaces : Type 0
OnlySpaces = (m : Machine) (n : ℕ) → after_fills n m ≡ record m { spaces = (after_fills n m).spaces }

-- a step makes at most that many fills
abbrev pub FewFills : Type 0
FewFills = (m : Machine) (n : ℕ) → fills n m ≤ n

-- after a fill the same step is left, with one fill less
pub record Refilled (m : Machine) (e : Entry) : Type 0 where
  pub same : ready (fill m e) ≡ ready m
  pub fewer : fills (most_fills m) m ≡ fills (most_fills m) (fill m e) + 1

abbrev pub FillsGoOn : Type 0
FillsGoOn = (m : Machine) (e : Entry) → needed ≤ m.entry_room → missing_entry m ≡ Some e → Refilled m e

abbrev pub StepsGoOn : Type 0
StepsGoOn = (m : Machine) (e : Entry) → needed ≤ m.entry_room → m.platform.status ≡ Running
    → missing_entry m ≡ Some e → step (fill m e) ≡ step m

-- the spaces that a try leaves: without what it names as a fence, or else after the entering of a space if it
-- sets V and then folds, and in no other way changed
abbrev pub spaces_left : Machine → Virtual → Option Fence → List Space
spaces_left m after (Some fence) = fenced fence m.spaces
spaces_left m after None = spaces_after m after

abbrev pub TriesChangeSpaces : Type 0
TriesChangeSpaces = (m after : Machine) (stages : Stages) (event : Event)
    → try_under stages m ≡ Ended after event
    → after.spaces ≡ spaces_left m after.platform.virt (fence_under stages m)

-- what is filled for an access gives it the place that the walk of hgatp's table gives it, as RAM is
abbrev pub FillsAreWalks : Type 0
FillsAreWalks = (device : Bool) (virt : Virtual) (ram : List ℕ) (address : ℕ) (kind : Access)
    → folds virt ≡ true
    → place_by virt.csrs.hs.status.mxr address kind (entry_by_walk device virt.csrs ram address kind)
    ≡ second_by_walk virt.csrs virt.mode (ram_memory ram) address kind

-- and has it on the device page of a machine that has one where that walk does
abbrev pub FillsAreDevices : Type 0
FillsAreDevices = (device : Bool) (virt : Virtual) (ram : List ℕ) (address : ℕ) (kind : Access)
    → folds virt ≡ true
    → (device && device_by virt.csrs.hs.status.mxr kind (entry_by_walk device virt.csrs ram address kind))
    ≡ (device && device_by_walk virt.csrs virt.mode (ram_memory ram) address kind)

-- and is the same for each address of its page
abbrev pub PageHasOneEntry : Type 0
PageHasOneEntry = (device : Bool) (csrs : Csrs) (ram : List ℕ) (address other : ℕ) (kind : Access)
    → other / 4096 ≡ address / 4096
    → entry_by_walk device csrs ram other kind ≡ entry_by_walk device csrs ram address kind

-- what is filled for one access serves each other to the page, of whatever kind, as that walk does
abbrev pub FillsServeThePage : Type 0
FillsServeThePage = (device : Bool) (virt : Virtual) (ram : List ℕ) (address other : ℕ)
    (kind other_kind : Access) (e : Entry) → folds virt ≡ true
    → entry_by_walk device virt.csrs ram address kind ≡ Some e → other / 4096 ≡ address / 4096
    → place_by virt.csrs.hs.status.mxr other other_kind (Some e)
    ≡ second_by_walk virt.csrs virt.mode (ram_memory ram) other other_kind

-- and has each on the device page where that walk does
abbrev pub FillsServeTheDevice : Type 0
FillsServeTheDevice = (device : Bool) (virt : Virtual) (ram : List ℕ) (address other : ℕ)
    (kind other_kind : Access) (e : Entry) → folds virt ≡ true
    → entry_by_walk device virt.csrs ram address kind ≡ Some e → other / 4096 ≡ address / 4096
    → (device && device_by virt.csrs.hs.status.mxr other_kind (Some e))
    ≡ (device && device_by_walk virt.csrs virt.mode (ram_memory ram) other other_kind)

-- and it can be filled into the folded table of a guest whose RAM is of as many blocks
abbrev pub FillsCanBeMade : Type 0
FillsCanBeMade = (device : Bool) (csrs : Csrs) (ram blocks : List ℕ) (address : ℕ) (kind : Access) (e : Entry)
    → length ram ≡ length blocks * block_size → entry_by_walk device csrs ram address kind ≡ Some e
    → CanFill blocks e

-- whether the entry of its page, if there is one, permits an access
abbrev pub is_permitted : Bool → Access → Option Entry → Bool
is_permitted mxr kind None = false
is_permitted mxr kind (Some e) = permits_second mxr kind (leaf_of e)

-- whether a machine folds and has an entry of the front space that does
abbrev pub has_own : Machine → ℕ → Access → Bool
has_own m address kind = let virt = m.platform.virt in
    folds virt
    && is_permitted virt.csrs.hs.status.mxr kind (entry_at (address / 4096) (front m.spaces))

-- the stages as a rule without fills: by an entry that permits the access, else by that walk
abbrev pub ruled : Machine → Stages
ruled m = let virt = m.platform.virt in record {
  known = known_of virt.first (tag_of virt) virt;
  second = λ address kind. if has_own m address kind then second_of m address kind
      else second_by_walk virt.csrs virt.mode (ram_memory m.ram) address kind;
  device = λ address kind. if has_own m address kind then device_of m address kind
      else m.device && device_by_walk virt.csrs virt.mode (ram_memory m.ram) address kind;
}

-- where an orderly machine lacks nothing, its try is one under this rule
abbrev pub TriesEndByRule : Type 0
TriesEndByRule = (m : Machine) → IsOrderly m → missing_entry m ≡ None → try m ≡ try_under (ruled m) m

-- and so its step, which is its fills and then that try
abbrev pub StepsEndByRule : Type 0
StepsEndByRule = (m : Machine) → IsOrderly m → m.platform.status ≡ Running
    → step m ≡ left_by (ready m) (try_under (ruled (ready m)) (ready m))

-- a run of a and then of b is a run of a + b
abbrev pub RunsCompose : Type 0
RunsCompose = (m : Machine) (a b : ℕ) → run (run m a) b ≡ run m (a + b)

-- and its events are those of the one and then those of the other
abbrev pub EventsCompose : Type 0
EventsCompose = (m : Machine) (a b : ℕ) → events m a ++ events (run m a) b ≡ events m (a + b)
