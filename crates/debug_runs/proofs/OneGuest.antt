-- A host of one guest: its steps, its form, and what it needs.
use Rattle.std.proofs.Common.{arith, ◌≡◌, ◌∙◌, ℕ, ◌+◌, ◌*◌, ◌/◌, ◌<◌, ◌≤◌, ◌^◌, false, List, [], ◌∷◌, length, slice_index, refl, ap, sym, subst}
use Rattle.std.specs.List.{All}
use Rattle.std.proofs.lemmas.List.{get_or_past}
use Rattle.std.proofs.lemmas.Nat.{mul-le}
use Rattle.guest_save.specs.declared.versions.Version.TheVariants.{Third}
use Rattle.guest_save.specs.Forms.{form}
use Rattle.guest_save.specs.Laws.{RoundTrip}
use Rattle.guest_save.specs.Reading.{machine_in}
use Rattle.guest_save.specs.Savable.{IsSavable}
use Rattle.guest_save.specs.Saves.{SavedMachine}
use Rattle.guest_turns.specs.Account.{CanMakeTurn, HasRoomForTurn}
use Rattle.guest_turns.specs.declared.sources.Source.{Source}
use Rattle.guest_turns.specs.Hosted.{Hosted, is_set, machine_at, no_machine}
use Rattle.guest_turns.specs.Saving.{MayBeSaved}
use Rattle.guest_turns.specs.Sources.{machine_of_source, IsBootableSource}
use Rattle.guest_turns.specs.TurnLists.{turn_entries, updated}
use Rattle.guest_turns.proofs.SavedRuns.{may_be_saved}
use Rattle.guest_turns.proofs.Updating.{length_updated, updated_same}
use Rattle.machine_defs.specs.Fills.{most_tries}
use Rattle.machine_defs.specs.Machine.{Machine}
use Rattle.machine_defs.specs.Runs.{run}
use Rattle.fill_laws.proofs.Running.{runs_compose}
use Rattle.rv64_hart.specs.Counts.{Counts}
use Rattle.debug_runs.specs.HostRuns.{HasOne, IsForm, IsRunOfSource}

-- a tally without a count has room for a turn of few steps
room_for_turn : (m : Machine) (k : ℕ) (tally : Counts) → m.entry_room ≤ 256 → k ≤ 2 ^ 52 → tally.entries ≡ 0 → tally.taken ≡ 0
    → HasRoomForTurn m k tally
room_for_turn m k tally small few entries taken =
    let tries : turn_entries m.entry_room k ≤ (2 ^ 52 + 1) * 267 =
    mul-le (k + 1) (most_tries m.entry_room) (2 ^ 52 + 1) 267 (omega (arith, few)) (omega (arith, small)) in
    record { entries = omega (arith, tries, entries); taken = omega (arith, taken, few) }

pub can_make_turn : (host : Hosted) (k : ℕ) (tally : Counts) → length host.machines ≡ 1 → ((g : ℕ) → is_set host.retired g ≡ false)
    → All (λ m. m.entry_room ≤ 256) host.machines → (machine_at host.machines 0).platform.steps + k ≤ 2 ^ 61 → k ≤ 2 ^ 52 → tally.entries ≡ 0 → tally.taken ≡ 0
    → CanMakeTurn host 0 k tally
can_make_turn host k tally one active rooms early few entries taken =
    let there : 0 < length host.machines = omega (arith, one) in
    record {
      guest = record { there = there; active = active 0 };
      steps = early;
      room = room_for_turn (machine_at host.machines 0) k tally (rooms 0 no_machine there) few entries taken;
    }

-- the run goes on
runs_on : (m after : Machine) (k : ℕ) → IsRunOfSource m → after ≡ run m k → IsRunOfSource after
runs_on m after k is on = record {
  source = is.source;
  steps = is.steps + k;
  bootable = is.bootable;
  machine = on ∙ ap (λ (m : Machine). run m k) is.machine ∙ runs_compose (machine_of_source is.source) is.steps k;
}

pub turned_one : (host after : Hosted) (k : ℕ) → HasOne host → after.machines ≡ updated 0 (λ m. run m k) host.machines
    → machine_at after.machines 0 ≡ run (machine_at host.machines 0) k
turned_one host after k is turned =
    let there : 0 < length host.machines = omega (arith, is.one) in
    ap (λ (machines : List Machine). machine_at machines 0) turned ∙ updated_same 0 (λ m. run m k) host.machines no_machine there

pub still_one : (host after : Hosted) (k : ℕ) → HasOne host → after.machines ≡ updated 0 (λ m. run m k) host.machines → after.retired ≡ host.retired
    → HasOne after
still_one host after k is turned shares = record {
  one = ap (λ (machines : List Machine). length machines) turned ∙ length_updated 0 (λ m. run m k) host.machines ∙ is.one;
  active = λ g. ap (λ flags. is_set flags g) shares ∙ is.active g;
  runs = runs_on (machine_at host.machines 0) (machine_at after.machines 0) k is.runs (turned_one host after k is turned);
}

no_step : (m : Machine) → m ≡ run m 0
unfolding run
no_step m = refl

-- the guest of a source alone
pub booted_one : (host : Hosted) (source : Source) → IsBootableSource source → host.machines ≡ machine_of_source source ∷ []
    → ((g : ℕ) → is_set host.retired g ≡ false) → HasOne host
booted_one host source bootable is active = record {
  one = ap (λ (machines : List Machine). length machines) is;
  active = active;
  runs = record {
    source = source;
    steps = 0;
    bootable = bootable;
    machine = ap (λ (machines : List Machine). machine_at machines 0) is ∙ no_step (machine_of_source source);
  };
}

-- it can be saved while its steps are few
pub one_may_be_saved : (m : Machine) → IsRunOfSource m → m.platform.steps ≤ 2 ^ 60 → MayBeSaved m
one_may_be_saved m is few =
    subst (λ (m : Machine). MayBeSaved m) (sym is.machine)
    (may_be_saved is.source is.steps is.bootable (subst (λ (m : Machine). m.platform.steps ≤ 2 ^ 60) is.machine few))

-- its form gives it back
pub form_gives : (m : Machine) → RoundTrip → IsSavable m → machine_in (form m) ≡ m
form_gives m back is = ap (λ (saved : SavedMachine). saved.machine) (back Third m is tt)

pub form_is : (m : Machine) (bytes : List ℕ) → RoundTrip → IsSavable m → bytes ≡ form m → IsForm bytes
form_is m bytes back is same =
    let given : machine_in bytes ≡ m = ap (λ (bytes : List ℕ). machine_in bytes) same ∙ form_gives m back is in
    record {
      savable = subst (λ (m : Machine). IsSavable m) (sym given) is;
      form = ap (λ (m : Machine). form m) given ∙ sym same;
    }

-- bytes of RAM, which is of whole blocks, and none behind its end
pub within_ram : (ram : List ℕ) (offset blocks : ℕ) → length ram ≡ blocks * 2097152 → offset / 2097152 < blocks → offset < length ram
within_ram ram offset blocks is few = omega (arith, is, few)

pub past_ram : (ram : List ℕ) (offset blocks : ℕ) → length ram ≡ blocks * 2097152 → blocks ≤ offset / 2097152 → 0 ≡ slice_index ram offset
past_ram ram offset blocks is many = sym (get_or_past ram offset 0 (omega (arith, is, many)))

pub ruleset bytes_of_ram = (within_ram, past_ram)
