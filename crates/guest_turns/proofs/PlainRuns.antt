-- A run of plain steps of one guest, in one entry of the hart or in none.
use Rattle.std.proofs.Common.{◌≡◌, ℕ, ◌≤◌, List, refl, ap, sym, arith, ◌∙◌}
use Rattle.arch_defs.proofs.FrameSets.{only_none}
use Rattle.fill_laws.proofs.Running.{run_none}
use Rattle.guest_exit.specs.declared.guests.Guest.{Guest}
use Rattle.guest_exit.specs.HartEntry.{HasEntered}
use Rattle.guest_exit.specs.View.{changed_by, machine_of}
use Rattle.guest_exit.proofs.Alone.{only_of_blocks, stays_by}
use Rattle.machine_defs.specs.Machine.{Machine}
use Rattle.machine_defs.specs.Runs.{events, plain_count, run}
use Rattle.rv64_hart.specs.Counts.{Counts}
use Rattle.guest_turns.specs.Hosting.{HasRun, IsHosted}
use Rattle.guest_turns.specs.PlainRuns.{CountsPlainRun, IsPlainRun}

-- a run that makes none
pub none_run : (guest : Guest) (memory : List ℕ) → IsHosted guest memory → HasRun guest memory 0 guest memory
none_run guest memory hosted = record {
  machine = sym (run_none (machine_of guest memory) 0 (omega arith));
  keeps = record { part = refl; device = refl; pool = refl; entry_room = refl; space_room = refl };
  only = only_none (changed_by guest) memory;
  hosted = hosted;
}

pub none_plain : (m : Machine) (k : ℕ) → IsPlainRun m k 0
unfolding run events
none_plain m k = record { within = omega arith; plain = refl; steps = omega arith; room = refl }

pub none_counted : (m : Machine) (tally : Counts) → CountsPlainRun m 0 tally tally
unfolding events
none_counted m tally = record { entries_grow = omega arith; entries_most = omega arith; taken = omega arith; trace = omega arith }

-- and the steps of an entry
pub entered_run : (guest new : Guest) (memory changed : List ℕ) (n : ℕ) (old counts : Counts) → IsHosted guest memory → HasEntered n guest memory new changed old counts
    → HasRun guest memory n new changed
entered_run guest new memory changed n old counts hosted is = record {
  machine = is.run.steps;
  keeps = stays_by guest new is.keeps.keeps;
  only = only_of_blocks guest memory changed is.keeps.only;
  hosted = record {
    placed = is.keeps.placed;
    clock = omega (arith, hosted.clock, is.goes.clock, is.goes.steps);
    current = is.goes.current;
  };
}

pub entered_plain : (guest new : Guest) (memory changed : List ℕ) (k n : ℕ) (old counts : Counts) → n ≤ k → plain_count (events (machine_of guest memory) n) ≡ n
    → HasEntered n guest memory new changed old counts → IsPlainRun (machine_of guest memory) k n
entered_plain guest new memory changed k n old counts within plain is = record {
  within = within;
  plain = plain;
  steps = ap (λ (m : Machine). m.platform.steps) (sym is.run.steps) ∙ is.goes.steps;
  room = ap (λ (m : Machine). m.entry_room) (sym is.run.steps) ∙ (stays_by guest new is.keeps.keeps).entry_room;
}

pub entered_counted : (guest new : Guest) (memory changed : List ℕ) (n : ℕ) (old counts : Counts) → HasEntered n guest memory new changed old counts
    → CountsPlainRun (machine_of guest memory) n old counts
entered_counted guest new memory changed n old counts is =
    record { entries_grow = omega (arith, is.account.entries); entries_most = omega (arith, is.account.entries); taken = is.account.taken; trace = is.account.trace }
