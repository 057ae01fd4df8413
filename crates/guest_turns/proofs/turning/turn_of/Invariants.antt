use Rattle.std.proofs.Common.{◌≡◌, ◌+◌, ◌≤◌}
use Rattle.arch_defs.specs.Frames.{Only}
use Rattle.fill_laws.specs.Budgets.{budget}
use Rattle.guest_settings.specs.declared.statuses.Status.TheVariants.{Running}
use Rattle.machine_defs.specs.Runs.{run}
use Rattle.guest_exit.specs.View.{KeepsLayout, changed_by, machine_of}
use Rattle.guest_turns.specs.Hosting.{IsHosted}
use Rattle.guest_turns.specs.Account.{AccountedTo}
use Rattle.guest_turns.proofs.turning.turn_of.Given as goal

abbrev pub decreases-loop-left : goal.decreases-loop-left
decreases-loop-left l = budget (machine_of l.guest l.memory) l.left

abbrev pub invariant-loop-left : goal.invariant-loop-left
invariant-loop-left l = record {
  run : run (machine_of l.guest l.memory) l.left ≡ run (machine_of l.fn.guest l.fn.memory) l.k;
  keeps : KeepsLayout l.fn.guest l.guest;
  only : Only (changed_by l.fn.guest) l.fn.memory l.memory;
  hosted : IsHosted l.guest l.memory;
  began : l.before ≡ l.fn.guest.steps;
  within : l.left ≤ l.k;
  forward : l.before ≤ l.guest.steps;
  made : l.guest.steps + l.left ≤ l.before + l.k;
  counted : l.guest.status ≡ Running → l.guest.steps + l.left ≡ l.before + l.k;
  account : AccountedTo (machine_of l.fn.guest l.fn.memory) l.k (machine_of l.guest l.memory) l.left l.fn.tally l.tally;
}
