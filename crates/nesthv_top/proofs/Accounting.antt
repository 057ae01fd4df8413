-- The account and the moves of a command that was done.
use Rattle.std.proofs.Common.{◌≡◌, ℕ, zero, suc, ◌+◌, ◌≤◌, ◌^◌, List, Option, Some, Ok, Err, length, refl, subst, sym, arith}
use Rattle.std.specs.List.{All}
use Rattle.command_line.specs.Commands.{Command, FileCommand, OnFiles, Run, Replay, Check, Save, Work}
use Rattle.guest_turns.specs.Sources.{IsBootableSource, machines_of_sources}
use Rattle.outside.specs.Files.{Files}
use Rattle.run_config.specs.Configurations.{IsTurnWithin}
use Rattle.rv64_hart.specs.Counts.{Counts}
use Rattle.nesthv_top.specs.declared.ends.Ended.TheVariants as ended
use Rattle.nesthv_top.specs.declared.ends.Job.{Job}
use Rattle.nesthv_top.specs.declared.ends.RunEnd.TheVariants.{WriteFault}
use Rattle.nesthv_top.specs.Endings.{GrewBy, CountsIfRun, MovesIfRun, ReadsFrom, SaysOfAccount, SaysOfCounts, SaysOfMoves}
use Rattle.nesthv_top.specs.Plans.{Plan, planned_entries, planned, run_of, steps_of, work_plan}
use Rattle.nesthv_top.specs.Runnings.{moves_by, moves_for, AreCountsFor, CountsTurns, IsAccountFor, IsMovedFor}
use Rattle.nesthv_top.specs.Seen.{IsJob, plan_seen}
use Rattle.nesthv_top.proofs.SourceMachines.{rooms_of}
use Rattle.nesthv_top.proofs.Turning.{few_entries, few_steps}
use Rattle.nesthv_top.proofs.Working.{few_turns, sources_bootable, turns_within}

-- the plan of a job is that of its command
abbrev IsPlanned : Option Files → FileCommand → Job → Type 0
IsPlanned told command job = (f : Files) → told ≡ Some f → planned f command ≡ Some (plan_seen job)

-- few turns of short lengths take few entries and steps
pub bounded : (count : ℕ) (plan : Plan) (old new : Counts) → length plan.turns ≤ 2 ^ 20 → All (IsTurnWithin count) plan.turns → All IsBootableSource plan.sources
    → CountsTurns plan old new → GrewBy (2 ^ 61) (2 ^ 52) old new
bounded count plan old new most each sources grew =
    let few = few_steps count plan.turns most each in
    let entries = few_entries count plan.turns (machines_of_sources plan.sources) most each (rooms_of plan.sources sources) in
    record { entries_most = omega (arith, entries, grew.entries_most); taken_most = omega (arith, few, grew.taken_most) }

-- what is written or compared was run
pub ran : (told : Option Files) (command : Command) (plan : Plan) (old new : Counts) → ((f : Files) → ReadsFrom told (Some command) f → run_of f (Some command) ≡ Some plan)
    → ((config : List ℕ) → Some command ≡ Some (OnFiles (Check config)) → ⊥) → GrewBy (2 ^ 61) (2 ^ 52) old new → CountsTurns plan old new
    → SaysOfAccount told (Some command) ended.Done old new
ran told command plan old new plan_is no_check bound grew = record {
  run = λ f t. subst (λ plan. CountsIfRun plan ended.Done old new) (sym (plan_is f t)) (record { taken = grew.taken_least; trace = grew.trace });
  idle = tt;
  check = λ check. absurd (no_check check.0 check.1);
  entries = grew.entries_grow;
  taken = grew.taken_grow;
  bound = bound;
  most = λ f t. subst (λ plan. GrewBy (planned_entries plan) (steps_of plan) old new) (sym (plan_is f t))
      (record { entries_most = grew.entries_most; taken_most = grew.taken_most });
}

job_bounded : (job : Job) (old new : Counts) → IsJob job → CountsTurns (plan_seen job) old new → GrewBy (2 ^ 61) (2 ^ 52) old new
job_bounded job old new is grew = bounded _ (plan_seen job) old new is.limits.turns_most is.limits.each_turn is.sources grew

-- the account of a command on files that was done
accounted : {A : Type 0} (told : Option Files) (command : FileCommand) (job : Job) (a : A) (old new : Counts) → IsPlanned told command job → IsJob job
    → IsAccountFor {A = A} command (plan_seen job) (Ok a) old new → SaysOfAccount told (Some (OnFiles command)) ended.Done old new
accounted told (Run config) job a old new is job_is grew =
    ran told (OnFiles (Run config)) (plan_seen job) old new is (λ other e. cc) (job_bounded job old new job_is grew) grew
accounted told (Replay config report) job a old new is job_is grew =
    ran told (OnFiles (Replay config report)) (plan_seen job) old new is (λ other e. cc) (job_bounded job old new job_is grew) grew
accounted told (Save config guest) job a old new is job_is grew =
    ran told (OnFiles (Save config guest)) (plan_seen job) old new is (λ other e. cc) (job_bounded job old new job_is grew) grew
accounted told (Check config) job a old new is job_is same = record {
  run = λ f t. tt;
  idle = tt;
  check = λ check. same;
  entries = rw same (omega arith);
  taken = rw same (omega arith);
  bound = rw same (record { entries_most = omega arith; taken_most = omega arith });
  most = λ f t. rw same (record { entries_most = omega arith; taken_most = omega arith });
}

-- few turns move few blocks
few_moves : (spare : ℕ) (turns : List (ℕ × ℕ)) → length turns ≤ 2 ^ 20 → moves_by spare turns ≤ 2 ^ 20
few_moves zero turns few = omega arith
few_moves (suc spare) turns few = few

-- what is written or compared moved its blocks
moved : (told : Option Files) (command : Command) (plan : Plan) (old new : ℕ) → ((f : Files) → ReadsFrom told (Some command) f → run_of f (Some command) ≡ Some plan)
    → ((config : List ℕ) → Some command ≡ Some (OnFiles (Check config)) → ⊥) → length plan.turns ≤ 2 ^ 20 → new ≡ old + moves_for plan
    → SaysOfMoves told (Some command) ended.Done old new
moved told command plan old new plan_is no_check few grew =
    let most : moves_for plan ≤ 2 ^ 20 = few_moves plan.spare plan.turns few in
    record {
      run = λ f t. subst (λ plan. MovesIfRun plan ended.Done old new) (sym (plan_is f t)) grew;
      idle = tt;
      check = λ check. absurd (no_check check.0 check.1);
      grow = omega (arith, grew);
      most = omega (arith, grew, most);
    }

-- the moves of a command on files that was done
job_moved : {A : Type 0} (told : Option Files) (command : FileCommand) (job : Job) (a : A) (old new : ℕ) → IsPlanned told command job → IsJob job
    → IsMovedFor {A = A} command (plan_seen job) (Ok a) old new → SaysOfMoves told (Some (OnFiles command)) ended.Done old new
job_moved told (Run config) job a old new is job_is grew =
    moved told (OnFiles (Run config)) (plan_seen job) old new is (λ other e. cc) job_is.limits.turns_most grew
job_moved told (Replay config report) job a old new is job_is grew =
    moved told (OnFiles (Replay config report)) (plan_seen job) old new is (λ other e. cc) job_is.limits.turns_most grew
job_moved told (Save config guest) job a old new is job_is grew =
    moved told (OnFiles (Save config guest)) (plan_seen job) old new is (λ other e. cc) job_is.limits.turns_most grew
job_moved told (Check config) job a old new is job_is same = record {
  run = λ f t. tt;
  idle = tt;
  check = λ check. same;
  grow = rw same (omega arith);
  most = rw same (omega arith);
}

-- both counts
pub counted : {A : Type 0} (told : Option Files) (command : FileCommand) (job : Job) (a : A) (old new : Counts) (moves moves' : ℕ) → IsPlanned told command job → IsJob job
    → AreCountsFor {A = A} command (plan_seen job) (Ok a) old new moves moves' → SaysOfCounts told (Some (OnFiles command)) ended.Done old new moves moves'
counted told command job a old new moves moves' is job_is counts = record {
  account = accounted told command job a old new is job_is counts.account;
  moved = job_moved told command job a moves moves' is job_is counts.moved;
}

-- also where a replay found a difference, and where a write failed
pub counted_differing : (told : Option Files) (command : Command) (old new : Counts) (moves moves' : ℕ) → SaysOfCounts told (Some command) ended.Done old new moves moves'
    → SaysOfCounts told (Some command) ended.Differs old new moves moves'
counted_differing told command old new moves moves' done = record {
  account = record {
    run = λ f t. done.account.run f t;
    idle = tt;
    check = done.account.check;
    entries = done.account.entries;
    taken = done.account.taken;
    bound = done.account.bound;
    most = done.account.most;
  };
  moved = record {
    run = λ f t. done.moved.run f t;
    idle = tt;
    check = done.moved.check;
    grow = done.moved.grow;
    most = done.moved.most;
  };
}

pub in_part : (told : Option Files) (command : Command) (old new : Counts) (moves moves' : ℕ) → SaysOfCounts told (Some command) ended.Done old new moves moves'
    → SaysOfCounts told (Some command) ended.WriteFault old new moves moves'
in_part told command old new moves moves' done = record {
  account = record {
    run = λ f t. tt;
    idle = tt;
    check = done.account.check;
    entries = done.account.entries;
    taken = done.account.taken;
    bound = done.account.bound;
    most = done.account.most;
  };
  moved = record {
    run = λ f t. tt;
    idle = tt;
    check = done.moved.check;
    grow = done.moved.grow;
    most = done.moved.most;
  };
}

as_if_done : {A : Type 0} (command : FileCommand) (plan : Plan) (a : A) (old new : Counts) (moves moves' : ℕ)
    → AreCountsFor {A = A} command plan (Err WriteFault) old new moves moves' → AreCountsFor {A = A} command plan (Ok a) old new moves moves'
as_if_done (Run config) plan a old new moves moves' counts = record { account = counts.account; moved = counts.moved }
as_if_done (Replay config report) plan a old new moves moves' counts = record { account = counts.account; moved = counts.moved }
as_if_done (Check config) plan a old new moves moves' counts = record { account = counts.account; moved = counts.moved }
as_if_done (Save config guest) plan a old new moves moves' counts = record { account = counts.account; moved = counts.moved }

pub counted_in_part : {A : Type 0} (told : Option Files) (command : FileCommand) (job : Job) (a : A) (old new : Counts) (moves moves' : ℕ) → IsPlanned told command job → IsJob job
    → AreCountsFor {A = A} command (plan_seen job) (Err WriteFault) old new moves moves' → SaysOfCounts told (Some (OnFiles command)) ended.WriteFault old new moves moves'
counted_in_part told command job a old new moves moves' is job_is counts =
    in_part told (OnFiles command) old new moves moves' (counted told command job a old new moves moves' is job_is (as_if_done command (plan_seen job) a old new moves moves' counts))

-- the counts of a work, which moves no block
pub counted_work : (told : Option Files) (seed size : ℕ) (old new : Counts) (moves : ℕ) → size ≤ 10000 → CountsTurns (work_plan seed size) old new
    → SaysOfCounts told (Some (Work seed size)) ended.Done old new moves moves
counted_work told seed size old new moves most grew = record {
  account = ran told (Work seed size) (work_plan seed size) old new (λ f t. refl) (λ other e. cc)
      (bounded 4 (work_plan seed size) old new (few_turns size most) (turns_within size) (sources_bootable seed size most) grew) grew;
  moved = moved told (Work seed size) (work_plan seed size) moves moves (λ f t. refl) (λ other e. cc) (few_turns size most) (omega arith);
}
