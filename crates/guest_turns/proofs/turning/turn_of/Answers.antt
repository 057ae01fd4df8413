use Rattle.std.proofs.Common.{◌≡◌, ◌≢◌, ◌+◌, ◌^◌, ◌<◌, ◌≤◌, ◌∙◌, true, false, refl, sym, rules, arith}
use Rattle.std.proofs.lemmas.Grind.{common_steps}
use Rattle.guest_settings.specs.declared.statuses.Status.{Status}
use Rattle.guest_settings.specs.declared.statuses.Status.TheVariants.{Running, Waiting, Stopped}
use Rattle.guest_exit.specs.View.{machine_of}
use Rattle.guest_turns.proofs.Placing.{fixed_both, only_then}
use Rattle.fill_laws.proofs.Running.{events_idle, events_none}
use Rattle.guest_turns.proofs.Turns.{accounted, accounted_then, budget_positive, budget_within}
use Rattle.guest_turns.proofs.turning.turn_of.Goals as goal

-- while steps are left, so is a try, and the tries are within the bound
pub advance-left-requires-clause-room : goal.advance-left-requires-clause-room
advance-left-requires-clause-room c =
    let is = c.loop-left.invariant in
    let some = budget_positive (machine_of c.loop-left.guest c.loop-left.memory) c.loop-left.left c.loop-left-test.true in
    let most = budget_within (machine_of c.args.guest.now c.args.memory.now) c.args.k in
    record {
      entries = omega (arith, is.account.entries_most, some, most, c.requires.room.entries);
      taken = omega (arith, is.account.taken_most, is.made, is.began, c.requires.room.taken);
    }

pub advance-left-requires-clause-can : goal.advance-left-requires-clause-can
advance-left-requires-clause-can c =
    let is = c.loop-left.invariant in
    record {
      running = grind (arith, common_steps);
      hosted = is.hosted;
      some = omega (arith, c.loop-left-test.true);
      steps = omega (arith, is.made, is.began, c.requires.steps);
    }

pub returns-then-ne-clause-account : goal.returns-then-ne-clause-account
returns-then-ne-clause-account c =
    let is = c.loop-left.invariant in
    let idle : c.loop-left.guest.status ≢ Running = search rules in
    accounted (machine_of c.args.guest.now c.args.memory.now) (machine_of c.loop-left.guest c.loop-left.memory) c.args.k c.loop-left.left _ c.args.tally.now c.loop-left.tally
    (events_idle (machine_of c.loop-left.guest c.loop-left.memory) c.loop-left.left idle) (omega (arith, is.began, is.forward)) is.account

pub returns-clause-account : goal.returns-clause-account
returns-clause-account c =
    let is = c.loop-left.invariant in
    accounted (machine_of c.args.guest.now c.args.memory.now) (machine_of c.loop-left.guest c.loop-left.memory) c.args.k c.loop-left.left _ c.args.tally.now c.loop-left.tally
    (events_none _ c.loop-left.left (omega (arith, c.loop-left-test.false))) (omega (arith, is.began, is.forward)) is.account

pub loop-left-preserved : goal.loop-left-preserved
loop-left-preserved c =
    let is = c.loop-left.invariant in
    let made = c.advance-left.ensures in
    record {
      run = made.advances.goes.ran ∙ is.run;
      keeps = fixed_both _ _ _ is.keeps made.advances.keeps;
      only =
          only_then c.args.guest.now c.loop-left.guest c.advance-left.new.guest c.args.memory.now c.loop-left.memory c.advance-left.new.memory is.keeps is.only
          made.advances.only;
      hosted = made.hosted;
      began = is.began;
      within = omega (arith, is.within, made.counts.within);
      forward = omega (arith, is.forward, made.counts.forward);
      made = omega (arith, is.made, made.counts.made);
      counted = λ running.
          let was = goes_on c.loop-left.guest.status refl in
          omega (arith, is.counted was, made.counts.others running);
      account = accounted_then _ _ _ _ _ _ _ _ _ is.account made.account;
    }
  where
    goes_on : (s : Status) → c.loop-left.guest.status ≡ s → c.loop-left.guest.status ≡ Running
    goes_on Running is = is
    goes_on Waiting is = let never : true ≡ false = sym (rw is at c.ne.ensures) ∙ c.if-ne.false in cc
    goes_on Stopped is = let never : true ≡ false = sym (rw is at c.ne.ensures) ∙ c.if-ne.false in cc
