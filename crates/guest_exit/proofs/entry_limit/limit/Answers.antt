use Rattle.std.proofs.Common.{rules}
use Rattle.arch_defs.specs.Inputs.{has_come}
use Rattle.guest_exit.specs.HartEntry.{KeepsCome}
use Rattle.guest_exit.proofs.Moments.{stays_by_timer}
use Rattle.guest_exit.proofs.entry_limit.limit.Goals as goal

pub returns : goal.returns
returns c = record {
  longest = record {
    lasts = search rules;
    some = search rules;
    most = search rules;
    largest = λ n within lasts.
        let timer : KeepsCome (has_come c.next_event.result) c.now-time.result n =
        rw (c.next_event.ensures, c.now-time.ensures) (stays_by_timer c.args.guest.now.clock n lasts.timer) in
        let inputs : KeepsCome (has_come c.next.result) c.now-time.result n = rw (c.next.ensures, c.now-time.ensures) lasts.inputs in
        c.steps_before.ensures.largest n (c.steps_before-before_timer.ensures.largest n within timer) inputs;
  };
}
