use Rattle.std.proofs.Common.{rules, ℕ, List, ap, refl, sym, ◌∙◌}
use Rattle.arch_defs.specs.Interrupts.{interrupt_of}
use Rattle.arch_defs.specs.Traps.{target}
use Rattle.machine_defs.specs.Machine.{ticked}
use Rattle.arch_defs.proofs.FrameSets.{only_none}
use Rattle.guest_exit.specs.View.{machine_of, platform_of}
use Rattle.guest_exit.proofs.Alone.{machine_is, stays_by}
use Rattle.guest_exit.proofs.Entries.{hosts_target, interrupted}
use Rattle.guest_exit.proofs.Placed.{placed_by_step}
use Rattle.hosted_steps.proofs.Taken.{entered_first}
use Rattle.guest_exit.proofs.host_interrupts.interrupt.Goals as goal

pub returns-then-is_hosts-clause-due : goal.returns-then-is_hosts-clause-due
returns-then-is_hosts-clause-due c = record {
  which = search rules;
  takes = λ yes.
      let is = λ (memory : List ℕ). interrupted (machine_of c.args.guest.now memory) c.in-Some.code (rw c.pending.ensures at c.in-Some.is) in
      record {
        step = λ memory. record {
          ready = (is memory).0;
          step = rw (is memory).1 (machine_is c.args.guest.now c.tick.new.self _ memory (record { part = c.tick.ensures.goes.keeps.part; device = c.tick.ensures.goes.keeps.device; pool = c.tick.ensures.goes.keeps.pool })
              (rw (c.take.ensures.enters, c.of_interrupt.ensures) at c.tick.ensures.platform
              ∙ ap ticked (sym (entered_first (platform_of c.args.guest.now) (interrupt_of c.in-Some.code) (target c.args.guest.now.virt.csrs c.args.guest.now.virt.mode (interrupt_of c.in-Some.code))))));
        };
        quiet = λ memory. record { trace = rw (is memory).1 refl; plain = rw (is memory).1 refl };
        none = λ memory. rw (is memory).1 refl;
        event = λ memory. rw (
          (is memory).1,
          hosts_target c.args.guest.now.virt.csrs c.args.guest.now.virt.mode c.in-Some.code (sym c.is_hosts.ensures ∙ c.if-is_hosts.true),
        ) refl;
        made = c.tick.ensures.goes.made;
        clock = c.tick.ensures.goes.clock;
      };
  stays = λ no. absurd (cc);
}

pub returns-then-is_hosts-clause-placed : goal.returns-then-is_hosts-clause-placed
returns-then-is_hosts-clause-placed c = λ memory placed.
    placed_by_step c.args.guest.now c.tick.new.self memory memory placed (stays_by _ _ (record { part = c.tick.ensures.goes.keeps.part; device = c.tick.ensures.goes.keeps.device; pool = c.tick.ensures.goes.keeps.pool }))
    (only_none _ memory) (rw c.tick.ensures.goes.keeps.pool placed.tidy) (((returns-then-is_hosts-clause-due c).takes refl).step memory)
