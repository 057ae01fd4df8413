use Rattle.std.proofs.Common.{ap, sym, ◌∙◌}
use Rattle.arch_defs.specs.FirstEntries.{names_first_of_guest, unnamed_first}
use Rattle.machine_defs.specs.Machine.{ticked}
use Rattle.guest_exit.specs.View.{platform_of}
use Rattle.guest_exit.proofs.Alone.{fence_made, holds_with}
use Rattle.guest_exit.specs.HartExit.{with_state}
use Rattle.guest_exit.proofs.system.fence.Goals as goal

pub returns-clause-step : goal.returns-clause-step
returns-clause-step c = λ before same.
    let guest = c.args.guest.now in
    let pool = c.tick.ensures.goes.keeps.pool in
    fence_made (with_state guest before) c.tick.new.self c.args.memory.now c.fence.new.mem guest.virt c.args.named (holds_with guest before c.args.memory.now c.requires.holds)
    c.tick.ensures.goes.keeps.part c.tick.ensures.goes.keeps.device (rw pool c.fence.ensures.keeps)
    (rw c.drop_of_guest.ensures at c.tick.ensures.platform ∙ ap (λ first. ticked (record (platform_of guest) { virt = record guest.virt { first = unnamed_first (names_first_of_guest c.args.named) first } })) (sym same))
    (rw pool c.fence.ensures.spaces)
