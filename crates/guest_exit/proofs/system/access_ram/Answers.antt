use Rattle.std.proofs.Common.{rules, ap, subst, sym, ◌∙◌}
use Rattle.arch_defs.specs.FirstEntries.{all_filled}
use Rattle.arch_defs.specs.Memory.{ram_memory}
use Rattle.arch_defs.specs.Ram.{ram_of}
use Rattle.machine_defs.specs.Runs.{event_in, left_by}
use Rattle.machine_defs.specs.Tries.{mmu_of}
use Rattle.hcsr_emulation.specs.declared.registers.Accessed.TheVariants as answer
use Rattle.hlv_hsv.specs.Ends.{EndsBy, hlv_state}
use Rattle.hosted_steps.specs.ExitCases.{decided_end, found_next, having_found}
use Rattle.guest_exit.specs.declared.hart_exit.Handled.TheVariants.{Stepped}
use Rattle.guest_exit.specs.HartExit.{events_told, with_state}
use Rattle.guest_exit.specs.View.{machine_of}
use Rattle.guest_exit.proofs.Alone.{blocks_changed}
use Rattle.guest_exit.proofs.Decided.{decided_made}
use Rattle.guest_exit.proofs.HlvAccesses.{access_event, access_is_quiet, access_made, access_traps, hlv_alike, shows_time, state_in}
use Rattle.guest_exit.proofs.system.access_ram.Goals as goal

-- an access stores in the blocks
pub returns-in-Done-clause-made : goal.returns-in-Done-clause-made
returns-in-Done-clause-made c =
    let guest = c.args.guest.now in
    let m = machine_of guest c.args.memory.now in
    let first = all_filled guest.virt.first (found_next m) in
    let old = with_state guest (record guest.virt { first = first }) in
    let after = hlv_state c.access_in.new.virt (ram_memory (ram_of guest.part.blocks c.access_in.new.memory)) c.access_in.new.console in
    let ends = subst (λ end. EndsBy guest.device (state_in old c.args.memory.now) end answer.Done after)
    (hlv_alike (mmu_of m) guest.virt first c.args.op.now c.requires.op.kind) (rw (c.fill.ensures, c.find_next.ensures.value) at (c.in-Done.ensures.ends (mmu_of m))) in
    let tick = c.tick.ensures in
    decided_made c.args.op.now Stepped guest c.tick.new.self c.args.memory.now c.access_in.new.memory (search rules) (search rules)
    (access_made old c.tick.new.self m c.args.memory.now c.access_in.new.memory c.access_in.new.virt c.access_in.new.console
    (record { part = tick.goes.keeps.part; device = tick.goes.keeps.device; pool = tick.goes.keeps.pool })
    tick.platform (decided_end m c.args.op.now) (shows_time guest c.requires.left.can.current) ends)
    (access_is_quiet (having_found (found_next m) m) (decided_end m c.args.op.now) m.device (state_in old c.args.memory.now) after answer.Done ends)
    (access_event old c.tick.new.self m c.args.memory.now c.access_in.new.memory c.access_in.new.virt c.access_in.new.console
    (record { part = tick.goes.keeps.part; device = tick.goes.keeps.device; pool = tick.goes.keeps.pool })
    tick.platform (decided_end m c.args.op.now) (shows_time guest c.requires.left.can.current) ends)
    (search rules)
    (blocks_changed guest c.tick.new.self c.args.memory.now c.access_in.new.memory c.requires.left.can.placed
    (record { part = tick.goes.keeps.part; device = tick.goes.keeps.device; pool = tick.goes.keeps.pool }) c.access_in.ensures.only)

pub returns-in-Raise-clause-made : goal.returns-in-Raise-clause-made
returns-in-Raise-clause-made c =
    let guest = c.args.guest.now in
    let m = machine_of guest c.args.memory.now in
    let cached = having_found (found_next m) m in
    let stays = c.in-Raise.ensures.stays in
    let first = all_filled guest.virt.first (found_next m) in
    let old = with_state guest (record guest.virt { first = first }) in
    let after = hlv_state c.access_in.new.virt (ram_memory (ram_of guest.part.blocks c.access_in.new.memory)) c.access_in.new.console in
    let ends = subst (λ end. EndsBy guest.device (state_in old c.args.memory.now) end (answer.Raise c.in-Raise.trap) after)
    (hlv_alike (mmu_of m) guest.virt first c.args.op.now c.requires.op.kind) (rw (c.fill.ensures, c.find_next.ensures.value) at (c.in-Raise.ensures.ends (mmu_of m))) in
    let traps = access_traps cached (shows_time guest c.requires.left.can.current) c.in-Raise.trap after (decided_end m c.args.op.now) ends in
    let keeps = c.raise.ensures.keeps in
    decided_made c.args.op.now c.raise.result guest c.raise.new.guest c.args.memory.now c.access_in.new.memory (search rules) (search rules)
    (rw stays.2 (rw (stays.0, stays.1, c.fill.ensures, c.find_next.ensures.value) at c.raise.ensures.step c.args.memory.now ∙ ap (left_by m) traps))
    (access_is_quiet cached (decided_end m c.args.op.now) m.device (state_in old c.args.memory.now) after (answer.Raise c.in-Raise.trap) ends)
    (ap event_in (sym traps) ∙ ap events_told (sym (rw stays.0 at c.raise.ensures.went)))
    (search rules)
    (blocks_changed guest c.raise.new.guest c.args.memory.now c.access_in.new.memory c.requires.left.can.placed
    (record { part = keeps.part; device = keeps.device; pool = keeps.pool }) c.access_in.ensures.only)
