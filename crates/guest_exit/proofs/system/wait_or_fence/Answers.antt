use Rattle.std.proofs.Common.{rules, ap, refl, sym, ◌∙◌}
use Rattle.arch_defs.specs.FirstEntries.{all_filled}
use Rattle.machine_defs.specs.Machine.{Platform}
use Rattle.arch_defs.specs.Registers.{passed}
use Rattle.machine_defs.specs.Tries.{mmu_of}
use Rattle.rv64_asm.specs.Words.{encoded}
use Rattle.hosted_steps.specs.ExitCases.{found_next, having_found}
use Rattle.guest_exit.specs.View.{machine_of}
use Rattle.guest_exit.proofs.Alone.{wait_made, wait_told, waited_is_quiet}
use Rattle.guest_exit.proofs.Decided.{accesses_never, decided_made, done_storable, kept_first, wait_is_op, wait_passes}
use Rattle.guest_exit.proofs.system.wait_or_fence.Goals as goal

pub emulate-requires-clause-decided : goal.emulate-requires-clause-decided
emulate-requires-clause-decided c = (wait_is_op c.args.op.now c.requires.kind).decided

pub emulate-requires-clause-fits : goal.emulate-requires-clause-fits
emulate-requires-clause-fits c = (wait_is_op c.args.op.now c.requires.kind).fits

pub unreachable-requires : goal.unreachable-requires
unreachable-requires c =
    let m = machine_of c.args.guest.now c.args.memory.now in
    accesses_never c.args.op.now m.platform.virt (encoded c.args.op.now) (mmu_of m) _ c.requires.kind
    (c.in-Accesses.ensures.ends (mmu_of m))

pub wait-requires : goal.wait-requires
wait-requires c =
    let m = machine_of c.args.guest.now c.args.memory.now in
    record {
      can = record {
        step = search rules;
        current = rw (wait_passes c.args.op.now m.platform.virt c.emulate.new.state (encoded c.args.op.now) (mmu_of m) c.requires.kind
            (c.in-Waits.ensures.ends (mmu_of m)))
            (ap (λ (p : Platform). record p { virt = passed p.virt }) c.requires.left.can.current);
        fits = search rules;
      };
    }

pub returns-in-Waits-clause-made : goal.returns-in-Waits-clause-made
returns-in-Waits-clause-made c =
    let m = machine_of c.args.guest.now c.args.memory.now in
    let ends = c.in-Waits.ensures.ends (mmu_of m) in
    let passes = wait_passes c.args.op.now m.platform.virt c.emulate.new.state (encoded c.args.op.now) (mmu_of m) c.requires.kind ends in
    let made = c.wait.ensures.made in
    decided_made c.args.op.now c.wait.result c.args.guest.now c.wait.new.guest c.args.memory.now c.args.memory.now c.wait.ensures.went c.wait.ensures.runs
    (wait_made c.args.guest.now c.wait.new.guest c.emulate.new.state (found_next m) c.args.memory.now _ passes ends (rw c.find_next.ensures.value at made.step))
    (rw ends (waited_is_quiet (having_found (found_next m) m) c.emulate.new.state))
    (wait_told c.args.guest.now c.emulate.new.state (found_next m) c.args.memory.now _ _ passes ends (rw c.find_next.ensures.value at made.event))
    (record { status = made.told.status; made = made.told.made; clock = made.told.clock }) (search rules)

pub finish-requires : goal.finish-requires
finish-requires c =
    let m = machine_of c.args.guest.now c.args.memory.now in
    record {
      can = record {
        step = search rules;
        holds = search rules;
        storable = done_storable m c.args.op.now c.emulate.new.state _ (wait_is_op c.args.op.now c.requires.kind).decided c.requires.left.can.placed.storable
            (c.in-Done.ensures.ends (mmu_of m));
      };
    }

pub returns-in-Done-clause-made : goal.returns-in-Done-clause-made
returns-in-Done-clause-made c =
    let m = machine_of c.args.guest.now c.args.memory.now in
    let ends = c.in-Done.ensures.ends (mmu_of m) in
    let filled = c.fill.ensures ∙ ap (all_filled _) c.find_next.ensures.value ∙ ap (λ first. all_filled first (found_next m)) (kept_first m c.args.op.now _ ends) in
    decided_made c.args.op.now c.finish.result c.args.guest.now c.finish.new.guest c.args.memory.now c.finish.new.memory (search rules) (search rules)
    (rw ends (c.finish.ensures.step (record c.args.guest.now.virt { first = all_filled c.args.guest.now.virt.first (found_next m) }) (sym c.is_virtual-nested.ensures) (sym filled)))
    (search rules) (rw (ends, c.finish.ensures.went) refl) (search rules) (search rules)

pub returns-in-Fenced-clause-made : goal.returns-in-Fenced-clause-made
returns-in-Fenced-clause-made c =
    let m = machine_of c.args.guest.now c.args.memory.now in
    let ends = c.in-Fenced.ensures.ends (mmu_of m) in
    let filled = c.fill-in-Fenced.ensures ∙ ap (all_filled _) c.find_next.ensures.value ∙ ap (λ first. all_filled first (found_next m)) (kept_first m c.args.op.now _ ends) in
    decided_made c.args.op.now c.fence.result c.args.guest.now c.fence.new.guest c.args.memory.now c.fence.new.memory (search rules) (search rules)
    (rw ends (c.fence.ensures.step (record c.args.guest.now.virt { first = all_filled c.args.guest.now.virt.first (found_next m) }) (sym filled)))
    (search rules) (rw (ends, c.fence.ensures.went) refl) (search rules) (search rules)

pub returns-in-FirstFenced-clause-made : goal.returns-in-FirstFenced-clause-made
returns-in-FirstFenced-clause-made c =
    let m = machine_of c.args.guest.now c.args.memory.now in
    let ends = c.in-FirstFenced.ensures.ends (mmu_of m) in
    let filled = c.fill-in-FirstFenced.ensures ∙ ap (all_filled _) c.find_next.ensures.value ∙ ap (λ first. all_filled first (found_next m)) (kept_first m c.args.op.now _ ends) in
    decided_made c.args.op.now c.first_fence.result c.args.guest.now c.first_fence.new.guest c.args.memory.now c.args.memory.now (search rules) (search rules)
    (rw ends (rw (filled, c.unwrap_or.ensures, c.tag_of-own.ensures) at (c.first_fence.ensures.step c.args.memory.now)))
    (search rules) (rw (ends, c.first_fence.ensures.went) refl) (search rules) (search rules)

pub returns-in-Raise-clause-made : goal.returns-in-Raise-clause-made
returns-in-Raise-clause-made c =
    let m = machine_of c.args.guest.now c.args.memory.now in
    decided_made c.args.op.now c.raise.result c.args.guest.now c.raise.new.guest c.args.memory.now c.args.memory.now (search rules) (search rules)
    (search rules) (search rules) (rw (c.in-Raise.ensures.ends (mmu_of m), c.raise.ensures.went, c.in-Raise.ensures.stays) refl) (search rules) (search rules)
