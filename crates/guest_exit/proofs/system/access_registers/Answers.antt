use Rattle.std.proofs.Common.{rules, ap, refl, sym, ◌∙◌}
use Rattle.arch_defs.specs.FirstEntries.{all_filled}
use Rattle.machine_defs.specs.Tries.{mmu_of}
use Rattle.hosted_steps.specs.ExitCases.{found_next}
use Rattle.guest_exit.specs.View.{machine_of}
use Rattle.hcsr_emulation.proofs.Decided.{kind_decided}
use Rattle.guest_exit.proofs.Decided.{decided_made, done_storable, kept_first}
use Rattle.guest_exit.proofs.system.access_registers.Goals as goal

pub finish-requires : goal.finish-requires
finish-requires c =
    let m = machine_of c.args.guest.now c.args.memory.now in
    record {
      can = record {
        step = search rules;
        holds = search rules;
        storable = done_storable m c.args.op.now c.access.new.state _ (kind_decided c.args.op.now c.requires.kind) c.requires.left.can.placed.storable
            (c.in-Done.ensures.ends (mmu_of m));
      };
    }

pub returns-in-Done-clause-made : goal.returns-in-Done-clause-made
returns-in-Done-clause-made c =
    let m = machine_of c.args.guest.now c.args.memory.now in
    let ends = c.in-Done.ensures.ends (mmu_of m) in
    let filled = c.fill.ensures ∙ ap (all_filled _) c.find_next.ensures.value ∙ ap (λ first. all_filled first (found_next m)) (kept_first m c.args.op.now _ ends) in
    decided_made c.args.op.now c.finish.result c.args.guest.now c.finish.new.guest c.args.memory.now c.finish.new.memory (search rules) (search rules)
    (rw ends (c.finish.ensures.step (record c.args.guest.now.virt { first = all_filled c.args.guest.now.virt.first (found_next m) }) (sym c.is_virtual-nested.ensures) (sym filled)))
    (search rules) (rw (ends, c.finish.ensures.went) refl) (search rules) (search rules)

pub returns-in-Raise-clause-made : goal.returns-in-Raise-clause-made
returns-in-Raise-clause-made c =
    let m = machine_of c.args.guest.now c.args.memory.now in
    decided_made c.args.op.now c.raise.result c.args.guest.now c.raise.new.guest c.args.memory.now c.args.memory.now (search rules) (search rules)
    (search rules) (search rules) (rw (c.in-Raise.ensures.ends (mmu_of m), c.raise.ensures.went, c.in-Raise.ensures.stays) refl) (search rules) (search rules)
