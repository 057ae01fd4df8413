use Rattle.arch_defs.proofs.Slots.{behind}
use Rattle.arch_defs.proofs.parts.slots_of.Goals as goal

pub returns-clause-others : goal.returns-clause-others
returns-clause-others c = behind 32 c.copy_from_slice.new.self c.args.blocks.now c.copy_from_slice.ensures.after
