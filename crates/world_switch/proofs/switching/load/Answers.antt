use Rattle.std.proofs.Common.{ap, ◌∙◌}
use Rattle.arch_defs.specs.declared.hart_states.HartState.{HartState}
use Rattle.world_switch.specs.Hosting.{root_at, saved_in}
use Rattle.world_switch.proofs.Undone.{saves_back}
use Rattle.world_switch.proofs.switching.load.Goals as goal

pub returns-then-is_virtual-clause-saves : goal.returns-then-is_virtual-clause-saves
returns-then-is_virtual-clause-saves c =
    ap (λ (hart : HartState). saved_in c.args.part.now hart.virt c.args.virt.now) c.to_nested.ensures
    ∙ saves_back c.args.part.now (root_at c.args.part.now c.args.root) c.args.virt.now c.names_each_once.ensures c.requires.held

pub returns-else-is_virtual-clause-saves : goal.returns-else-is_virtual-clause-saves
returns-else-is_virtual-clause-saves c =
    ap (λ (hart : HartState). saved_in c.args.part.now hart.virt c.args.virt.now) c.to_guest_hs.ensures
    ∙ saves_back c.args.part.now (root_at c.args.part.now c.args.root) c.args.virt.now c.names_each_once.ensures c.requires.held
