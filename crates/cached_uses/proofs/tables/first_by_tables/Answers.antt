use Rattle.arch_defs.specs.Memory.{nothing_known}
use Rattle.arch_defs.specs.Translation.{supervisor_of}
use Rattle.machine_defs.specs.Answers.{mmu_by_walk}
use Rattle.machine_defs.specs.FirstLeaves.{tag_of}
use Rattle.cached_uses.proofs.Shown.{walked_shown}
use Rattle.cached_uses.proofs.tables.first_by_tables.Goals as goal

pub returns-in-Some : goal.returns-in-Some
returns-in-Some g c = let virt = c.args.virt.now in
    walked_shown (tag_of virt) (mmu_by_walk (g.M.Mem.memory c.args.mem.now) virt.csrs virt.mode) virt c.args.va c.args.access
    c.in-Some.leaf c.page_leaf.result (c.page_leaf.ensures (tag_of virt) (supervisor_of virt.csrs virt.mode).atp) (c.in-Some.ensures.value nothing_known)
