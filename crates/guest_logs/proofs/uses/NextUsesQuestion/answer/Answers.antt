use Rattle.std.specs.List.{All}
use Rattle.std.proofs.Common.{subst, sym}
use Rattle.arch_defs.specs.Layouts.{Layout}
use Rattle.arch_defs.specs.Memory.{ram_memory}
use Rattle.arch_defs.specs.Ram.{ram_of}
use Rattle.arch_defs.specs.Spaces.{front}
use Rattle.cached_uses.specs.Serving.{LeadsInto}
use Rattle.shadow_pool.specs.Slots.{spaces_of}
use Rattle.guest_logs.proofs.Leading.{front_leads}
use Rattle.guest_logs.proofs.uses.NextUsesQuestion.answer.Goals as goal

pub step_uses-requires-clause-inside : goal.step_uses-requires-clause-inside
step_uses-requires-clause-inside c =
    let guest = c.args.guest.now in
    let memory = c.args.ram.now.mem.now in
    let blocks = c.args.ram.now.part.now.blocks in
    subst (All (LeadsInto (ram_memory (ram_of blocks memory)))) (sym c.front_entries.ensures)
    (subst (λ (part : Layout). All (LeadsInto (ram_memory (ram_of part.blocks memory))) (front (spaces_of guest.pool))) (sym c.requires.ram)
    (front_leads guest memory c.requires.hosted))
