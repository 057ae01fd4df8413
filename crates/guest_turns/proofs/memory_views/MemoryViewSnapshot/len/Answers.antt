use Rattle.std.proofs.Common.{◌<◌, length, ap, subst, sym, ◌∙◌}
use Rattle.arch_defs.specs.Spaces.{Space}
use Rattle.machine_defs.specs.Machine.{Machine}
use Rattle.shadow_pool.specs.Slots.{no_space, space_at}
use Rattle.guest_turns.proofs.ShownBlocks.{same_space}
use Rattle.guest_turns.proofs.memory_views.MemoryViewSnapshot.len.Goals as goal

pub len-requires : goal.len-requires
len-requires c = subst (λ (m : Machine). c.args.space < length m.spaces) (sym c.self.view_is) c.requires

pub returns : goal.returns
returns c = λ d.
    c.len.ensures ∙ ap (λ (m : Machine). length (space_at m.spaces c.args.space).entries) c.self.view_is
    ∙ ap (λ (s : Space). length s.entries) (same_space c.args.self.now.spaces c.args.space no_space d c.requires)
