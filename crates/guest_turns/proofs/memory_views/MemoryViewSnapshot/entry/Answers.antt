use Rattle.std.proofs.Common.{◌<◌, length, ap, subst, sym, ◌∙◌}
use Rattle.std.specs.List.{slice_index_or}
use Rattle.arch_defs.specs.Spaces.{Space}
use Rattle.machine_defs.specs.Machine.{Machine}
use Rattle.shadow_pool.specs.Slots.{no_space, space_at}
use Rattle.guest_turns.proofs.ShownBlocks.{same_space}
use Rattle.guest_turns.proofs.memory_views.MemoryViewSnapshot.entry.Goals as goal

pub entry-requires-clause-space : goal.entry-requires-clause-space
entry-requires-clause-space c = subst (λ (m : Machine). c.args.space < length m.spaces) (sym c.self.view_is) c.requires.space

pub entry-requires-clause-entry : goal.entry-requires-clause-entry
entry-requires-clause-entry c =
    subst (λ (m : Machine). c.args.place < length (space_at m.spaces c.args.space).entries) (sym c.self.view_is) (c.requires.place no_space)

pub returns : goal.returns
returns c = λ d.
    let e = c.entry.result in
    c.entry.ensures e ∙ ap (λ (m : Machine). slice_index_or (space_at m.spaces c.args.space).entries c.args.place e) c.self.view_is
    ∙ ap (λ (s : Space). slice_index_or s.entries c.args.place e) (same_space c.args.self.now.spaces c.args.space no_space d c.requires.space)
