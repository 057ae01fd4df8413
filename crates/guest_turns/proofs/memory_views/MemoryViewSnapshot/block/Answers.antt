use Rattle.std.proofs.Common.{◌*◌, ◌<◌, length, drop, take, ap, subst, sym, ◌∙◌, arith}
use Rattle.arch_defs.specs.Memory.{block_size}
use Rattle.guest_save.specs.Headers.{blocks_of}
use Rattle.machine_defs.specs.Machine.{Machine}
use Rattle.guest_turns.proofs.ShownBlocks.{block_lies, block_shown, blocks_shown}
use Rattle.guest_turns.proofs.memory_views.MemoryViewSnapshot.block.Goals as goal

pub offset_bounds-blocks-number : goal.offset_bounds-blocks-number
offset_bounds-blocks-number c =
    let inside = subst (λ (m : Machine). c.args.number < blocks_of m) (sym c.self.view_is) c.requires in
    omega (arith, inside, blocks_shown c.self.inside.guest.now c.self.inside.memory.now c.self.invariant, ap length c.blocks-2.ensures.value, c.blocks-2.ensures.few)

pub bounds-blocks-number : goal.bounds-blocks-number
bounds-blocks-number c =
    let inside = subst (λ (m : Machine). c.args.number < blocks_of m) (sym c.self.view_is) c.requires in
    omega (arith, inside, blocks_shown c.self.inside.guest.now c.self.inside.memory.now c.self.invariant, ap length c.blocks-2.ensures.value)

pub block-requires : goal.block-requires
block-requires c =
    let guest = c.self.inside.guest.now in
    let memory = c.self.inside.memory.now in
    let inside = subst (λ (m : Machine). c.args.number < blocks_of m) (sym c.self.view_is) c.requires in
    rw c.blocks-2.ensures.value (block_lies guest memory c.args.number c.self.invariant inside)

pub returns : goal.returns
returns c =
    let guest = c.self.inside.guest.now in
    let memory = c.self.inside.memory.now in
    let inside = subst (λ (m : Machine). c.args.number < blocks_of m) (sym c.self.view_is) c.requires in
    c.block.ensures ∙ rw c.blocks-2.ensures.value (block_shown guest memory c.args.number c.self.invariant inside)
    ∙ ap (λ (m : Machine). take block_size (drop (c.args.number * block_size) m.ram)) c.self.view_is
