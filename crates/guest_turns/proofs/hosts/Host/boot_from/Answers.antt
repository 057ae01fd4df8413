use Rattle.std.proofs.Common.{◌≡◌, ◌*◌, ◌^◌, ◌≤◌, false, length, ap, arith, refl, replicate, sym, subst, ◌∙◌}
use Rattle.std.specs.List.{All}
use Rattle.arch_defs.specs.Memory.{zeros}
use Rattle.arch_defs.proofs.Images.{length_zeros}
use Rattle.frame_split.specs.Shares.{IsSplit, blocks_of_all, frames_with}
use Rattle.frame_split.proofs.Sums.{frames_sum}
use Rattle.guest_turns.specs.Hosting.{AreLaidOut}
use Rattle.guest_turns.specs.Sources.{needs_of_sources}
use Rattle.guest_turns.proofs.Flags.{none_set}
use Rattle.guest_turns.proofs.Savables.{steps_small}
use Rattle.guest_turns.proofs.Starting.{booted_by, some_frames}
use Rattle.guest_turns.proofs.hosts.Host.boot_from.Goals as goal

pub new-requires-clause-some : goal.new-requires-clause-some
new-requires-clause-some c =
    rw (c.in_ok-split.ensures.shared.frames, c.as_slice.ensures.value) (some_frames c.args.sources.items c.args.spare c.requires.bootable.some)

pub lay_out-requires-clause-parts : goal.lay_out-requires-clause-parts
lay_out-requires-clause-parts c = record {
  frames = c.in_ok-split.split.frames;
  split = subst (λ sources. IsSplit (needs_of_sources sources) c.as_slice-3.result.now c.in_ok-split.split.frames) (c.as_slice.ensures.value ∙ sym c.as_slice-2.ensures.value)
      (subst (λ parts. IsSplit (needs_of_sources c.as_slice.result.now) parts c.in_ok-split.split.frames) (sym c.as_slice-3.ensures.value) c.in_ok-split.ensures.shared.parts);
  whole = ap length c.in_ok-memory.ensures ∙ length_zeros (c.in_ok-split.split.frames * 4096);
}

pub lay_out-requires-clause-zeros : goal.lay_out-requires-clause-zeros
lay_out-requires-clause-zeros c = c.in_ok-memory.ensures ∙ ap zeros (sym (ap length c.in_ok-memory.ensures ∙ length_zeros (c.in_ok-split.split.frames * 4096)))

pub guests_from-requires-clause-parts : goal.guests_from-requires-clause-parts
guests_from-requires-clause-parts c = record {
  frames = c.in_ok-split.split.frames;
  split = subst (λ sources. IsSplit (needs_of_sources sources) c.as_slice-4.result.now c.in_ok-split.split.frames) c.as_slice.ensures.value
      (subst (λ parts. IsSplit (needs_of_sources c.as_slice.result.now) parts c.in_ok-split.split.frames) (sym c.as_slice-4.ensures.value) c.in_ok-split.ensures.shared.parts);
  whole = c.lay_out.ensures.size ∙ ap length c.in_ok-memory.ensures ∙ length_zeros (c.in_ok-split.split.frames * 4096);
}

pub guests_from-requires-clause-laid : goal.guests_from-requires-clause-laid
guests_from-requires-clause-laid c =
    subst (λ parts. AreLaidOut c.args.sources.items parts (length c.args.sources.items) 0 c.lay_out.new.memory) (c.as_slice-3.ensures.value ∙ sym c.as_slice-4.ensures.value)
    (subst (λ sources. AreLaidOut sources c.as_slice-3.result.now (length sources) 0 c.lay_out.new.memory) c.as_slice-2.ensures.value c.lay_out.ensures.laid)

pub from-requires : goal.from-requires
from-requires c =
    let blocks : c.in_ok-split.split.blocks ≡ blocks_of_all (needs_of_sources c.args.sources.items) = c.in_ok-split.ensures.shared.blocks ∙ ap (λ sources. blocks_of_all (needs_of_sources sources)) c.as_slice.ensures.value in
    omega (arith, blocks, frames_sum (needs_of_sources c.args.sources.items), c.requires.room.frames)

pub invariant_of-result : goal.invariant_of-result
invariant_of-result c =
    (booted_by c.args.sources.items c.as_slice.result.now c.in_ok-split.split.parts.items c.as_slice-4.result.now
    c.in_ok-split.split.frames c.in_ok-split.split.blocks c.args.spare c.in_ok-guests.guests.items (replicate 16 false) c.from.result c.in_ok-memory.memory c.lay_out.new.memory c.guests_from.new.memory
    c.requires.bootable c.requires.room.frames c.as_slice.ensures.value c.as_slice-4.ensures.value c.in_ok-split.ensures.shared.parts c.in_ok-split.ensures.shared.leaves c.in_ok-split.ensures.shared.frames
    (record { none = none_set 16; spares = c.from.ensures.blocks }) c.in_ok-memory.ensures c.lay_out.ensures.size c.in_ok-guests.ensures.size c.in_ok-guests.ensures.laid c.in_ok-guests.ensures.made).hosted

pub returns-clause-machines : goal.returns-clause-machines
returns-clause-machines c =
    (booted_by c.args.sources.items c.as_slice.result.now c.in_ok-split.split.parts.items c.as_slice-4.result.now
    c.in_ok-split.split.frames c.in_ok-split.split.blocks c.args.spare c.in_ok-guests.guests.items (replicate 16 false) c.from.result c.in_ok-memory.memory c.lay_out.new.memory c.guests_from.new.memory
    c.requires.bootable c.requires.room.frames c.as_slice.ensures.value c.as_slice-4.ensures.value c.in_ok-split.ensures.shared.parts c.in_ok-split.ensures.shared.leaves c.in_ok-split.ensures.shared.frames
    (record { none = none_set 16; spares = c.from.ensures.blocks }) c.in_ok-memory.ensures c.lay_out.ensures.size c.in_ok-guests.ensures.size c.in_ok-guests.ensures.laid c.in_ok-guests.ensures.made).machines

pub returns-clause-parts : goal.returns-clause-parts
returns-clause-parts c =
    let parts_are =
    (booted_by c.args.sources.items c.as_slice.result.now c.in_ok-split.split.parts.items c.as_slice-4.result.now
    c.in_ok-split.split.frames c.in_ok-split.split.blocks c.args.spare c.in_ok-guests.guests.items (replicate 16 false) c.from.result c.in_ok-memory.memory c.lay_out.new.memory c.guests_from.new.memory
    c.requires.bootable c.requires.room.frames c.as_slice.ensures.value c.as_slice-4.ensures.value c.in_ok-split.ensures.shared.parts c.in_ok-split.ensures.shared.leaves c.in_ok-split.ensures.shared.frames
    (record { none = none_set 16; spares = c.from.ensures.blocks }) c.in_ok-memory.ensures c.lay_out.ensures.size c.in_ok-guests.ensures.size c.in_ok-guests.ensures.laid c.in_ok-guests.ensures.made).parts_are in
    let split = rw (c.in_ok-split.ensures.shared.frames, c.as_slice.ensures.value) at c.in_ok-split.ensures.shared.parts in
    subst (λ parts. IsSplit (needs_of_sources c.args.sources.items) parts (frames_with (needs_of_sources c.args.sources.items) c.args.spare)) (sym parts_are) split

pub returns-clause-steps : goal.returns-clause-steps
returns-clause-steps c =
    let machines =
    (booted_by c.args.sources.items c.as_slice.result.now c.in_ok-split.split.parts.items c.as_slice-4.result.now
    c.in_ok-split.split.frames c.in_ok-split.split.blocks c.args.spare c.in_ok-guests.guests.items (replicate 16 false) c.from.result c.in_ok-memory.memory c.lay_out.new.memory c.guests_from.new.memory
    c.requires.bootable c.requires.room.frames c.as_slice.ensures.value c.as_slice-4.ensures.value c.in_ok-split.ensures.shared.parts c.in_ok-split.ensures.shared.leaves c.in_ok-split.ensures.shared.frames
    (record { none = none_set 16; spares = c.from.ensures.blocks }) c.in_ok-memory.ensures c.lay_out.ensures.size c.in_ok-guests.ensures.size c.in_ok-guests.ensures.laid c.in_ok-guests.ensures.made).machines in
    subst (All (λ m. m.platform.steps ≤ 2 ^ 60)) (sym machines) (steps_small c.args.sources.items c.requires.bootable.each)

pub returns-clause-begins : goal.returns-clause-begins
returns-clause-begins c =
    let blocks : c.in_ok-split.split.blocks ≡ blocks_of_all (needs_of_sources c.args.sources.items) = c.in_ok-split.ensures.shared.blocks ∙ ap (λ sources. blocks_of_all (needs_of_sources sources)) c.as_slice.ensures.value in
    record {
      active = none_set 16;
      flags = refl;
      free = rw blocks at c.from.ensures.blocks;
      count = c.from.ensures.count;
    }
