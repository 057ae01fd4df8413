use Rattle.std.proofs.Common.{◌≡◌, ℕ, ◌+◌, ◌*◌, ◌<◌, ◌≤◌, List, length, sym, subst, arith}
use Rattle.arch_defs.specs.Frames.{LieIn, Same, within}
use Rattle.arch_defs.specs.Layouts.{Layout, space_frames}
use Rattle.guest_settings.specs.Needs.{tables_for}
use Rattle.arch_defs.specs.Memory.{zeros}
use Rattle.arch_defs.proofs.FrameSets.{same_none}
use Rattle.arch_defs.proofs.Rooms.{joined_lie, range_lies}
use Rattle.shadow_space.specs.Shadows.{AreZeros}
use Rattle.shadow_space.proofs.Partings.{untouched}
use Rattle.shadow_space.proofs.Tidying.{tables_end}
use Rattle.tests_surface.proofs.machines.empty_space.Goals as goal
use Rattle.arch_defs.proofs.Images.{length_zeros}

lies : (part : Layout) (frames : ℕ) (memory : List ℕ) → memory ≡ zeros (frames * 4096) → part.first_root + 4 * (1 + part.spaces) ≤ frames
    → part.first_table + 1 + part.spaces * tables_for part.entries ≤ frames → 0 < part.spaces → LieIn (space_frames part 0) (length memory)
lies part frames memory is roots tables own =
    subst (λ m. LieIn (space_frames part 0) (length m)) (sym is)
    (joined_lie (within (part.first_root + 4 * (1 + 0)) 4) (within (part.first_table + 1 + 0 * tables_for part.entries) (tables_for part.entries)) (length (zeros (frames * 4096)))
    (range_lies (part.first_root + 4 * (1 + 0)) 4 (length (zeros (frames * 4096))) (omega (arith, length_zeros (frames * 4096), roots, own)))
    (range_lies (part.first_table + 1 + 0 * tables_for part.entries) (tables_for part.entries) (length (zeros (frames * 4096))) (omega (arith, length_zeros (frames * 4096), tables, tables_end 0 part.spaces (tables_for part.entries) own))))

are_zeros : (part : Layout) (frames : ℕ) (memory : List ℕ) → memory ≡ zeros (frames * 4096) → AreZeros (space_frames part 0) memory
are_zeros part frames memory is =
    untouched (space_frames part 0) (frames * 4096) memory (subst (Same (space_frames part 0) (zeros (frames * 4096))) (sym is) (same_none (space_frames part 0) (zeros (frames * 4096))))

pub returns-clause-tidy : goal.returns-clause-tidy
returns-clause-tidy c =
    c.new-space.ensures.tidy c.in_ok-mem.mem
    (lies c.args.part.now c.args.frames c.in_ok-mem.mem c.in_ok-mem.ensures
    (omega (arith, c.host_root.ensures.value, c.spaces-2.ensures.value, c.if-host_root-spaces.false))
    (rw (c.host_table.ensures.value, c.spaces.ensures.value, c.entries.ensures.value) at c.if-end-frames.false) c.requires.own)
    (are_zeros c.args.part.now c.args.frames c.in_ok-mem.mem c.in_ok-mem.ensures)
