use Rattle.std.proofs.Common.{◌≡◌, ℕ, ◌+◌, ◌*◌, ◌≤◌, List, length, sym, ap, subst, ◌∙◌, arith}
use Rattle.arch_defs.specs.Frames.{LieIn, within}
use Rattle.arch_defs.specs.Layouts.{Layout}
use Rattle.guest_settings.specs.Needs.{tables_for}
use Rattle.arch_defs.specs.Memory.{zeros}
use Rattle.arch_defs.proofs.FrameSets.{same_none}
use Rattle.arch_defs.proofs.Rooms.{joined_lie, range_lies}
use Rattle.shadow_space.specs.Shadows.{AreZeros}
use Rattle.shadow_space.proofs.Partings.{untouched}
use Rattle.shadow_pool.specs.Slots.{Pooled, TidyPool, pool_frames, table_frames_for}
use Rattle.tests_surface.proofs.machines.empty_pool.Goals as goal
use Rattle.arch_defs.proofs.Images.{length_zeros}

lies : (part : Layout) (frames : ℕ) → part.first_root + 4 * (1 + part.spaces) ≤ frames → part.first_table + 1 + part.spaces * tables_for part.entries ≤ frames
    → LieIn (table_frames_for part part.spaces) (length (zeros (frames * 4096)))
lies part frames roots tables =
    joined_lie (within (part.first_root + 4) (4 * part.spaces)) (within (part.first_table + 1) (part.spaces * tables_for part.entries)) (length (zeros (frames * 4096)))
    (range_lies (part.first_root + 4) (4 * part.spaces) (length (zeros (frames * 4096))) (omega (arith, length_zeros (frames * 4096), roots)))
    (range_lies (part.first_table + 1) (part.spaces * tables_for part.entries) (length (zeros (frames * 4096))) (omega (arith, length_zeros (frames * 4096), tables)))

new_tidy : (part : Layout) (pool : Pooled) (frames : ℕ) (memory : List ℕ) → memory ≡ zeros (frames * 4096) → part.first_root + 4 * (1 + part.spaces) ≤ frames
    → part.first_table + 1 + part.spaces * tables_for part.entries ≤ frames → pool.part ≡ part → length pool.slots ≡ part.spaces
    → ((memory : List ℕ) → LieIn (pool_frames pool) (length memory) → AreZeros (pool_frames pool) memory → TidyPool pool memory) → TidyPool pool memory
new_tidy part pool frames memory is roots tables same count tidy =
    let own : table_frames_for part part.spaces ≡ pool_frames pool = sym (ap (λ p. table_frames_for p (length pool.slots)) same ∙ ap (table_frames_for part) count) in
    subst (TidyPool pool) (sym is)
    (tidy (zeros (frames * 4096)) (subst (λ own. LieIn own (length (zeros (frames * 4096)))) own (lies part frames roots tables))
    (untouched (pool_frames pool) (frames * 4096) (zeros (frames * 4096)) (same_none (pool_frames pool) (zeros (frames * 4096)))))

pub returns-clause-tidy : goal.returns-clause-tidy
returns-clause-tidy c =
    new_tidy c.args.part.now c.in_ok-pool.pool c.args.frames c.in_ok-mem.mem c.in_ok-mem.ensures
    (omega (arith, c.host_root.ensures.value, c.spaces-spaces.ensures.value, c.if-host_root-spaces.false))
    (rw (c.host_table.ensures.value, c.spaces-spaces.ensures.value, c.entries.ensures.value) at c.if-end-frames.false)
    c.in_ok-pool.ensures.part (c.in_ok-pool.ensures.room ∙ c.spaces-spaces.ensures.value) c.in_ok-pool.ensures.tidy
