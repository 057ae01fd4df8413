-- A guest in machine memory, as it is written.
use Rattle.std.proofs.Common.{◌≡◌, ℕ, zero, suc, ◌+◌, ◌*◌, ◌<◌, ◌≤◌, List, [], ◌∷◌, ◌++◌, length, take, drop, slice_index, refl, ap, sym, ◌∙◌, arith, length-drop, length-take-le}
use Rattle.std.specs.List.{slice_index_or}
use Rattle.std.proofs.lemmas.List.{drop-drop, drop_at, get_or_default, take_at}
use Rattle.arch_defs.specs.declared.first.FirstEntry.{FirstEntry}
use Rattle.arch_defs.specs.Memory.{block_size}
use Rattle.arch_defs.specs.Ram.{SlicesLieIn, slices}
use Rattle.arch_defs.specs.Spaces.{Space}
use Rattle.guest_exit.specs.declared.guests.Guest.{Guest}
use Rattle.guest_exit.specs.View.{machine_of}
use Rattle.hosted_steps.proofs.Followed.{blocks_held}
use Rattle.guest_exit.proofs.Pools.{size_of}
use Rattle.guest_save.specs.Headers.{blocks_of, header_of}
use Rattle.machine_defs.specs.Machine.{Machine}
use Rattle.shadow_pool.specs.Slots.{room_of}
use Rattle.guest_turns.specs.Hosting.{IsHosted}

-- how many blocks its RAM has
pub blocks_shown : (guest : Guest) (memory : List ℕ) → IsHosted guest memory → length guest.part.blocks ≡ blocks_of (machine_of guest memory)
blocks_shown guest memory at = omega (arith, size_of guest.part memory at.placed.held)

pub whole_blocks : (guest : Guest) (memory : List ℕ) → IsHosted guest memory
    → length (machine_of guest memory).ram ≡ blocks_of (machine_of guest memory) * block_size
whole_blocks guest memory at = size_of guest.part memory at.placed.held ∙ ap (λ n. n * block_size) (blocks_shown guest memory at)

-- one of the slices of memory
slice_shown : (size : ℕ) (ns memory : List ℕ) (i : ℕ) → i < length ns → SlicesLieIn size ns (length memory)
    → take size (drop (i * size) (slices size ns memory)) ≡ take size (drop (slice_index ns i * size) memory)
unfolding slices
slice_shown size [] memory i h lie = absurd (omega (arith, h))
slice_shown size (n ∷ ns) memory zero h lie =
    let first = lie 0 (omega arith) in
    let taken : length (take size (drop (n * size) memory)) ≡ size = length-take-le size (drop (n * size) memory) (omega (arith, length-drop (n * size) memory, first)) in
    let none : 0 * size ≡ 0 = omega arith in
    ap (λ k. take size (drop k (take size (drop (n * size) memory) ++ slices size ns memory))) none
    ∙ take_at (take size (drop (n * size) memory)) (slices size ns memory) size taken
slice_shown size (n ∷ ns) memory (suc i) h lie =
    let first = lie 0 (omega arith) in
    let taken : length (take size (drop (n * size) memory)) ≡ size = length-take-le size (drop (n * size) memory) (omega (arith, length-drop (n * size) memory, first)) in
    let next : suc i * size ≡ size + i * size = omega arith in
    ap (λ k. take size (drop k (take size (drop (n * size) memory) ++ slices size ns memory))) next
    ∙ ap (take size) (sym (drop-drop (i * size) size (take size (drop (n * size) memory) ++ slices size ns memory)))
    ∙ ap (λ xs. take size (drop (i * size) xs)) (drop_at (take size (drop (n * size) memory)) (slices size ns memory) size taken)
    ∙ slice_shown size ns memory i (omega (arith, h)) (λ j few. lie (suc j) (omega (arith, few)))

-- a block of its RAM lies in memory, at the block's place
block_inside : (guest : Guest) (memory : List ℕ) (number : ℕ) → IsHosted guest memory → number < blocks_of (machine_of guest memory) → number < length guest.part.blocks
block_inside guest memory number at h = omega (arith, h, blocks_shown guest memory at)

pub block_lies : (guest : Guest) (memory : List ℕ) (number : ℕ) → IsHosted guest memory → number < blocks_of (machine_of guest memory)
    → slice_index guest.part.blocks number * block_size + block_size ≤ length memory
block_lies guest memory number at h = blocks_held guest.part memory at.placed.held number (block_inside guest memory number at h)

pub block_shown : (guest : Guest) (memory : List ℕ) (number : ℕ) → IsHosted guest memory → number < blocks_of (machine_of guest memory)
    → take block_size (drop (slice_index guest.part.blocks number * block_size) memory)
    ≡ take block_size (drop (number * block_size) (machine_of guest memory).ram)
block_shown guest memory number at h =
    sym (slice_shown block_size guest.part.blocks memory number (block_inside guest memory number at h) (blocks_held guest.part memory at.placed.held))

-- a space is the same whatever stands for one that does not exist
pub same_space : (spaces : List Space) (i : ℕ) (d e : Space) → i < length spaces → slice_index_or spaces i d ≡ slice_index_or spaces i e
same_space spaces i d e h = get_or_default spaces i d e h

-- what is written before all else
pub header_shown : (guest : Guest) (memory : List ℕ) (m : Machine) (blocks spaces entries console time timer : ℕ) (first : List FirstEntry) → IsHosted guest memory → machine_of guest memory ≡ m
    → blocks ≡ length guest.part.blocks → spaces ≡ room_of guest.pool → entries ≡ guest.pool.most → console ≡ guest.console.room → time ≡ guest.clock.time → timer ≡ guest.clock.timer → first ≡ []
    → (record {
      blocks = blocks;
      spaces = spaces;
      entries = entries;
      console = console;
      status = guest.status;
      steps = guest.steps;
      time = time;
      timer = timer;
      state = record guest.virt { first = first };
      device = guest.device;
    }) ≡ header_of m
header_shown guest memory m blocks spaces entries console time timer first hosted is b s e c t r f =
    let b_shown = b ∙ blocks_shown guest memory hosted in
    rw (← is, b_shown, s, e, c, t, r, f) refl
