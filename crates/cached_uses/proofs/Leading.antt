-- Entries that can be filled lead into RAM, or to the device page.
use Rattle.std.proofs.Common.{arith, ◌≡◌, ℕ, ◌+◌, ◌*◌, ◌<◌, ◌≤◌, ◌⊎◌, ◌^◌, inl, inr, length}
use Rattle.arch_defs.specs.Devices.{device_frame}
use Rattle.arch_defs.specs.Memory.{block_size, ram_base}
use Rattle.cached_uses.specs.Serving.{FilledLeadInto}

frame_small : (frame blocks : ℕ) → blocks ≤ 2 ^ 30
    → ((ram_base ≤ frame * 4096) × (frame * 4096 < ram_base + blocks * block_size)) ⊎ (frame ≡ device_frame) → frame < 2 ^ 44
frame_small frame blocks few (inl (low, high)) = omega (arith, few, high)
frame_small frame blocks few (inr device) = omega (arith, device)

frame_inside : (frame blocks size : ℕ) → size ≡ blocks * block_size
    → ((ram_base ≤ frame * 4096) × (frame * 4096 < ram_base + blocks * block_size)) ⊎ (frame ≡ device_frame)
    → ((ram_base ≤ frame * 4096) × (frame * 4096 + 4096 ≤ ram_base + size)) ⊎ (frame ≡ device_frame)
frame_inside frame blocks size is (inl (low, high)) = inl (low, omega (arith, is, high))
frame_inside frame blocks size is (inr device) = inr device

pub filled_lead_into : FilledLeadInto
filled_lead_into blocks ram e few size fill = record {
  small = frame_small e.frame (length blocks) few fill.frame;
  frame = frame_inside e.frame (length blocks) (length ram) size fill.frame;
}
