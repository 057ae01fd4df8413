-- Entries that are not of the device page.
use Rattle.std.proofs.Common.{◌≡◌, ℕ, ◌+◌, ◌*◌, ◌<◌, ◌≤◌, inl, inr, false, List, length}
use Rattle.std.proofs.lemmas.Bool.{eq-eqb}
use Rattle.arch_defs.specs.declared.cached.Entry.{Entry}
use Rattle.arch_defs.specs.CachedEntries.{CanFill, IsReachable, is_device}
use Rattle.arch_defs.specs.Devices.{device_frame}
use Rattle.arch_defs.specs.Memory.{block_size, ram_base}

-- the frame of such an entry is in RAM
pub is_of_ram : (blocks : List ℕ) (e : Entry) → CanFill blocks e → is_device e ≡ false → (ram_base ≤ e.frame * 4096) × (e.frame * 4096 < ram_base + length blocks * block_size)
is_of_ram blocks e can off = by can.frame
  where
    by : IsReachable blocks e.frame → (ram_base ≤ e.frame * 4096) × (e.frame * 4096 < ram_base + length blocks * block_size)
    by (inl range) = range
    by (inr is) = let on = eq-eqb e.frame device_frame is in absurd cc
