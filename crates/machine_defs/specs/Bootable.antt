-- The guests that a host can boot (own).
use Rattle.std.specs.Prelude.{◌*◌, ◌≤◌, length}
use Rattle.arch_defs.specs.Memory.{block_size}
use Rattle.guest_settings.specs.declared.guests.GuestSpec.{GuestSpec}
use Rattle.guest_settings.specs.Inputs.{AreInputs}
use Rattle.guest_settings.specs.Limits.{least_entries, most_blocks, most_console, most_entries, most_spaces}

-- a guest that is within the limits, and whose image fits
pub record IsBootable (guest : GuestSpec) : Type 0 where
  pub some_block : 1 ≤ guest.blocks
  pub blocks : guest.blocks ≤ most_blocks
  pub some_space : 1 ≤ guest.spaces
  pub spaces : guest.spaces ≤ most_spaces
  pub some_entries : least_entries ≤ guest.entries
  pub entries : guest.entries ≤ most_entries
  pub console : guest.console ≤ most_console
  pub image : length guest.image ≤ guest.blocks * block_size
  pub inputs : AreInputs guest.inputs
