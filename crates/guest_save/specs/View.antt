-- A machine as its parts in code say it.
use Rattle.std.specs.Prelude.{◌≡◌, ◌/◌, [], length}
use Rattle.arch_defs.specs.Memory.{block_size}
use Rattle.guest_save.specs.declared.machine_parts.MachineParts.TheInside.{Inside}
use Rattle.machine_defs.specs.Machine.{Machine}

abbrev pub machine_inside : Inside → Machine
machine_inside parts = let h = parts.header in record {
  platform = record {
    virt = record h.state { first = parts.first.items };
    clock = record { time = h.time; timer = h.timer };
    console = record { bytes = parts.console.items; room = h.console; inputs = parts.inputs.items };
    steps = h.steps;
    status = h.status;
  };
  ram = parts.ram.items;
  spaces = parts.spaces.items;
  space_room = h.spaces;
  entry_room = h.entries;
  device = h.device;
}

-- the header tells how many blocks of RAM there are, and no first-stage translation
abbrev pub IsOfHeader : Inside → Type 0
IsOfHeader parts =
    (parts.header.blocks ≡ length parts.ram.items / block_size) × (parts.header.state.first ≡ [])
