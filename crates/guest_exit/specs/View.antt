-- A guest, as its lone machine over the bytes of its RAM in machine memory.
use Rattle.std.specs.Prelude.{ℕ, ◌≡◌, List}
use Rattle.arch_defs.specs.declared.hart_states.HartState.{HartState}
use Rattle.arch_defs.specs.Frames.{Frames}
use Rattle.arch_defs.specs.Ram.{ram_of}
use Rattle.machine_defs.specs.Machine.{Machine, Platform}
use Rattle.shadow_pool.specs.Slots.{room_of, spaces_of}
use Rattle.world_switch.specs.Hosting.{loaded_in}
use Rattle.guest_exit.specs.declared.guests.Guest.{Guest}
use Rattle.hosted_steps.specs.HartSteps.{IsAt, changing, root_for}

-- the lone machine's platform
abbrev pub platform_of : Guest → Platform
platform_of guest = record {
  virt = guest.virt;
  clock = guest.clock;
  console = guest.console;
  steps = guest.steps;
  status = guest.status;
}

-- the lone machine, whose spaces are those of the pool
abbrev pub machine_of : Guest → List ℕ → Machine
machine_of guest memory = record {
  platform = platform_of guest;
  ram = ram_of guest.part.blocks memory;
  spaces = spaces_of guest.pool;
  space_room = room_of guest.pool;
  entry_room = guest.pool.most;
  device = guest.device;
}

-- what the hart has for it
abbrev pub loaded_for : Guest → HartState
loaded_for guest = loaded_in guest.part (root_for guest.part guest.pool guest.virt) guest.virt

-- the frames of machine memory that its steps may change: those of its blocks and of its spaces' tables
abbrev pub changed_by : Guest → Frames
changed_by guest = changing guest.part guest.pool

-- what no step changes
pub record KeepsLayout (before after : Guest) : Type 0 where
  pub part : after.part ≡ before.part
  pub device : after.device ≡ before.device
  pub pool : after.pool.part ≡ before.pool.part
  pub entry_room : after.pool.most ≡ before.pool.most
  pub space_room : room_of after.pool ≡ room_of before.pool

-- nor does one that leaves the spaces alone change any of them
pub record KeepsSpaces (before after : Guest) : Type 0 where
  pub part : after.part ≡ before.part
  pub device : after.device ≡ before.device
  pub pool : after.pool ≡ before.pool

-- machine memory holds the guest's part, with its host table and the tables of its spaces, and the guest's
-- registers hold what they can store
abbrev pub IsPlaced : Guest → List ℕ → Type 0
IsPlaced guest memory = IsAt guest.part guest.pool (machine_of guest memory) memory
