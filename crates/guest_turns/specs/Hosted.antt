-- What contracts see of a host: the lone machines of its guests, in order, the part of each of them, machine
-- memory, which blocks of it are free, and which guests have retired.
use Rattle.std.specs.Prelude.{◌≡◌, ℕ, ◌<◌, Bool, true, false, List, [], ◌∷◌, length, get_or, slice_set}
use Rattle.std.specs.List.{count_by, position_or_len}
use Rattle.arch_defs.specs.declared.modes.Mode.TheVariants.{HS}
use Rattle.arch_defs.specs.Clocks.{times_at_start}
use Rattle.arch_defs.specs.Frames.{within}
use Rattle.arch_defs.specs.Layouts.{Layout, no_part}
use Rattle.arch_defs.specs.Registers.{virtual_at}
use Rattle.guest_settings.specs.declared.statuses.Status.TheVariants.{Stopped}
use Rattle.machine_defs.specs.Machine.{Machine}

pub record Hosted : Type 0 where
  pub machines : List Machine
  pub parts : List Layout
  pub memory : List ℕ
  pub free : List Bool
  pub retired : List Bool

-- nothing is shared out anew: each part, which blocks are free, and who has retired are as they were
pub record KeepsShares (old new : Hosted) : Type 0 where
  pub parts : new.parts ≡ old.parts
  pub free : new.free ≡ old.free
  pub retired : new.retired ≡ old.retired

-- whether the flag of a block or a guest is set: past the end none is
abbrev pub is_set : List Bool → ℕ → Bool
is_set flags i = get_or flags i false

-- a host has this guest, which has not retired
pub record IsActive (host : Hosted) (g : ℕ) : Type 0 where
  pub there : g < length host.machines
  pub active : is_set host.retired g ≡ false

-- how many are set, and the lowest one that is
abbrev pub count_set : List Bool → ℕ
count_set flags = count_by (λ flag. flag) flags

abbrev pub lowest : List Bool → ℕ
lowest flags = position_or_len (λ flag. flag) flags

-- as a host begins: no guest has retired, and that many blocks are free, from this one on
pub record BeginsWith (first spare : ℕ) (host : Hosted) : Type 0 where
  pub active : (g : ℕ) → is_set host.retired g ≡ false
  pub flags : length host.retired ≡ 16
  pub free : (block : ℕ) → is_set host.free block ≡ within first spare block
  pub count : count_set host.free ≡ spare

-- the flags with those of these blocks set
abbrev pub with_free : List ℕ → List Bool → List Bool
with_free [] free = free
with_free (block ∷ blocks) free = with_free blocks (slice_set free block true)

-- a machine without memory that has stopped: that of a guest that does not exist
unfoldable pub no_machine : Machine
no_machine = record {
  platform = record {
    virt = virtual_at HS 0;
    clock = times_at_start;
    console = record { bytes = []; room = 0; inputs = [] };
    steps = 0;
    status = Stopped;
  };
  ram = [];
  spaces = [];
  space_room = 0;
  entry_room = 0;
  device = false;
}

-- the machine of a guest by its number, and its part
abbrev pub machine_at : List Machine → ℕ → Machine
machine_at machines g = get_or machines g no_machine

abbrev pub part_at : List Layout → ℕ → Layout
part_at parts g = get_or parts g no_part
