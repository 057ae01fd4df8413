-- The generated guests.
use Rattle.std.specs.Prelude.{ℕ, ◌+◌, ◌*◌, false, List, [], ◌∷◌, map}
use Rattle.std.specs.List.{range_with_len}
use Rattle.guest_settings.specs.declared.guests.GuestSpec.{GuestSpec}
use Rattle.rv64_asm.specs.Plans.{ImagePlan, byte_at, size}
use Rattle.work_images.specs.Numbers.{number}
use Rattle.work_images.specs.Commands.{commands_from, list_bytes}
use Rattle.work_images.specs.Program.{image_plan}

-- the bytes of an image
unfoldable pub image_bytes : ImagePlan → List ℕ
image_bytes plan = map (byte_at plan) (range_with_len 0 (size plan))

-- the image of that many commands that are drawn from a number on
abbrev pub image_from : ℕ → ℕ → List ℕ
image_from x count = image_bytes (image_plan (list_bytes (commands_from x count)))

-- `g` and a digit
abbrev pub guest_name : ℕ → List ℕ
guest_name g = 103 ∷ (48 + g) ∷ []

-- a generated guest of this name and image: 1 block, 1 space, 16 entries, no inputs
abbrev pub guest_with : List ℕ → List ℕ → GuestSpec
guest_with name image = record {
  name = name;
  image = image;
  blocks = 1;
  spaces = 1;
  entries = 16;
  console = 1048576;
  inputs = [];
  device = false;
}

-- guest g: its commands are drawn after those of the guests before it, four draws each
abbrev pub guest : ℕ → ℕ → ℕ → GuestSpec
guest seed count g = guest_with (guest_name g) (image_from (number seed (4 * (count * g))) count)

-- g0 to g3
unfoldable pub guests : ℕ → ℕ → List GuestSpec
guests seed count = map (guest seed count) (range_with_len 0 4)
