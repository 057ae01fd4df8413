-- How long a generated image is.
use Rattle.std.specs.Prelude.{ℕ, ◌≡◌, ◌+◌, ◌*◌, length}
use Rattle.work_images.specs.Guests.{guest}

-- what lies below the commands, four doublewords for each command, and one at their end
abbrev pub ImageLength : Type 0
ImageLength = (seed count g : ℕ) → length (guest seed count g).image ≡ 131072 + 32 * count + 8
