-- What a host can boot.
use Rattle.std.specs.Prelude.{ℕ, ◌≤◌, List, length, map}
use Rattle.arch_defs.specs.Frames.{most_frames}
use Rattle.std.specs.List.{All}
use Rattle.guest_settings.specs.declared.needs.Need.{Need}
use Rattle.frame_split.specs.Shares.{frames_of_all, frames_with}
use Rattle.guest_settings.specs.Limits.{most_guests}
use Rattle.guest_settings.specs.Needs.{need_of}
use Rattle.guest_settings.specs.declared.guests.GuestSpec.{GuestSpec}
use Rattle.machine_defs.specs.Bootable.{IsBootable}

-- what each guest needs of machine memory
abbrev pub needs_of : List GuestSpec → List Need
needs_of guests = map need_of guests

-- the frames that all of them need
abbrev pub frames_for : List GuestSpec → ℕ
frames_for guests = frames_of_all (needs_of guests)

-- at least one guest, and no more than the limit; they need no more frames than machine memory has
pub record AreBootable (guests : List GuestSpec) : Type 0 where
  pub some : 1 ≤ length guests
  pub few : length guests ≤ most_guests
  pub each : All IsBootable guests
  pub frames : frames_for guests ≤ most_frames

-- machine memory has room for parts of these needs, and for that many blocks behind them
pub record HasRoomForParts (needs : List Need) (spare : ℕ) : Type 0 where
  pub few : spare ≤ 32
  pub frames : frames_with needs spare ≤ most_frames
