-- Where a run is to stop, and the positions at which it does (own).
use Rattle.std.specs.Prelude.{◌≡◌, Option, Some, None, ℕ, zero, suc, Bool, true, false, not, ◌==◌, ◌||◌, List, slice_index, if◌then◌else◌}
use Rattle.std.specs.List.{list_any}
use Rattle.guest_settings.specs.declared.statuses.Status.{Status}
use Rattle.guest_settings.specs.declared.statuses.Status.TheVariants.{Running, Waiting, Stopped}
use Rattle.machine_defs.specs.Machine.{Machine}
use Rattle.machine_defs.specs.Runs.{run}

-- addresses of instructions, and bytes of RAM, each by its offset and the value from which it is to differ
pub record StopSet : Type 0 where
  pub pcs : List ℕ
  pub bytes : List (ℕ × ℕ)

abbrev pub has_changed : Machine → ℕ × ℕ → Bool
has_changed m watched = not (slice_index m.ram watched.0 == watched.1)

-- a stop holds of a machine whose next instruction is at one of the addresses, or one of whose bytes differs
abbrev pub stops_at : StopSet → Machine → Bool
stops_at stops m =
    list_any (λ at. at == m.platform.virt.regs.pc) stops.pcs || list_any (has_changed m) stops.bytes

abbrev pub goes_on : Status → Bool
goes_on Running = true
goes_on Waiting = false
goes_on Stopped = false

abbrev pub is_end : StopSet → Machine → Bool
is_end stops m = stops_at stops m || not (goes_on m.platform.status)

-- the last position before this one at which a stop holds, or 0
unfoldable pub last_stop : Machine → StopSet → ℕ → ℕ
last_stop origin stops zero = zero
last_stop origin stops (suc n) = if stops_at stops (run origin n) then n else last_stop origin stops n

-- the first position after n, of the next k, at which a stop holds or the machine does not go on; the last of
-- them where there is none
unfoldable pub next_stop : Machine → StopSet → ℕ → ℕ → ℕ
next_stop origin stops n zero = n
next_stop origin stops n (suc k) =
    if is_end stops (run origin (suc n)) then suc n else next_stop origin stops (suc n) k

-- what was found of the positions from one up to another: the last of them at which a stop holds
abbrev pub IsFoundFrom : Machine → StopSet → ℕ → ℕ → Option ℕ → Type 0
IsFoundFrom origin stops low high (Some place) = last_stop origin stops high ≡ place
IsFoundFrom origin stops low high None = last_stop origin stops high ≡ last_stop origin stops low
