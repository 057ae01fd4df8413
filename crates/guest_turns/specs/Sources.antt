-- Where guests come from, and what a host can boot.
use Rattle.std.specs.Prelude.{ℕ, ◌≤◌, List, length, map}
use Rattle.std.specs.List.{All}
use Rattle.guest_settings.specs.declared.needs.Need.{Need}
use Rattle.guest_settings.specs.Needs.{need_of}
use Rattle.guest_save.specs.Needs as saved
use Rattle.guest_save.specs.Savable.{IsSavable}
use Rattle.machine_defs.specs.Machine.{Machine, start}
use Rattle.guest_turns.specs.declared.sources.Source.{Source}
use Rattle.guest_turns.specs.declared.sources.Source.TheVariants.{Fresh, Kept}
use Rattle.machine_defs.specs.Bootable.{IsBootable}

-- the machine that a guest goes on from: at its start, or as it was saved
abbrev pub machine_of_source : Source → Machine
machine_of_source (Fresh spec) = start spec
machine_of_source (Kept name kept) = kept.machine

abbrev pub machines_of_sources : List Source → List Machine
machines_of_sources sources = map machine_of_source sources

-- what it needs of machine memory
abbrev pub need_of_source : Source → Need
need_of_source (Fresh spec) = need_of spec
need_of_source (Kept name kept) = saved.machine_need kept.machine

abbrev pub needs_of_sources : List Source → List Need
needs_of_sources sources = map need_of_source sources

abbrev pub blocks_of_source : Source → ℕ
blocks_of_source source = (need_of_source source).blocks

-- a guest can be booted: what it is given is within the limits, or its machine is one that can be saved
abbrev pub IsBootableSource : Source → Type 0
IsBootableSource (Fresh spec) = IsBootable spec
IsBootableSource (Kept name kept) = IsSavable kept.machine

-- 1 to 16 guests that can
pub record AreBootableSources (sources : List Source) : Type 0 where
  pub some : 1 ≤ length sources
  pub few : length sources ≤ 16
  pub each : All IsBootableSource sources
