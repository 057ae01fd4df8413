-- The machines of a host that can be saved (own).
use Rattle.std.specs.Prelude.{◌≤◌, ◌^◌, length}
use Rattle.guest_save.specs.Headers.{header_of}
use Rattle.guest_save.specs.Savable.{HasSizes}
use Rattle.machine_defs.specs.Machine.{Machine}
use Rattle.fill_laws.specs.EachEntry.{EachEntry}
use Rattle.run_laws.specs.FirstKeys.{AreStorable, HasFirst}
use Rattle.run_laws.specs.Keys.{HaveKeys}
use Rattle.fill_laws.specs.GivenEntries.{IsOfTable}

-- what a machine has that can be saved, beside what a host keeps of it: sizes within the limits; few steps;
-- spaces for values of hgatp that can be stored and name a table, whose entries such a table can give; and
-- first-stage translations that are few, apart, and such as tables give, for values of registers that can be
-- stored. Each holds of a machine that goes on from a source, and stays so in its runs, the steps while they
-- are few
pub record MayBeSaved (m : Machine) : Type 0 where
  pub sizes : HasSizes (header_of m) (length m.ram)
  pub steps : m.platform.steps ≤ 2 ^ 60
  pub keys : HaveKeys m.spaces
  pub tables : EachEntry IsOfTable m.spaces
  pub first : HasFirst m.platform.virt.first
  pub storable : AreStorable m.platform.virt.first
