-- What runs keep of spaces: each is for a value of hgatp that names a table, and has what such a table gives.
use Rattle.std.specs.Prelude.{ℕ, ◌≡◌, true, List}
use Rattle.std.specs.List.{All}
use Rattle.arch_defs.specs.declared.roots.GuestRoot.{GuestRoot}
use Rattle.arch_defs.specs.CsrBits.{guest_root_of, hgatp_bits}
use Rattle.arch_defs.specs.Roots.{is_table}
use Rattle.arch_defs.specs.Spaces.{Space}
use Rattle.guest_settings.specs.declared.guests.GuestSpec.{GuestSpec}
use Rattle.machine_defs.specs.Machine.{Machine, start}
use Rattle.machine_defs.specs.Runs.{run}
use Rattle.fill_laws.specs.EachEntry.{EachEntry}
use Rattle.fill_laws.specs.Keeping.{IsOrderly}
use Rattle.run_laws.specs.StorableStates.{IsStorable}
use Rattle.fill_laws.specs.GivenEntries.{IsOfTable}

-- a value that hgatp can store and that names a table (Privileged Architecture 20211203, 8.2.10)
pub record IsKey (key : GuestRoot) : Type 0 where
  pub stored : guest_root_of (hgatp_bits key) ≡ key
  pub table : is_table key ≡ true

-- each space is for such a value
abbrev pub HaveKeys : List Space → Type 0
HaveKeys spaces = All (λ s. IsKey s.key) spaces

-- a guest's machine has no spaces at its start, so both hold of it
abbrev pub StartHasKeys : Type 0
StartHasKeys = (guest : GuestSpec) → HaveKeys (start guest).spaces × EachEntry IsOfTable (start guest).spaces

-- each stays so in a run: the keys, where registers hold what they can store, and the entries, where the
-- machine is orderly
abbrev pub RunKeepsKeys : Type 0
RunKeepsKeys = (m : Machine) (n : ℕ) → IsStorable m.platform.virt → HaveKeys m.spaces
    → HaveKeys (run m n).spaces

abbrev pub RunKeepsTables : Type 0
RunKeepsTables = (m : Machine) (n : ℕ) → IsOrderly m → EachEntry IsOfTable m.spaces
    → EachEntry IsOfTable (run m n).spaces
