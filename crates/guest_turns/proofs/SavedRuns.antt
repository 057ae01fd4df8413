-- The runs of sources: what a host does not keep of a machine that can be saved holds of each machine that they
-- come to, while its steps are few.
use Rattle.std.specs.List.{All}
use Rattle.std.proofs.Common.{ℕ, ◌^◌, ◌≤◌, Bool, length, arith}
use Rattle.std.proofs.lemmas.List.Elements.{All-weaker}
use Rattle.arch_defs.specs.declared.cached.Entry.{Entry}
use Rattle.arch_defs.specs.declared.roots.GuestMode.TheVariants.{Sv39x4, Sv48x4}
use Rattle.arch_defs.specs.declared.roots.GuestRoot.{GuestRoot}
use Rattle.arch_defs.specs.declared.roots.GuestRoot.TheVariants.{Bare, Table}
use Rattle.arch_defs.specs.Spaces.{Space}
use Rattle.guest_save.specs.Savable.{IsSavable, IsSavableEntry, IsSavableSpace}
use Rattle.guest_save.proofs.GoingOn.{savable_goes_on}
use Rattle.guest_save.proofs.KeptSizes.{sizes_stay}
use Rattle.machine_defs.specs.Machine.{Machine}
use Rattle.machine_defs.specs.Runs.{run}
use Rattle.fill_laws.specs.EachEntry.{EachEntry}
use Rattle.run_laws.specs.Keys.{HaveKeys, IsKey}
use Rattle.fill_laws.specs.GivenEntries.{IsOfTable}
use Rattle.run_laws.proofs.FirstKeys.{first_stays, first_stays_storable}
use Rattle.run_laws.proofs.Keys.{keys_stay, tables_stay}
use Rattle.guest_turns.specs.declared.sources.Source.{Source}
use Rattle.guest_turns.specs.Saving.{MayBeSaved}
use Rattle.guest_turns.specs.Sources.{IsBootableSource, machine_of_source}
use Rattle.guest_turns.proofs.Savables.{savable}

-- the spaces of a machine that can be saved are for values that name tables, and have what such tables give
key_of : (size room : ℕ) (device : Bool) (s : Space) → IsSavableSpace size room device s → IsKey s.key
key_of size room device s is = record { stored = is.key.stored; table = is.key.table }

keys_of : (m : Machine) → IsSavable m → HaveKeys m.spaces
keys_of m is = All-weaker (IsSavableSpace (length m.ram) m.entry_room m.device) (λ (s : Space). IsKey s.key)
    (key_of (length m.ram) m.entry_room m.device) m.spaces is.spaces

entry_of_table : (key : GuestRoot) (size : ℕ) (device : Bool) (e : Entry) → IsSavableEntry key size device e → IsOfTable key e
entry_of_table Bare size device e is = absurd (omega (arith, is.page))
entry_of_table (Table Sv39x4 vmid ppn) size device e is = (is.page, omega (arith, is.level))
entry_of_table (Table Sv48x4 vmid ppn) size device e is = (is.page, omega (arith, is.level))

entries_of_table : (size room : ℕ) (device : Bool) (s : Space) → IsSavableSpace size room device s → All (IsOfTable s.key) s.entries
entries_of_table size room device s is =
    All-weaker (IsSavableEntry s.key size device) (IsOfTable s.key) (entry_of_table s.key size device) s.entries is.entries

tables_of : (m : Machine) → IsSavable m → EachEntry IsOfTable m.spaces
tables_of m is = All-weaker (IsSavableSpace (length m.ram) m.entry_room m.device) (λ (s : Space). All (IsOfTable s.key) s.entries)
    (entries_of_table (length m.ram) m.entry_room m.device) m.spaces is.spaces

-- and a run keeps all that is asked, but that its steps are few
run_of : (m : Machine) (n : ℕ) → IsSavable m → (run m n).platform.steps ≤ 2 ^ 60 → MayBeSaved (run m n)
run_of m n is few = let on = savable_goes_on m is in record {
  sizes = sizes_stay m n on.caches on.reserves is.sizes;
  steps = few;
  keys = keys_stay m n is.virt (keys_of m is);
  tables = tables_stay m n on.orderly (tables_of m is);
  first = first_stays m n is.first;
  storable = first_stays_storable m n is.virt is.storable;
}

pub may_be_saved : (s : Source) (n : ℕ) → IsBootableSource s → (run (machine_of_source s) n).platform.steps ≤ 2 ^ 60
    → MayBeSaved (run (machine_of_source s) n)
may_be_saved s n is few = run_of (machine_of_source s) n (savable s is) few

-- so at its start
pub savable_source : (s : Source) → IsBootableSource s → MayBeSaved (machine_of_source s)
unfolding run
savable_source s is = may_be_saved s 0 is (savable s is).steps
