-- What the code has of guests, as the definitions see it.
use Rattle.std.specs.Prelude.{ℕ, List, map, String}
use Rattle.std.specs.Borrow.{Bor}
use Rattle.std.specs.BTreeMap.{BTreeMap}
use Rattle.std.specs.declared.alloc.Global.{Global}
use Rattle.toml.specs.View.{table_view}
use Rattle.toml.specs.declared.value.Value.{Value}
use Rattle.toml.specs.Data.{Members}
use Rattle.run_config.specs.declared.guests.GuestSettings.{GuestSettings}

-- the names of guests
abbrev pub names_of : List GuestSettings → List (List ℕ)
names_of guests = map (λ g. g.name) guests

-- the tables that these references point to
abbrev pub tables_seen : List (Bor (BTreeMap (String Global) Value)) → List Members
tables_seen tables = map (λ t. table_view t.now) tables
