-- Rows one after the other.
use Rattle.std.proofs.Common.{◌≡◌, ℕ, ◌+◌, ◌<◌, ◌≤◌, List, length, drop, get_or, Option, Some, None, refl}
use Rattle.std.proofs.lemmas.List.{drop_all, drop_more}
use Rattle.toml.specs.Data.{Members}
use Rattle.run_config.specs.declared.faults.ConfigFault.{ConfigFault}
use Rattle.run_config.specs.declared.rows.Row.{Row}
use Rattle.run_config.specs.Tests.{absent_among, absent_fault, out_of_range, wrong_among}

pub key_there : (guest : Option ℕ) (t : Members) (rows : List Row) (i : ℕ) (d : Row) → i < length rows → absent_fault guest t (get_or rows i d).key ≡ None → absent_among guest t (drop i rows) ≡ absent_among guest t (drop (i + 1) rows)
key_there guest t rows i d within e = rw (drop_more rows i d within, e) refl

pub key_absent : (guest : Option ℕ) (t : Members) (rows : List Row) (i : ℕ) (d : Row) (f : ConfigFault) → i < length rows → absent_fault guest t (get_or rows i d).key ≡ Some f → absent_among guest t (drop i rows) ≡ Some f
key_absent guest t rows i d f within e = rw (drop_more rows i d within, e) refl

pub no_key : (guest : Option ℕ) (t : Members) (rows : List Row) (i : ℕ) → length rows ≤ i → absent_among guest t (drop i rows) ≡ None
no_key guest t rows i past = rw (drop_all i rows past) refl

pub value_fits : (guest : Option ℕ) (t : Members) (rows : List Row) (i : ℕ) (d : Row) → i < length rows → out_of_range guest t (get_or rows i d) ≡ None → wrong_among guest t (drop i rows) ≡ wrong_among guest t (drop (i + 1) rows)
value_fits guest t rows i d within e = rw (drop_more rows i d within, e) refl

pub value_wrong : (guest : Option ℕ) (t : Members) (rows : List Row) (i : ℕ) (d : Row) (f : ConfigFault) → i < length rows → out_of_range guest t (get_or rows i d) ≡ Some f → wrong_among guest t (drop i rows) ≡ Some f
value_wrong guest t rows i d f within e = rw (drop_more rows i d within, e) refl

pub no_value : (guest : Option ℕ) (t : Members) (rows : List Row) (i : ℕ) → length rows ≤ i → wrong_among guest t (drop i rows) ≡ None
no_value guest t rows i past = rw (drop_all i rows past) refl

pub ruleset rows = (key_there, key_absent, value_fits, value_wrong)
