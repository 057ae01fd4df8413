use Rattle.std.specs.Prelude.{ℕ}

-- what a `StdConnection` holds: its reader, its writer, and the faults of each
pub record ConnectionState (R W : Type 0) : Type 0 where
  pub from : R
  pub to : W
  pub read_faults : ℕ
  pub write_faults : ℕ
