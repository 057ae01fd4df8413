use Rattle.std.specs.Prelude.{◌≡◌, ℕ, ◌-◌, ◌^◌, ◌&&◌, min, Bool, List, [], length, take, nat_eq, nat_le, find, Option, is_none, option_map, unwrap_or, if◌then◌else◌, ◌++◌}
use Rattle.std.specs.List.{flat_map}
use Rattle.outside.specs.Faults.{one_more}

-- what a `ListSink` holds: its bytes and the room for them, the numbers of the puts that are to fail,
-- each with how many bytes it still takes, the puts so far, and its faults
pub record SinkState : Type 0 where
  pub bytes : List ℕ
  pub room : ℕ
  pub failing : List (ℕ × ℕ)
  pub puts : ℕ
  pub faults : ℕ

-- what a new sink holds
abbrev pub empty_sink : ℕ → SinkState
empty_sink room = record { bytes = []; room = room; failing = []; puts = 0; faults = 0 }

-- how many bytes the next put takes where it is to fail
abbrev pub failure_of : SinkState → Option ℕ
failure_of held = option_map (λ f. f.1) (find (λ f. nat_eq f.0 (one_more held.puts)) held.failing)

-- whether the next put takes the whole piece and answers Ok
abbrev pub is_taken : SinkState → List ℕ → Bool
is_taken held piece = is_none (failure_of held) && nat_le (length piece) (held.room - length held.bytes)

-- how many bytes of the piece the next put takes
abbrev pub taken_of : SinkState → List ℕ → ℕ
taken_of held piece =
    min (min (unwrap_or (failure_of held) (length piece)) (length piece)) (held.room - length held.bytes)

-- what the next put leaves
abbrev pub after_put : SinkState → List ℕ → SinkState
after_put held piece = record held {
  bytes = held.bytes ++ take (taken_of held piece) piece;
  puts = one_more held.puts;
  faults = if is_taken held piece then held.faults else one_more held.faults;
}

-- the sink's puts took these pieces: they make up its bytes, and are as many as its puts, whose count stands
-- still at its last value
pub record IsWrittenBy (held : SinkState) (pieces : List (List ℕ)) : Type 0 where
  pub bytes : held.bytes ≡ flat_map (λ piece. piece) pieces
  pub puts : held.puts ≡ min (length pieces) (2 ^ 64 - 1)
