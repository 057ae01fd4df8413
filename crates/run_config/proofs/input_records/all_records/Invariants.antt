use Rattle.std.specs.Prelude.{vec_capacity, vec_len}
use Rattle.std.proofs.Common.{◌≡◌, ◌≤◌, map}
use Rattle.std.specs.List.{range_with_len}
use Rattle.run_config.specs.Records.{record_byte, moment_at}
use Rattle.run_config.proofs.input_records.all_records.Given as goal

abbrev pub invariant-loop-number : goal.invariant-loop-number
invariant-loop-number l = record {
  items : l.inputs.items ≡ map (λ number. (moment_at l.bytes number, record_byte l.bytes number)) (range_with_len 0 l.number);
  len : vec_len l.inputs ≡ l.number;
  room : l.count ≤ vec_capacity l.inputs;
}
