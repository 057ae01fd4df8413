use Rattle.std.proofs.Common.{◌≡◌, ◌≤◌}
use Rattle.run_config.specs.Records.{bad_record}
use Rattle.run_config.proofs.Recording.{rest_bad}
use Rattle.run_config.proofs.input_records.bad_record.Given as goal

abbrev pub invariant-loop-number : goal.invariant-loop-number
invariant-loop-number l = record {
  rest : bad_record l.bytes ≡ rest_bad l.bytes l.number;
  few : l.number ≤ 65536;
}
