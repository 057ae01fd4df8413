use Rattle.std.proofs.Common.{◌≡◌, None, rules, arith}
use Rattle.run_config.specs.Records.{bad_record}
use Rattle.run_config.proofs.Recording.{records_within}
use Rattle.run_config.proofs.input_records.inputs.Goals as goal

pub returns-clause-within : goal.returns-clause-within
returns-clause-within c =
    let passed : bad_record c.args.bytes.now ≡ None = search rules in
    rw c.in_ok-all_records.ensures (records_within c.args.bytes.now (λ k. omega (arith, c.type_inv.bytes k)) passed)
