use Rattle.run_config.proofs.Recording.{begins}
use Rattle.run_config.proofs.input_records.bad_record.Goals as goal

pub is_bad-requires : goal.is_bad-requires
is_bad-requires c = begins _ _ (rw c.record_count-number-end.ensures at c.loop-number-test.true)
