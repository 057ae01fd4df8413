use Rattle.std.proofs.Common.{rules, ◌≡◌, Err}
use Rattle.nesthv_top.specs.Contents.{content, records_most}
use Rattle.nesthv_top.specs.Reads.{ask, records_fault}
use Rattle.nesthv_top.proofs.Readings.{ask_stopped}
use Rattle.nesthv_top.proofs.loading.read_records.Goals as goal

pub returns-in_err-bytes-clause-read : goal.returns-in_err-bytes-clause-read
returns-in_err-bytes-clause-read g c =
    let name = c.in-File.name in
    let is : c.from_residual.result ≡ Err c.in_err-bytes.field-0.0 = search rules in
    rw (c.in-File.is, is) (ask_stopped g.S.Store (ask name records_most) (λ f. records_fault c.args.guest (content f name records_most)) _ c.in_err-bytes.field-0.0 _ _ _ _
    (rw c.as_str.ensures at c.in_err-bytes.ensures.read) c.in_err-bytes.ensures.leaves)
