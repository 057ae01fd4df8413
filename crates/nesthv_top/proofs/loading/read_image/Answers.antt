use Rattle.std.proofs.Common.{rules, ◌≡◌, ◌∙◌, Err, Some, length, ap, sym, arith}
use Rattle.outside.specs.Files.{Files}
use Rattle.run_config.specs.Faults as fault
use Rattle.nesthv_top.specs.Contents.{image_most, image_of}
use Rattle.nesthv_top.specs.Reads.{ask, image_fault}
use Rattle.nesthv_top.proofs.GuestReads.{image_fits, image_too_long}
use Rattle.nesthv_top.proofs.Readings.{ask_read, ask_refused, ask_stopped}
use Rattle.nesthv_top.proofs.loading.read_image.Goals as goal

pub returns-in_err-bytes-clause-read : goal.returns-in_err-bytes-clause-read
returns-in_err-bytes-clause-read g c =
    let fresh = c.args.fresh.now in
    let is : c.from_residual.result ≡ Err c.in_err-bytes.field-0.0 = search rules in
    rw is (ask_stopped g.S.Store (ask fresh.image (image_most fresh)) (λ f. image_fault c.args.guest fresh (image_of f fresh)) _ c.in_err-bytes.field-0.0 _ _ _ _
    (rw c.as_str.ensures at c.in_err-bytes.ensures.read) c.in_err-bytes.ensures.leaves)

pub returns-then-len-size-clause-read : goal.returns-then-len-size-clause-read
returns-then-len-size-clause-read g c =
    let fresh = c.args.fresh.now in
    let read = c.in_ok-bytes.ensures in
    ask_read g.S.Store (ask fresh.image (image_most fresh)) (λ f. image_fault c.args.guest fresh (image_of f fresh)) _ c.in_ok-bytes.bytes _ _ _ _ _
    (rw c.as_str.ensures at read.read) read.leaves
    (λ f told.
    let bytes = rw c.as_str.ensures at (read.bytes f told) in
    let count : length (image_of f fresh) ≡ c.len.result = omega (arith, ap length bytes, c.len.ensures, c.in_ok-bytes.bytes.ok.0) in
    image_fits c.args.guest fresh (image_of f fresh) (rw count c.if-len-size.true))
    (λ f told. search (rules, rw c.as_str.ensures at (read.bytes f told)))

pub returns-else-len-size-clause-read : goal.returns-else-len-size-clause-read
returns-else-len-size-clause-read g c =
    let fresh = c.args.fresh.now in
    let read = c.in_ok-bytes.ensures in
    ask_refused g.S.Store (ask fresh.image (image_most fresh)) (λ f. image_fault c.args.guest fresh (image_of f fresh)) _ c.in_ok-bytes.bytes _ _ _ _ _
    (rw c.as_str.ensures at read.read) read.leaves
    (λ f told.
    let bytes = rw c.as_str.ensures at (read.bytes f told) in
    let count : length (image_of f fresh) ≡ c.len.result = omega (arith, ap length bytes, c.len.ensures, c.in_ok-bytes.bytes.ok.0) in
    let told_as : length (image_of f fresh) ≡ c.len-else-len-size.result = omega (arith, ap length bytes, c.len-else-len-size.ensures, c.in_ok-bytes.bytes.ok.0) in
    image_too_long c.args.guest fresh (image_of f fresh) (rw count c.if-len-size.false) ∙ ap (λ n. Some (fault.image_long c.args.guest n)) told_as ∙ ap Some (sym c.image_long.ensures))
