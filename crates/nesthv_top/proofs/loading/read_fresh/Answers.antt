use Rattle.std.proofs.Common.{rules, ◌≡◌, ◌∙◌, [], ◌∷◌, Err, refl, arith}
use Rattle.run_config.specs.declared.guests.Origin.TheVariants.{Fresh}
use Rattle.nesthv_top.specs.Contents.{source_by}
use Rattle.nesthv_top.specs.Loads.{source_read}
use Rattle.nesthv_top.specs.Reads.{fresh_steps, image_step, input_steps}
use Rattle.nesthv_top.proofs.Readings.{read_first, read_passed, read_stopped}
use Rattle.nesthv_top.proofs.loading.read_fresh.Goals as goal

pub returns-in_err-image-clause-read : goal.returns-in_err-image-clause-read
returns-in_err-image-clause-read g c =
    let fresh = c.args.fresh.now in
    let is : c.from_residual.result ≡ Err c.in_err-image.field-0.0 = search rules in
    rw is (read_first g.S.Store (λ f. image_step f c.args.guest fresh ∷ []) (λ f. input_steps f c.args.guest fresh.input) (λ f. fresh_steps f c.args.guest fresh) 1 2 _ _
    c.in_err-image.field-0.0 _ _ _ _ (omega arith) (λ f told. refl) c.in_err-image.ensures.read)

pub returns-in_err-records-clause-read : goal.returns-in_err-records-clause-read
returns-in_err-records-clause-read g c =
    let fresh = c.args.fresh.now in
    let is : c.from_residual-in_err-records.result ≡ Err c.in_err-records.field-0.0 = search rules in
    rw is (read_stopped g.S.Store (λ f. image_step f c.args.guest fresh ∷ []) (λ f. input_steps f c.args.guest fresh.input) (λ f. fresh_steps f c.args.guest fresh) 1 1 2 _ _ _
    c.in_ok-image.image c.in_err-records.field-0.0 _ _ _ _ _ _ (omega arith) (λ f told. refl) c.in_ok-image.ensures.read c.in_err-records.ensures.read)

pub returns-clause-read : goal.returns-clause-read
returns-clause-read g c =
    let fresh = c.args.fresh.now in
    let image = c.in_ok-image.ensures.read in
    let records = c.in_ok-records.ensures.read in
    read_passed g.S.Store (λ f. image_step f c.args.guest fresh ∷ []) (λ f. input_steps f c.args.guest fresh.input) (λ f. fresh_steps f c.args.guest fresh) 1 1 2 _ _ (λ f read. source_read read ≡ source_by f c.args.name.now (Fresh fresh))
    c.in_ok-image.image c.in_ok-records.records _ _ _ _ _ _ _ (omega arith) (λ f told. refl) (λ f told. rw (image.says f told, records.says f (image.leaves.files ∙ told)) refl) image records
