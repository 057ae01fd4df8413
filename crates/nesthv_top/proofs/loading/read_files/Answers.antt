use Rattle.std.specs.Prelude.{⊤}
use Rattle.std.proofs.Common.{rules, ℕ, List, ◌≡◌, ◌∙◌, ◌++◌, [], ◌∷◌, Ok, Err, false, map, refl, ap, sym, arith}
use Rattle.command_line.specs.Seen.{file_command_seen}
use Rattle.outside.specs.Files.{Files}
use Rattle.nesthv_top.specs.Contents.{stored_of}
use Rattle.nesthv_top.specs.Loads.{source_read, IsAllRead}
use Rattle.nesthv_top.specs.Reads.{accepted_steps, frames_fault, guests_steps, report_steps, testing}
use Rattle.nesthv_top.specs.Steps.{Step}
use Rattle.nesthv_top.proofs.CommandReads.{file_frames, frames_are}
use Rattle.nesthv_top.proofs.Readings.{read_first, read_passed, read_stopped, test_read, test_refused}
use Rattle.nesthv_top.proofs.loading.read_files.Goals as goal

pub returns-in_err-guests-clause-read : goal.returns-in_err-guests-clause-read
returns-in_err-guests-clause-read g c =
    let command = file_command_seen c.args.request in
    let config = c.args.config.now in
    let guests : Files → List Step = λ f. guests_steps f 0 config.guests in
    let to_report : Files → List Step = λ f. guests f ++ report_steps command in
    let is : c.from_residual.result ≡ Err c.in_err-guests.field-0.0 = search rules in
    rw is (read_first {A = ℕ} g.S.Store to_report (λ f. testing (frames_fault (file_frames f config)) ∷ []) (λ f. accepted_steps f command (Ok config)) 33 33 (λ f none. ⊤) _
    c.in_err-guests.field-0.0 _ _ _ _ (omega arith) (λ f told. refl)
    (read_first g.S.Store guests (λ f. report_steps command) to_report 32 33 _ _ c.in_err-guests.field-0.0 _ _ _ _ (omega arith) (λ f told. refl) (rw c.guests.ensures.guests at c.in_err-guests.ensures.read)))

pub returns-in_err-stored-clause-read : goal.returns-in_err-stored-clause-read
returns-in_err-stored-clause-read g c =
    let command = file_command_seen c.args.request in
    let config = c.args.config.now in
    let guests : Files → List Step = λ f. guests_steps f 0 config.guests in
    let to_report : Files → List Step = λ f. guests f ++ report_steps command in
    let is : c.from_residual-in_err-stored.result ≡ Err c.in_err-stored.field-0.0 = search rules in
    rw is (read_first {A = ℕ} g.S.Store to_report (λ f. testing (frames_fault (file_frames f config)) ∷ []) (λ f. accepted_steps f command (Ok config)) 33 33 (λ f none. ⊤) _
    c.in_err-stored.field-0.0 _ _ _ _ (omega arith) (λ f told. refl)
    (read_stopped g.S.Store guests (λ f. report_steps command) to_report 32 1 33 _ _ _ c.in_ok-guests.guests c.in_err-stored.field-0.0 _ _ _ _ _ _ (omega arith) (λ f told. refl)
    (rw c.guests.ensures.guests at c.in_ok-guests.ensures.read) c.in_err-stored.ensures.read))

pub returns-in-Some-clause-read : goal.returns-in-Some-clause-read
returns-in-Some-clause-read g c =
    let command = file_command_seen c.args.request in
    let config = c.args.config.now in
    let guests : Files → List Step = λ f. guests_steps f 0 config.guests in
    let to_report : Files → List Step = λ f. guests f ++ report_steps command in
    let read = rw c.guests.ensures.guests at c.in_ok-guests.ensures.read in
    let all = read_passed g.S.Store guests (λ f. report_steps command) to_report 32 1 33 _ _ (λ f stored. stored.items ≡ stored_of f command) c.in_ok-guests.guests c.in_ok-stored.stored c.in_ok-stored.stored
    _ _ _ _ _ _ (omega arith) (λ f told. refl) (λ f told. c.in_ok-stored.ensures.read.says f (read.leaves.files ∙ told)) read c.in_ok-stored.ensures.read in
    read_stopped {B = ℕ} g.S.Store to_report (λ f. testing (frames_fault (file_frames f config)) ∷ []) (λ f. accepted_steps f command (Ok config)) 33 0 33 _ _ _ c.in_ok-stored.stored _ _ _ _ _ _ _
    (omega arith) (λ f told. refl) all
    (test_refused g.S.Store false (λ f. frames_fault (file_frames f config)) (λ f none. ⊤) c.in-Some.fault _ _
    (λ f told. ap frames_fault (sym (c.all_frames-frames.ensures.frames ∙ frames_are f config c.as_slice.result.now c.spare.result
    (ap (λ guests. map source_read guests) c.as_slice.ensures.value ∙ read.says f (sym all.leaves.files ∙ told)) c.spare.ensures.spare)) ∙ sym c.frames_fault.ensures ∙ c.in-Some.is))

pub returns-clause-read : goal.returns-clause-read
returns-clause-read g c =
    let command = file_command_seen c.args.request in
    let config = c.args.config.now in
    let guests : Files → List Step = λ f. guests_steps f 0 config.guests in
    let to_report : Files → List Step = λ f. guests f ++ report_steps command in
    let read = rw c.guests.ensures.guests at c.in_ok-guests.ensures.read in
    let all = read_passed g.S.Store guests (λ f. report_steps command) to_report 32 1 33 _ _ (λ f stored. stored.items ≡ stored_of f command) c.in_ok-guests.guests c.in_ok-stored.stored c.in_ok-stored.stored
    _ _ _ _ _ _ (omega arith) (λ f told. refl) (λ f told. c.in_ok-stored.ensures.read.says f (read.leaves.files ∙ told)) read c.in_ok-stored.ensures.read in
    read_passed g.S.Store to_report (λ f. testing (frames_fault (file_frames f config)) ∷ []) (λ f. accepted_steps f command (Ok config)) 33 0 33 _ _ (λ f. IsAllRead f command config)
    c.in_ok-stored.stored c.in_ok-stored.stored _ _ _ _ _ _ _ (omega arith) (λ f told. refl)
    (λ f told. record { guests = read.says f told; stored = all.says f told }) all
    (test_read g.S.Store false (λ f. frames_fault (file_frames f config)) (λ f stored. ⊤) c.in_ok-stored.stored _ _
    (λ f told. ap frames_fault (sym (c.all_frames-frames.ensures.frames ∙ frames_are f config c.as_slice.result.now c.spare.result
    (ap (λ guests. map source_read guests) c.as_slice.ensures.value ∙ read.says f (sym all.leaves.files ∙ told)) c.spare.ensures.spare)) ∙ sym c.frames_fault.ensures ∙ c.in-None.is) (λ f told. tt))
