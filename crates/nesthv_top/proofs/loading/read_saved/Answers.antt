use Rattle.std.specs.Prelude.{⊤}
use Rattle.std.proofs.Common.{rules, ℕ, ◌≡◌, ◌∙◌, [], ◌∷◌, Err, None, true, refl, ap, sym, arith}
use Rattle.outside.specs.Files.{Files}
use Rattle.run_config.specs.Faults as fault
use Rattle.nesthv_top.specs.Contents.{resumed_of, saved_most, saved_of}
use Rattle.nesthv_top.specs.Reads.{ask, making, reading, saved_fault, saved_steps}
use Rattle.nesthv_top.proofs.GuestReads.{saved_bad, saved_good}
use Rattle.nesthv_top.proofs.Readings.{ask_read, ask_stopped, read_first, read_passed, read_stopped, test_read, test_refused, test_short}
use Rattle.nesthv_top.proofs.loading.read_saved.Goals as goal

pub returns-in_err-bytes-clause-read : goal.returns-in_err-bytes-clause-read
returns-in_err-bytes-clause-read g c =
    let name = c.args.name.now in
    let is : c.from_residual.result ≡ Err c.in_err-bytes.field-0.0 = search rules in
    rw is (read_first {A = ℕ} g.S.Store (λ f. reading (ask name saved_most) None ∷ []) (λ f. making (saved_fault c.args.guest (saved_of f name)) ∷ []) (λ f. saved_steps f c.args.guest name) 1 1
    (λ f bytes. ⊤) _ c.in_err-bytes.field-0.0 _ _ _ _ (omega arith) (λ f told. refl)
    (ask_stopped g.S.Store (ask name saved_most) (λ f. None) _ c.in_err-bytes.field-0.0 _ _ _ _ (rw c.as_str.ensures at c.in_err-bytes.ensures.read) c.in_err-bytes.ensures.leaves))

pub returns-in-Ok-clause-read : goal.returns-in-Ok-clause-read
returns-in-Ok-clause-read g c =
    let name = c.args.name.now in
    let read = c.in_ok-bytes.ensures in
    let bytes = ask_read g.S.Store (ask name saved_most) (λ f. None) (λ f v. v ≡ saved_of f name) c.in_ok-bytes.bytes c.in_ok-bytes.bytes.items _ _ _ _ (rw c.as_str.ensures at read.read) read.leaves
    (λ f told. refl) (λ f told. rw c.as_str.ensures at (read.bytes f told)) in
    read_passed g.S.Store (λ f. reading (ask name saved_most) None ∷ []) (λ f. making (saved_fault c.args.guest (saved_of f name)) ∷ []) (λ f. saved_steps f c.args.guest name) 1 0 1
    _ _ (λ f saved. saved ≡ resumed_of f name) c.in_ok-bytes.bytes.items c.in-Ok.saved c.in-Ok.saved _ _ _ _ _ _ (omega arith) (λ f told. refl)
    (λ f told. search (rules, rw c.as_str.ensures at (read.bytes f told))) bytes
    (test_read g.S.Store true (λ f. saved_fault c.args.guest (saved_of f name)) (λ f saved. ⊤) c.in-Ok.saved _ _
    (λ f told. saved_good c.args.guest (saved_of f name) (rw (c.as_slice.ensures.value, bytes.says f (sym bytes.leaves.files ∙ told)) at c.in-Ok.ensures.tested)) (λ f told. tt))

pub returns-in-Err-Bad-clause-read : goal.returns-in-Err-Bad-clause-read
returns-in-Err-Bad-clause-read g c =
    let name = c.args.name.now in
    let read = c.in_ok-bytes.ensures in
    let bytes = ask_read g.S.Store (ask name saved_most) (λ f. None) (λ f v. v ≡ saved_of f name) c.in_ok-bytes.bytes c.in_ok-bytes.bytes.items _ _ _ _ (rw c.as_str.ensures at read.read) read.leaves
    (λ f told. refl) (λ f told. rw c.as_str.ensures at (read.bytes f told)) in
    rw c.saved.ensures
    (read_stopped {B = ℕ} g.S.Store (λ f. reading (ask name saved_most) None ∷ []) (λ f. making (saved_fault c.args.guest (saved_of f name)) ∷ []) (λ f. saved_steps f c.args.guest name) 1 0 1
    _ _ _ c.in_ok-bytes.bytes.items _ _ _ _ _ _ _ (omega arith) (λ f told. refl) bytes
    (test_refused g.S.Store true (λ f. saved_fault c.args.guest (saved_of f name)) (λ f none. ⊤) (fault.saved c.args.guest) _ _
    (λ f told. saved_bad c.args.guest (saved_of f name)
    (rw (c.as_slice.ensures.value, bytes.says f (sym bytes.leaves.files ∙ told)) at (c.read-2.ensures.refused (c.in-Err-Bad.is ∙ ap Err c.in-Err-Bad.field-0-is))))))

pub returns-clause-read : goal.returns-clause-read
returns-clause-read g c =
    let name = c.args.name.now in
    let read = c.in_ok-bytes.ensures in
    let bytes = ask_read g.S.Store (ask name saved_most) (λ f. None) (λ f v. v ≡ saved_of f name) c.in_ok-bytes.bytes c.in_ok-bytes.bytes.items _ _ _ _ (rw c.as_str.ensures at read.read) read.leaves
    (λ f told. refl) (λ f told. rw c.as_str.ensures at (read.bytes f told)) in
    rw c.no_memory.ensures
    (read_stopped {B = ℕ} g.S.Store (λ f. reading (ask name saved_most) None ∷ []) (λ f. making (saved_fault c.args.guest (saved_of f name)) ∷ []) (λ f. saved_steps f c.args.guest name) 1 0 1
    _ _ _ c.in_ok-bytes.bytes.items _ _ _ _ _ _ _ (omega arith) (λ f told. refl) bytes (test_short g.S.Store (λ f. saved_fault c.args.guest (saved_of f name)) (λ f none. ⊤) _ _))
