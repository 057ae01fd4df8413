use Rattle.std.specs.Prelude.{⊤}
use Rattle.std.proofs.Common.{rules, ℕ, ◌≡◌, ◌∙◌, Ok, Err, refl, arith}
use Rattle.command_line.specs.Seen.{file_command_seen}
use Rattle.run_config.specs.Accept.{accept}
use Rattle.nesthv_top.specs.declared.ends.Job.{Job}
use Rattle.nesthv_top.specs.Contents.{config_of}
use Rattle.nesthv_top.specs.Reads.{accepted_steps, config_steps, file_steps}
use Rattle.nesthv_top.proofs.CommandReads.{begins_then, first_then, job_read, passed_says, plan_read, steps_are, steps_begin, stopped_says, wanting_says}
use Rattle.nesthv_top.proofs.Readings.{read_first, read_passed, read_stopped}
use Rattle.nesthv_top.proofs.loading.load.Goals as goal

pub returns-in_err-config-clause-reads : goal.returns-in_err-config-clause-reads
returns-in_err-config-clause-reads g c =
    let command = file_command_seen c.args.request in
    let is : c.from_residual.result ≡ Err c.in_err-config.field-0.0 = search rules in
    let all = read_first {C = ℕ} g.S.Store (λ f. config_steps f command) (λ f. accepted_steps f command (accept (config_of f command))) (λ f. file_steps f command) 1 34 _ (λ f none. ⊤)
    c.in_err-config.field-0.0 _ _ _ _ (omega arith) (λ f told. steps_begin f command) c.in_err-config.ensures.read in
    rw is (stopped_says g.S.Store command c.in_err-config.field-0.0 _ _ _ all.ends c.in_err-config.ensures.first all.leaves)

pub returns-in_err-guests-clause-reads : goal.returns-in_err-guests-clause-reads
returns-in_err-guests-clause-reads g c =
    let command = file_command_seen c.args.request in
    let config = c.in_ok-config.ensures in
    let files = c.in_err-guests.ensures.read in
    let is : c.from_residual-in_err-guests.result ≡ Err c.in_err-guests.field-0.0 = search rules in
    let all = read_stopped {C = ℕ} g.S.Store (λ f. config_steps f command) (λ f. accepted_steps f command (Ok c.in_ok-config.config)) (λ f. file_steps f command) 1 33 34 _ _ (λ f none. ⊤)
    c.in_ok-config.config c.in_err-guests.field-0.0 _ _ _ _ _ _ (omega arith) (λ f told. steps_are f command c.in_ok-config.config (config.read.says f told)) config.read files in
    rw is (stopped_says g.S.Store command c.in_err-guests.field-0.0 _ _ _ all.ends
    (first_then g.S.Store command 33 _ _ c.in_err-guests.field-0.0 _ _ _ config.first config.some files.leaves) all.leaves)

pub returns-in_err-guests-clause-cause : goal.returns-in_err-guests-clause-cause
returns-in_err-guests-clause-cause g c =
    let command = file_command_seen c.args.request in
    let config = c.in_ok-config.ensures in
    let is : c.from_residual-in_err-guests.result ≡ Err c.in_err-guests.field-0.0 = search rules in
    let all = read_stopped {C = ℕ} g.S.Store (λ f. config_steps f command) (λ f. accepted_steps f command (Ok c.in_ok-config.config)) (λ f. file_steps f command) 1 33 34 _ _ (λ f none. ⊤)
    c.in_ok-config.config c.in_err-guests.field-0.0 _ _ _ _ _ _ (omega arith) (λ f told. steps_are f command c.in_ok-config.config (config.read.says f told)) config.read c.in_err-guests.ensures.read in
    rw is all.leaves.cause

pub returns-in-Ok : goal.returns-in-Ok
returns-in-Ok g c =
    let command = file_command_seen c.args.request in
    let config = c.in_ok-config.ensures in
    let files = c.in_ok-guests.ensures.read in
    let read = c.in_ok-guests.field-0 in
    let job : Job = record { config = c.in_ok-config.config; sources = c.in-Ok.sources; frames = read.frames } in
    let all = read_passed {C = ℕ} g.S.Store (λ f. config_steps f command) (λ f. accepted_steps f command (Ok c.in_ok-config.config)) (λ f. file_steps f command) 1 33 34 _ _ (λ f none. ⊤)
    c.in_ok-config.config read 0 _ _ _ _ _ _ (omega arith) (λ f told. steps_are f command c.in_ok-config.config (config.read.says f told)) (λ f told. tt) config.read files in
    record {
      reads = passed_says g.S.Store command 0 _ _ _ all.ends (begins_then g.S.Store command _ _ _ _ _ config.first files.leaves.answers) all.leaves;
      cause = tt;
      passed = record { steps = all.ends; answered = all.leaves.answers; some = omega (arith, config.some, files.leaves.numbers.0) };
      loaded = record {
        plan = λ f told. plan_read f command job read (config.read.says f told) (files.says f (config.read.leaves.files ∙ told)) (all.ends f told).fault c.in-Ok.ensures;
        stored = λ f told. (files.says f (config.read.leaves.files ∙ told)).stored;
        job = job_read job read config.limits c.in_ok-guests.ensures.tested c.in-Ok.ensures refl;
        guest = config.guest;
      };
    }

pub returns-in-Err-clause-reads : goal.returns-in-Err-clause-reads
returns-in-Err-clause-reads g c =
    let command = file_command_seen c.args.request in
    let config = c.in_ok-config.ensures in
    let files = c.in_ok-guests.ensures.read in
    let all = read_passed {C = ℕ} g.S.Store (λ f. config_steps f command) (λ f. accepted_steps f command (Ok c.in_ok-config.config)) (λ f. file_steps f command) 1 33 34 _ _ (λ f none. ⊤)
    c.in_ok-config.config c.in_ok-guests.field-0 0 _ _ _ _ _ _ (omega arith) (λ f told. steps_are f command c.in_ok-config.config (config.read.says f told)) (λ f told. tt) config.read files in
    rw c.no_memory.ensures (wanting_says g.S.Store command _ _ _
    (record { steps = all.ends; answered = all.leaves.answers; some = omega (arith, config.some, files.leaves.numbers.0) })
    (passed_says g.S.Store command 0 _ _ _ all.ends (begins_then g.S.Store command _ _ _ _ _ config.first files.leaves.answers) all.leaves))
