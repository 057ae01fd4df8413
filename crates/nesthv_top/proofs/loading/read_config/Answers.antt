use Rattle.std.proofs.Common.{rules, ◌≡◌, ◌∙◌, ◌+◌, Err, ap, arith, sym}
use Rattle.nesthv_top.specs.declared.ends.LoadEnd.TheVariants.{NoMemory}
use Rattle.command_line.specs.Seen.{file_command_seen}
use Rattle.nesthv_top.proofs.CommandReads.{config_lacks_guest, config_passed, config_refused, config_short, config_stopped, left_as, left_first, left_refused, left_short, text_tested}
use Rattle.nesthv_top.proofs.loading.read_config.Goals as goal

pub returns-in_err-bytes-clause-read : goal.returns-in_err-bytes-clause-read
returns-in_err-bytes-clause-read g c =
    let is : c.from_residual.result ≡ Err c.in_err-bytes.field-0.0 = search rules in
    rw is (record {
      ends = λ files told.
          config_stopped files (file_command_seen c.args.request) c.in_err-bytes.field-0.0 (g.S.Store.asked c.args.store.now) (g.S.Store.asked c.read.new.store)
          (rw (c.requires.none, c.config_name.ensures) at c.in_err-bytes.ensures.read);
      says = λ files told. tt;
      leaves = left_first g.S.Store 1 1 c.in_err-bytes.field-0.0 _ _ _ _ (omega arith) (rw c.requires.none at c.in_err-bytes.ensures.leaves);
    })

pub returns-in-None-clause-read : goal.returns-in-None-clause-read
returns-in-None-clause-read g c = record {
  ends = λ files told.
      let read = c.in_ok-bytes.ensures in
      let bytes = rw c.config_name.ensures at (read.bytes files told) in
      let text = text_tested c.in_ok-bytes.bytes.items c.read-2.result (rw c.as_slice.ensures.value at c.read-2.ensures.too_long) (rw c.as_slice.ensures.value at c.read-2.ensures.no_text) in
      config_passed files (file_command_seen c.args.request) c.in-Ok.config c.read-2.result c.in-Ok.config c.read.new.self.made (g.S.Store.asked c.args.store.now) (g.S.Store.asked c.read.new.store)
      (rw bytes at text) c.in-Ok.is (rw (c.as_slice.ensures.value, bytes) at c.in-Ok.ensures.accepted) (sym c.guest_fault.ensures ∙ c.in-None.is)
      (rw (c.requires.none, c.config_name.ensures) at read.read);
  says = λ files told. rw (c.as_slice.ensures.value, rw c.config_name.ensures at (c.in_ok-bytes.ensures.bytes files told)) at c.in-Ok.ensures.accepted;
  leaves = left_as g.S.Store 1 c.in_ok-bytes.bytes _ _ _ _ _ (rw c.requires.none at c.in_ok-bytes.ensures.leaves);
}

pub returns-in-Ok-clause-read : goal.returns-in-Ok-clause-read
returns-in-Ok-clause-read g c = record {
  ends = λ files told.
      let read = c.in_ok-bytes.ensures in
      let bytes = rw c.config_name.ensures at (read.bytes files told) in
      let text = text_tested c.in_ok-bytes.bytes.items c.read-2.result (rw c.as_slice.ensures.value at c.read-2.ensures.too_long) (rw c.as_slice.ensures.value at c.read-2.ensures.no_text) in
      config_lacks_guest files (file_command_seen c.args.request) c.in-Ok.config c.in-Some.fault c.read-2.result c.in-Ok.config c.read.new.self.made (g.S.Store.asked c.args.store.now)
      (g.S.Store.asked c.read.new.store) (rw bytes at text) c.in-Ok.is (rw (c.as_slice.ensures.value, bytes) at c.in-Ok.ensures.accepted) (sym c.guest_fault.ensures ∙ c.in-Some.is)
      (rw (c.requires.none, c.config_name.ensures) at read.read);
  says = λ files told. tt;
  leaves = left_refused g.S.Store 1 c.in_ok-bytes.bytes _ _ _ _ _ (rw c.requires.none at c.in_ok-bytes.ensures.leaves);
}

pub returns-in-Err-Refused-clause-read : goal.returns-in-Err-Refused-clause-read
returns-in-Err-Refused-clause-read g c = record {
  ends = λ files told.
      let read = c.in_ok-bytes.ensures in
      let bytes = rw c.config_name.ensures at (read.bytes files told) in
      let text = text_tested c.in_ok-bytes.bytes.items c.read-2.result (rw c.as_slice.ensures.value at c.read-2.ensures.too_long) (rw c.as_slice.ensures.value at c.read-2.ensures.no_text) in
      config_refused files (file_command_seen c.args.request) c.in-Err-Refused.fault c.read-2.result (g.S.Store.asked c.args.store.now) (g.S.Store.asked c.read.new.store)
      (rw bytes at text) (c.in-Err-Refused.is ∙ ap Err c.in-Err-Refused.field-0-is)
      (rw (c.as_slice.ensures.value, bytes) at (rw c.in-Err-Refused.field-0-is at c.in-Err-Refused.ensures.refused)) (rw c.config_name.ensures at read.read).1;
  says = λ files told. tt;
  leaves = left_refused g.S.Store 1 c.in_ok-bytes.bytes _ _ _ _ _ (rw c.requires.none at c.in_ok-bytes.ensures.leaves);
}

pub returns-clause-read : goal.returns-clause-read
returns-clause-read g c = record {
  ends = λ files told.
      let read = c.in_ok-bytes.ensures in
      let bytes = rw c.config_name.ensures at (read.bytes files told) in
      let text = text_tested c.in_ok-bytes.bytes.items c.read-2.result (rw c.as_slice.ensures.value at c.read-2.ensures.too_long) (rw c.as_slice.ensures.value at c.read-2.ensures.no_text) in
      let is : c.no_memory.result ≡ NoMemory 1 = c.no_memory.ensures ∙ ap NoMemory (read.read.0 ∙ ap (λ n. n + 1) c.requires.none) in
      rw is (config_short files (file_command_seen c.args.request) c.read-2.result (g.S.Store.asked c.args.store.now) (g.S.Store.asked c.read.new.store)
      (rw bytes at text) (c.in-Err-NoMemory.is ∙ ap Err c.in-Err-NoMemory.field-0-is) (rw c.config_name.ensures at read.read).1);
  says = λ files told. tt;
  leaves = rw c.no_memory.ensures (left_short g.S.Store 1 c.in_ok-bytes.bytes _ _ _ _ (rw c.requires.none at c.in_ok-bytes.ensures.leaves));
}
