use Rattle.std.proofs.Common.{◌∙◌, refl}
use Rattle.guest_save.specs.Reading.{first_entry_in}
use Rattle.guest_save.proofs.Parsing.{left_then, none_read, one_read}
use Rattle.guest_save.proofs.first_entries.first_entries_in.Goals as goal

pub loop-i-init : goal.loop-i-init
loop-i-init c = record { read = c.in_ok-entries.ensures.items ∙ none_read first_entry_in 48 c.args.bytes.now; rest = refl }

pub loop-i-preserved : goal.loop-i-preserved
loop-i-preserved c = record {
  read = one_read first_entry_in 48 c.loop-i.entries.items c.push.new.self.items c.loop-i.i c.args.bytes.now c.loop-i.rest.now c.first_entry_in.result
      c.loop-i.invariant.read c.loop-i.invariant.rest c.first_entry_in.ensures c.in_ok-push.ensures.items;
  rest = left_then first_entry_in 48 c.loop-i.i c.args.bytes.now c.loop-i.rest.now c.after-rest.result.now c.loop-i.invariant.rest c.after-rest.ensures;
}
