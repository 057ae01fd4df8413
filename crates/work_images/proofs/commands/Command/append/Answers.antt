use Rattle.std.proofs.Common.{ap, ◌∙◌, ◌++◌}
use Rattle.work_images.proofs.Drawing.{command_appended}
use Rattle.work_images.proofs.commands.Command.append.Goals as goal

pub returns : goal.returns
returns c =
    let old = c.args.bytes.now.items in
    let b1 = c.extend_from_slice.new.self.items in
    let b2 = c.extend_from_slice-2.new.self.items in
    let b3 = c.extend_from_slice-3.new.self.items in
    command_appended c.args.self.now old b1 b2 b3 c.extend_from_slice-4.new.self.items
    (c.in_ok-extend_from_slice.ensures.items ∙ ap (λ b. old ++ b) c.to_le_bytes.ensures)
    (c.in_ok-extend_from_slice-2.ensures.items ∙ ap (λ b. b1 ++ b) c.to_le_bytes-2.ensures)
    (c.in_ok-extend_from_slice-3.ensures.items ∙ ap (λ b. b2 ++ b) c.to_le_bytes-3.ensures)
    (c.in_ok-extend_from_slice-4.ensures.items ∙ ap (λ b. b3 ++ b) c.to_le_bytes-4.ensures)
