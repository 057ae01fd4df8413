use Rattle.std.proofs.Common.{◌≡◌, ap, ◌∙◌}
use Rattle.rv64_asm.specs.Plans.{empty_plan}
use Rattle.work_images.specs.Lines.{with_all_lines}
use Rattle.work_images.specs.Program.{setup, serving, handler, nested, letters}
use Rattle.work_images.proofs.Parts.{can_add_part, next_part, whole, setup_adds, serving_adds, handler_adds, nested_adds}
use Rattle.work_images.proofs.program.add_program.Goals as goal

pub add_all-requires : goal.add_all-requires
add_all-requires c = can_add_part empty_plan c.args.image.now c.setup.result setup c.requires c.setup.ensures setup_adds

pub add_all-requires-2 : goal.add_all-requires-2
add_all-requires-2 c = can_add_part (with_all_lines empty_plan setup) c.add_all.new.image c.serving.result serving
    (next_part empty_plan c.args.image.now c.add_all.new.image c.setup.result setup c.requires c.setup.ensures c.in_ok-add_all.ensures)
    c.serving.ensures serving_adds

pub add_all-requires-3 : goal.add_all-requires-3
add_all-requires-3 c = can_add_part (with_all_lines (with_all_lines empty_plan setup) serving) c.add_all-2.new.image c.handler.result handler
    (next_part (with_all_lines empty_plan setup) c.add_all.new.image c.add_all-2.new.image c.serving.result serving
    (next_part empty_plan c.args.image.now c.add_all.new.image c.setup.result setup c.requires c.setup.ensures c.in_ok-add_all.ensures)
    c.serving.ensures c.in_ok-add_all-2.ensures)
    c.handler.ensures handler_adds

pub add_all-requires-4 : goal.add_all-requires-4
add_all-requires-4 c = rw c.nested.ensures (nested_adds c.add_all-3.new.image)

pub returns : goal.returns
returns c =
    let a : c.add_all.new.image ≡ with_all_lines c.args.image.now setup = c.in_ok-add_all.ensures ∙ ap (with_all_lines c.args.image.now) c.setup.ensures in
    let b = next_part (with_all_lines c.args.image.now setup) c.add_all.new.image c.add_all-2.new.image c.serving.result serving a
    c.serving.ensures c.in_ok-add_all-2.ensures in
    let d = next_part _ c.add_all-2.new.image c.add_all-3.new.image c.handler.result handler b c.handler.ensures c.in_ok-add_all-3.ensures in
    let e = next_part _ c.add_all-3.new.image c.add_all-4.new.image c.nested.result nested d c.nested.ensures c.in_ok-add_all-4.ensures in
    c.in_ok-add_letters.ensures ∙ ap (λ p. with_all_lines p letters) e ∙ whole c.args.image.now
