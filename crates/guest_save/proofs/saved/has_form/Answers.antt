use Rattle.std.proofs.Common.{◌≡◌, ◌-◌, length, ap, arith}
use Rattle.guest_save.proofs.Comparing.{tells_form}
use Rattle.guest_save.proofs.ReadMachines.{ram_begins}
use Rattle.machine_defs.specs.Machine.{Machine}
use Rattle.guest_save.proofs.saved.has_form.Goals as goal

pub overflow_sub-front : goal.overflow_sub-front
overflow_sub-front c =
    omega (arith, (ram_begins c.args.version c.args.bytes.now c.args.parts.now c.requires).0, c.len.ensures, ap (λ (m : Machine). length m.ram) c.parts.view_is)

pub returns-in-Ok : goal.returns-in-Ok
returns-in-Ok c =
    let size : c.len.result ≡ length c.args.parts.now.ram = omega (arith, c.len.ensures, ap (λ (m : Machine). length m.ram) c.parts.view_is) in
    let place : length c.args.bytes.now - c.len.result ≡ length c.args.bytes.now - length c.args.parts.now.ram = omega (arith, size) in
    let tells = tells_form c.args.version c.args.parts.now c.args.bytes.now (length c.args.bytes.now - c.len.result) c.new-compare.result c.put_front.new.out c.verdict.result c.requires place
    c.new-compare.ensures c.in-Ok.ensures.bytes c.in-Ok.ensures.stays c.verdict.ensures in
    (λ h. tells.0 (c.is_same.ensures.0 h), λ whole. c.is_same.ensures.1 (tells.1 whole))
