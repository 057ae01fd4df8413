use Rattle.std.proofs.Common.{◌≡◌, ◌-◌, ◌*◌, length, refl, ap, ◌∙◌, arith}
use Rattle.machine_defs.specs.Machine.{Machine}
use Rattle.guest_save.proofs.machine_parts.MachinePartsSnapshot.block.Goals as goal

pub overflow_mul-start : goal.overflow_mul-start
overflow_mul-start c = omega (arith, c.requires, c.len-size.ensures, c.as_slice-ram.ensures.value, ap (λ (m : Machine). length m.ram) c.self.view_is)

pub returns : goal.returns
returns c =
    let bytes : c.as_slice-ram.result.now ≡ c.args.self.now.ram = c.as_slice-ram.ensures.value ∙ ap (λ (m : Machine). m.ram) c.self.view_is in
    let count : c.min.result - c.args.number * 2097152 ≡ 2097152 = omega (arith, c.requires, c.len-size.ensures, c.as_slice-ram.ensures.len, c.min.ensures, ap length bytes) in
    rw (count, bytes) refl
