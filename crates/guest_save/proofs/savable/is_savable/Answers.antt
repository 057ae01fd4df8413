use Rattle.std.proofs.Common.{◌≡◌, length, ap, ◌∙◌, subst, sym, arith}
use Rattle.guest_save.proofs.Testing.{savable_by}
use Rattle.guest_save.proofs.Viewing.{header_same}
use Rattle.guest_save.specs.Headers.{header_of}
use Rattle.machine_defs.specs.Machine.{Machine}
use Rattle.run_laws.specs.FirstKeys.{HasFirst}
use Rattle.guest_save.proofs.savable.is_savable.Goals as goal

pub returns : goal.returns
returns c =
    let header : header_of c.args.parts.now ≡ c.parts.inside.header = ap header_of (sym c.parts.view_is) ∙ header_same c.parts.inside c.parts.invariant in
    let ram : c.len-ram.result ≡ length c.args.parts.now.ram = omega (arith, c.len-ram.ensures, ap (λ (m : Machine). length m.ram) c.parts.view_is) in
    savable_by c.args.parts.now c.parts.inside.header c.len-ram.result c.has_spaces.result c.requires header ram c.numbers_fit.ensures.registers c.numbers_fit.ensures.pc
    c.numbers_fit.ensures.numbers (c.has_sizes.ensures.0 c.if-not-has_sizes.false) (c.has_progress.ensures.0 c.if-not-has_progress.false)
    (subst HasFirst c.first.ensures (c.has_first.ensures.0 c.if-not-has_first.false)) c.has_spaces.ensures
