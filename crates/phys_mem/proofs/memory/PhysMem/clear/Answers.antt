use Rattle.std.proofs.Common.{◌∙◌, ◌≤◌, ◌+◌, ap, length, refl, rules, arith}
use Rattle.arch_defs.specs.Memory.{pasted, zeros}
use Rattle.arch_defs.proofs.Pastes.{length_pasted}
use Rattle.phys_mem.proofs.FrameBytes.{size_is}
use Rattle.phys_mem.proofs.PiecesLaid.{cleared_none, cleared_more}
use Rattle.phys_mem.proofs.memory.PhysMem.clear.Goals as goal
use Rattle.arch_defs.proofs.Images.{length_zeros}

pub loop-done-init : goal.loop-done-init
loop-done-init c = record { within = omega arith; size = refl; cleared = cleared_none c.args.self.now c.args.at }

pub overflow_add-place : goal.overflow_add-place
overflow_add-place c = omega (arith, c.self.inside.frames.ok.0, c.self.invariant.1, size_is 4096 c.self.inside.frames.items c.args.self.now (omega arith) c.self.invariant.0 c.self.view_is)

pub loop-done-preserved : goal.loop-done-preserved
loop-done-preserved c =
    let part : c.loop-done.done + c.min-part.result ≤ c.args.count = search rules in
    record {
      within = part;
      size =
          ap length c.clear_within.ensures
          ∙ (length_pasted c.loop-done.self (c.args.at + c.loop-done.done) (zeros c.min-part.result) (omega (arith, length_zeros c.min-part.result, c.loop-done.invariant.size))
          ∙ c.loop-done.invariant.size);
      cleared =
          c.clear_within.ensures
          ∙ (ap (λ bytes. pasted bytes (c.args.at + c.loop-done.done) (zeros c.min-part.result)) c.loop-done.invariant.cleared
          ∙ cleared_more c.args.self.now c.args.at c.loop-done.done c.min-part.result (omega arith));
    }
