use Rattle.std.proofs.Common.{◌≡◌, ℕ, ◌∙◌, ◌≤◌, ◌+◌, ◌-◌, List, ap, length, take, drop, length-drop, rules, arith}
use Rattle.std.proofs.lemmas.List.{length-take-le}
use Rattle.arch_defs.specs.Memory.{pasted}
use Rattle.arch_defs.proofs.Pastes.{length_pasted}
use Rattle.phys_mem.proofs.FrameBytes.{size_is}
use Rattle.phys_mem.proofs.PiecesLaid.{pasted_more}
use Rattle.phys_mem.proofs.memory.PhysMem.copy_in.Goals as goal

pub overflow_add-place : goal.overflow_add-place
overflow_add-place c = omega (arith, c.self.inside.frames.ok.0, c.self.invariant.1, size_is 4096 c.self.inside.frames.items c.args.self.now (omega arith) c.self.invariant.0 c.self.view_is)

pub loop-done-preserved : goal.loop-done-preserved
loop-done-preserved c =
    let more : c.loop-done.done + c.min-part.result ≤ length c.args.bytes.now = search rules in
    let same : c.loop-done.done + c.min-part.result - c.loop-done.done ≡ c.min-part.result = omega arith in
    let piece : List ℕ = take c.min-part.result (drop c.loop-done.done c.args.bytes.now) in
    let long : length piece ≡ c.min-part.result =
    length-take-le c.min-part.result (drop c.loop-done.done c.args.bytes.now) (omega (arith, length-drop c.loop-done.done c.args.bytes.now)) in
    let laid : c.paste_within.new.self ≡ pasted c.loop-done.self (c.args.at + c.loop-done.done) piece =
    c.paste_within.ensures ∙ ap (λ n. pasted c.loop-done.self (c.args.at + c.loop-done.done) (take n (drop c.loop-done.done c.args.bytes.now))) same in
    record {
      within = more;
      size =
          ap length laid
          ∙ (length_pasted c.loop-done.self (c.args.at + c.loop-done.done) piece (omega (arith, long, c.loop-done.invariant.size))
          ∙ c.loop-done.invariant.size);
      laid =
          laid
          ∙ (ap (λ bytes. pasted bytes (c.args.at + c.loop-done.done) piece) c.loop-done.invariant.laid
          ∙ pasted_more c.args.self.now c.args.bytes.now c.args.at c.loop-done.done c.min-part.result c.requires more);
    }
