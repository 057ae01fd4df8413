use Rattle.std.proofs.Common.{◌≡◌, ℕ, ◌-◌, ◌++◌, length, take, drop, replicate, ap, ◌∙◌, arith}
use Rattle.std.specs.Prelude.{max, vec_len}
use Rattle.std.proofs.lemmas.List.{take_at}
use Rattle.rv64_asm.specs.Plans.{last_end}
use Rattle.rv64_asm.proofs.Loops.{finished}
use Rattle.rv64_asm.proofs.images.bytes_of.Goals as goal

pub returns : goal.returns
returns c =
    let words = c.in_ok-bytes.bytes.items in
    let laid = c.lay_all.new.bytes in
    let size : c.max-size.result ≡ max (length words) (last_end c.args.pieces.now) = omega arith in
    let counted : vec_len c.in_ok-bytes.bytes ≡ length words = omega arith in
    rw (take_at laid (drop (length laid) c.resize.new.self.items) c.resize.new.self.len (c.lay_all.ensures.size ∙ c.as_mut_slice.ensures.len))
    (finished c.args.labels.now c.args.lines.now c.args.pieces.now words c.as_mut_slice.result.now laid c.max-size.result
    c.in_ok-bytes.ensures size
    (c.as_mut_slice.ensures.value ∙ c.in_ok-resize.ensures.items
    ∙ ap (λ k. take c.max-size.result words ++ replicate {A = ℕ} (c.max-size.result - k) 0) counted)
    c.lay_all.ensures.bytes c.lay_all.ensures.size)
