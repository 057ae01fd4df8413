use Rattle.std.proofs.Common.{rules, ◌≡◌, ◌/◌, false}
use Rattle.op_defs.specs.declared.ops.Purpose.TheVariants.{Store}
use Rattle.translation_buffer.specs.Holding.{has_frame}
use Rattle.rv64_hart.proofs.Kept.{kept_ends, serves_after}
use Rattle.rv64_hart.proofs.accesses.store_sized.Goals as goal

pub returns-else-has_read-clause-made : goal.returns-else-has_read-clause-made
returns-else-has_read-clause-made c = λ event.
    kept_ends c.args.state.now c.args.memory.now c.store_at.new.memory event (record { address = c.args.address; width = c.args.width; purpose = Store c.args.value })
    c.in-Some.place c.store_at.new.state c.in-Some.ensures.located c.in-Some.ensures.none c.store_at.ensures.state c.store_at.ensures.memory

pub returns-else-has_read-clause-serves : goal.returns-else-has_read-clause-serves
returns-else-has_read-clause-serves c =
    let free : has_frame c.args.buffer.now.read (c.in-Some.place / 4096) ≡ false = search rules in
    serves_after c.args.buffer.now c.args.state.now c.store_at.new.state c.args.memory.now c.store_at.new.memory c.args.width (Store c.args.value) c.in-Some.place
    c.requires.serves free c.in-Some.ensures.place c.store_at.ensures.state c.store_at.ensures.memory
