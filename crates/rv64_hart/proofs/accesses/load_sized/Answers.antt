use Rattle.std.proofs.Common.{refl}
use Rattle.op_defs.specs.declared.ops.Purpose.TheVariants.{Load}
use Rattle.rv64_hart.proofs.Kept.{kept_ends}
use Rattle.rv64_hart.proofs.accesses.load_sized.Goals as goal

pub returns-in-Some-clause-made : goal.returns-in-Some-clause-made
returns-in-Some-clause-made c = λ event.
    kept_ends c.args.state.now c.args.memory.now c.args.memory.now event (record { address = c.args.at; width = c.args.width; purpose = Load c.args.signed c.args.rd })
    c.in-Some.place c.load.new.state c.in-Some.ensures.located c.in-Some.ensures.none c.load.ensures refl
