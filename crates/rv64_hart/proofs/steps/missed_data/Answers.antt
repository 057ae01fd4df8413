use Rattle.std.proofs.Common.{rules, ◌≡◌}
use Rattle.op_defs.specs.declared.ops.DataAccess.{DataAccess}
use Rattle.op_defs.specs.declared.ops.Effect.TheVariants.{Data}
use Rattle.op_defs.specs.declared.ops.Purpose.TheVariants.{Load, Store}
use Rattle.op_defs.specs.Meaning.{meaning}
use Rattle.machine_defs.specs.Core.{event_of}
use Rattle.rv64_hart.proofs.FirstFound.{data_ends}
use Rattle.rv64_hart.proofs.steps.missed_data.Goals as goal

pub returns-in-Load-clause-ends : goal.returns-in-Load-clause-ends
unfolding meaning
returns-in-Load-clause-ends c =
    let wanted : DataAccess = record { address = c.address_at-address.result; width = c.in-Load.width; purpose = Load c.in-Load.signed c.in-Load.rd } in
    let is : meaning c.args.op.now c.args.state.now.virt.regs ≡ Data (record { address = c.address_at-address.result; width = c.in-Load.width; purpose = Load c.in-Load.signed c.in-Load.rd }) = search rules in
    data_ends c.args.state.now c.args.memory.now c.args.word c.args.op.now wanted _ is (c.load_anew.ensures.ends (event_of c.args.state.now.virt.regs.pc c.args.word))

pub returns-in-Store-clause-ends : goal.returns-in-Store-clause-ends
unfolding meaning
returns-in-Store-clause-ends c =
    let wanted : DataAccess = record { address = c.address_at-address-in-Store.result; width = c.in-Store.width; purpose = Store c.read-value.result } in
    let is : meaning c.args.op.now c.args.state.now.virt.regs ≡ Data (record { address = c.address_at-address-in-Store.result; width = c.in-Store.width; purpose = Store c.read-value.result }) = search rules in
    data_ends c.args.state.now c.args.memory.now c.args.word c.args.op.now wanted _ is (c.store_anew.ensures.ends (event_of c.args.state.now.virt.regs.pc c.args.word))
