use Rattle.std.proofs.Common.{rules, ◌≡◌}
use Rattle.op_defs.specs.declared.ops.DataAccess.{DataAccess}
use Rattle.op_defs.specs.declared.ops.Effect.TheVariants.{Data}
use Rattle.op_defs.specs.declared.ops.Purpose.TheVariants.{Load, Store}
use Rattle.arch_defs.specs.Bits.{add64}
use Rattle.arch_defs.specs.Registers.{next}
use Rattle.op_defs.specs.Meaning.{branch, jump, meaning}
use Rattle.machine_defs.specs.Core.{event_of}
use Rattle.rv64_hart.proofs.FirstFound.{data_made, effect_made}
use Rattle.rv64_hart.proofs.common_instructions.made.Goals as goal

pub returns-in-Jal-clause-serves : goal.returns-in-Jal-clause-serves
returns-in-Jal-clause-serves c = let (csrs, mode) = c.jump.ensures.keeps in rw (c.jump.ensures.first, c.jump.ensures.tag, csrs, mode) c.requires.serves

pub returns-in-Jalr-clause-serves : goal.returns-in-Jalr-clause-serves
returns-in-Jalr-clause-serves c =
    let (csrs, mode) = c.jump-in-Jalr.ensures.keeps in rw (c.jump-in-Jalr.ensures.first, c.jump-in-Jalr.ensures.tag, csrs, mode) c.requires.serves

pub returns-in-Branch-clause-serves : goal.returns-in-Branch-clause-serves
returns-in-Branch-clause-serves c =
    let (csrs, mode) = c.branch-state.ensures.keeps in rw (c.branch-state.ensures.first, c.branch-state.ensures.tag, csrs, mode) c.requires.serves

pub returns-in-Load-clause-made : goal.returns-in-Load-clause-made
unfolding meaning
returns-in-Load-clause-made c =
    let wanted : DataAccess = record { address = c.address_at-address.result; width = c.in-Load.width; purpose = Load c.in-Load.signed c.in-Load.rd } in
    let is : meaning c.args.op.now c.args.state.now.virt.regs ≡ Data (record { address = c.address_at-address.result; width = c.in-Load.width; purpose = Load c.in-Load.signed c.in-Load.rd }) = search rules in
    data_made c.load_kept.result c.args.state.now c.args.memory.now c.args.word c.args.op.now wanted _ is (c.load_kept.ensures.made (event_of c.args.state.now.virt.regs.pc c.args.word))

pub returns-in-Store-clause-made : goal.returns-in-Store-clause-made
unfolding meaning
returns-in-Store-clause-made c =
    let wanted : DataAccess = record { address = c.address_at-address-in-Store.result; width = c.in-Store.width; purpose = Store c.read-value.result } in
    let is : meaning c.args.op.now c.args.state.now.virt.regs ≡ Data (record { address = c.address_at-address-in-Store.result; width = c.in-Store.width; purpose = Store c.read-value.result }) = search rules in
    data_made c.store_kept.result c.args.state.now c.args.memory.now c.args.word c.args.op.now wanted _ is (c.store_kept.ensures.made (event_of c.args.state.now.virt.regs.pc c.args.word))

pub returns-in-Jalr-clause-made : goal.returns-in-Jalr-clause-made
unfolding meaning
returns-in-Jalr-clause-made c =
    let is : jump c.in-Jalr.rd (next c.args.state.now.virt.regs) c.even-to.result ≡ meaning c.args.op.now c.args.state.now.virt.regs = search rules in
    effect_made c.jump-in-Jalr.result c.args.state.now c.args.memory.now c.args.word c.args.op.now _ _ (c.jump-in-Jalr.ensures.made c.args.memory.now c.args.word) is

pub returns-in-Branch-clause-made : goal.returns-in-Branch-clause-made
unfolding meaning
returns-in-Branch-clause-made c =
    let is : branch c.is_branch_taken-taken.result (next c.args.state.now.virt.regs) (add64 c.args.state.now.virt.regs.pc c.in-Branch.offset) ≡ meaning c.args.op.now c.args.state.now.virt.regs = search rules in
    effect_made c.branch-state.result c.args.state.now c.args.memory.now c.args.word c.args.op.now _ _ (c.branch-state.ensures.made c.args.memory.now c.args.word) is
