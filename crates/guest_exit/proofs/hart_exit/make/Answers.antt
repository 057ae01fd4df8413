use Rattle.std.proofs.Common.{sym}
use Rattle.guest_exit.proofs.hart_exit.make.Goals as goal

pub missing-requires-clause-small : goal.missing-requires-clause-small
missing-requires-clause-small c = (rw c.in-Missing.is at c.left_step.ensures).0

pub returns-in-Missing : goal.returns-in-Missing
returns-in-Missing c = rw (rw c.in-Missing.is at c.left_step.ensures).1 c.missing.ensures

pub returns-in-Far : goal.returns-in-Far
returns-in-Far c = rw (rw c.in-Far.is at c.left_step.ensures, sym c.far_fault-fault.ensures) c.own.ensures

pub returns-in-Instruction : goal.returns-in-Instruction
returns-in-Instruction c = rw (rw c.in-Instruction.is at c.left_step.ensures) c.instruction.ensures

pub returns-in-Call : goal.returns-in-Call
returns-in-Call c = rw (rw c.in-Call.is at c.left_step.ensures) c.call.ensures

pub returns-in-Own : goal.returns-in-Own
returns-in-Own c = rw (rw c.in-Own.is at c.left_step.ensures) c.own-in-Own.ensures
