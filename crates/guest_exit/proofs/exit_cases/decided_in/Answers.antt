use Rattle.std.proofs.Common.{Some, None, sym, ◌∙◌}
use Rattle.rv64_asm.proofs.Decoded as coded
use Rattle.hosted_steps.proofs.ExitCases.{decided_by_op}
use Rattle.guest_exit.proofs.exit_cases.decided_in.Goals as goal

pub if_decided-requires : goal.if_decided-requires
if_decided-requires c = record { fits = (coded.decoded c.args.word c.in-Some.op (sym c.decode.ensures ∙ c.in-Some.is)).fits }

pub returns-in-Some-clause-op : goal.returns-in-Some-clause-op
returns-in-Some-clause-op c = c.if_decided.ensures.op ∙ sym (decided_by_op c.args.word (Some c.in-Some.op) (sym c.decode.ensures ∙ c.in-Some.is))

pub returns-in-None-clause-op : goal.returns-in-None-clause-op
returns-in-None-clause-op c = sym (decided_by_op c.args.word None (sym c.decode.ensures ∙ c.in-None.is))
