use Rattle.std.proofs.Common.{sym, ◌∙◌}
use Rattle.machine_defs.specs.declared.events.Event.TheVariants.{Plain}
use Rattle.rv64_hart.specs.Steps.{Makes}
use Rattle.rv64_hart.proofs.FirstFound.{word_plain}
use Rattle.rv64_hart.proofs.plain_steps.plain.Goals as goal

pub returns-in-Some-clause-made : goal.returns-in-Some-clause-made
returns-in-Some-clause-made c =
    let old = c.args.state.now in
    word_plain c.asked.result old c.args.memory.now c.args.word c.in-Some.op c.effect_of-effect.result
    (Makes c.asked.new.state c.asked.new.memory (Plain old.virt.regs.pc c.args.word))
    (sym c.decode.ensures ∙ c.in-Some.is) c.effect_of-effect.ensures c.asked.ensures.made
