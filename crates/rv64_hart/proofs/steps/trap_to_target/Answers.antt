use Rattle.std.proofs.Common.{◌≡◌, ap, subst, sym}
use Rattle.arch_defs.specs.declared.registers.Virtual.{Virtual}
use Rattle.translation_buffer.specs.Serving.{Serves}
use Rattle.rv64_hart.proofs.steps.trap_to_target.Goals as goal

pub returns-then-watch-clause-serves : goal.returns-then-watch-clause-serves
returns-then-watch-clause-serves c =
    let found = c.cache_found.new.state in
    let keeps : c.take_into_vs.new.state.first ≡ found.virt.first = ap (λ (v : Virtual). v.first) c.take_into_vs.ensures in
    c.follow.ensures c.take_into_vs.new.state.first found.tag found.virt.csrs found.virt.mode c.args.memory.now
    (subst (λ first. Serves c.cache_found.new.buffer first found.tag found.virt.csrs found.virt.mode c.args.memory.now) (sym keeps) c.cache_found.ensures.serves)

pub returns-else-watch-clause-serves : goal.returns-else-watch-clause-serves
returns-else-watch-clause-serves c =
    let found = c.cache_found.new.state in
    let keeps : c.take_into_vs.new.state.first ≡ found.virt.first = ap (λ (v : Virtual). v.first) c.take_into_vs.ensures in
    c.follow.ensures c.take_into_vs.new.state.first found.tag found.virt.csrs found.virt.mode c.args.memory.now
    (subst (λ first. Serves c.cache_found.new.buffer first found.tag found.virt.csrs found.virt.mode c.args.memory.now) (sym keeps) c.cache_found.ensures.serves)
