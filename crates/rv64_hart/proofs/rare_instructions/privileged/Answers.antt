use Rattle.std.proofs.Common.{◌≡◌, refl, subst, sym}
use Rattle.translation_buffer.specs.Serving.{Serves}
use Rattle.instruction_laws.proofs.KeptFirst.{KeepsFirst, privileged_first}
use Rattle.machine_defs.specs.Outcomes.{FirstFenced}
use Rattle.rv64_hart.proofs.Fences.{FenceKeeps, fence_keeps}
use Rattle.rv64_hart.proofs.rare_instructions.privileged.Goals as goal

pub returns-in-Done-clause-ends : goal.returns-in-Done-clause-ends
returns-in-Done-clause-ends c made =
    let keeps : c.perform.new.state.first ≡ c.args.state.now.virt.first =
    subst (KeepsFirst c.args.state.now.virt) (c.in-Done.ensures.ends c.args.fetched.word) (privileged_first c.args.state.now.virt c.args.fetched.word c.args.effect) in
    rw (c.in-Done.ensures.ends c.args.fetched.word, c.settle.ensures.state, keeps) refl

pub returns-in-Waits-clause-ends : goal.returns-in-Waits-clause-ends
returns-in-Waits-clause-ends c made =
    let keeps : c.perform.new.state.first ≡ c.args.state.now.virt.first =
    subst (KeepsFirst c.args.state.now.virt) (c.in-Waits.ensures.ends c.args.fetched.word) (privileged_first c.args.state.now.virt c.args.fetched.word c.args.effect) in
    rw (c.in-Waits.ensures.ends c.args.fetched.word, c.settle-in-Waits.ensures.state, keeps) refl

pub returns-in-Fenced-clause-ends : goal.returns-in-Fenced-clause-ends
returns-in-Fenced-clause-ends c made =
    let keeps : c.perform.new.state.first ≡ c.args.state.now.virt.first =
    subst (KeepsFirst c.args.state.now.virt) (c.in-Fenced.ensures.ends c.args.fetched.word) (privileged_first c.args.state.now.virt c.args.fetched.word c.args.effect) in
    rw (c.in-Fenced.ensures.ends c.args.fetched.word, c.settle-in-Fenced.ensures.state, keeps) refl

pub returns-in-FirstFenced-clause-ends : goal.returns-in-FirstFenced-clause-ends
returns-in-FirstFenced-clause-ends c made =
    let keeps : c.perform.new.state.first ≡ c.args.state.now.virt.first =
    subst (KeepsFirst c.args.state.now.virt) (c.in-FirstFenced.ensures.ends c.args.fetched.word) (privileged_first c.args.state.now.virt c.args.fetched.word c.args.effect) in
    rw (c.in-FirstFenced.ensures.ends c.args.fetched.word, c.fence_first.ensures.state, c.cache.ensures.filled, keeps) refl

pub returns-in-Done-clause-left : goal.returns-in-Done-clause-left
returns-in-Done-clause-left c =
    let keeps : c.perform.new.state.first ≡ c.args.state.now.virt.first =
    subst (KeepsFirst c.args.state.now.virt) (c.in-Done.ensures.ends c.args.fetched.word) (privileged_first c.args.state.now.virt c.args.fetched.word c.args.effect) in
    record {
      stays = tt;
      serves = c.settle.ensures.serves c.args.state.now.virt.csrs c.args.state.now.virt.mode c.args.memory.now
          (subst (λ first. Serves c.args.buffer.now first c.args.state.now.tag c.args.state.now.virt.csrs c.args.state.now.virt.mode c.args.memory.now) (sym keeps) c.requires.serves);
      plain = tt;
    }

pub returns-in-Waits-clause-left : goal.returns-in-Waits-clause-left
returns-in-Waits-clause-left c =
    let keeps : c.perform.new.state.first ≡ c.args.state.now.virt.first =
    subst (KeepsFirst c.args.state.now.virt) (c.in-Waits.ensures.ends c.args.fetched.word) (privileged_first c.args.state.now.virt c.args.fetched.word c.args.effect) in
    record {
      stays = tt;
      serves = c.settle-in-Waits.ensures.serves c.args.state.now.virt.csrs c.args.state.now.virt.mode c.args.memory.now
          (subst (λ first. Serves c.args.buffer.now first c.args.state.now.tag c.args.state.now.virt.csrs c.args.state.now.virt.mode c.args.memory.now) (sym keeps) c.requires.serves);
      plain = tt;
    }

pub returns-in-Fenced-clause-left : goal.returns-in-Fenced-clause-left
returns-in-Fenced-clause-left c =
    let keeps : c.perform.new.state.first ≡ c.args.state.now.virt.first =
    subst (KeepsFirst c.args.state.now.virt) (c.in-Fenced.ensures.ends c.args.fetched.word) (privileged_first c.args.state.now.virt c.args.fetched.word c.args.effect) in
    record {
      stays = tt;
      serves = c.settle-in-Fenced.ensures.serves c.args.state.now.virt.csrs c.args.state.now.virt.mode c.args.memory.now
          (subst (λ first. Serves c.args.buffer.now first c.args.state.now.tag c.args.state.now.virt.csrs c.args.state.now.virt.mode c.args.memory.now) (sym keeps) c.requires.serves);
      plain = tt;
    }

pub returns-in-FirstFenced-clause-left : goal.returns-in-FirstFenced-clause-left
returns-in-FirstFenced-clause-left c =
    let keeps : c.perform.new.state.first ≡ c.args.state.now.virt.first =
    subst (KeepsFirst c.args.state.now.virt) (c.in-FirstFenced.ensures.ends c.args.fetched.word) (privileged_first c.args.state.now.virt c.args.fetched.word c.args.effect) in
    let stays : FenceKeeps c.args.state.now.virt (FirstFenced c.perform.new.state c.in-FirstFenced.named c.in-FirstFenced.fence) =
    subst (FenceKeeps c.args.state.now.virt) (c.in-FirstFenced.ensures.ends c.args.fetched.word) (fence_keeps c.args.state.now.virt c.args.fetched.word c.args.effect) in
    record {
      stays = tt;
      serves = c.fence_first.ensures.serves c.args.memory.now (c.cache.ensures.serves c.args.state.now.tag c.perform.new.state.csrs c.perform.new.state.mode c.args.memory.now
          (rw (keeps, stays.0, stays.1) c.requires.serves));
      plain = tt;
    }
