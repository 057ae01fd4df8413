use Rattle.std.proofs.Common.{◌≡◌, ap, subst}
use Rattle.arch_defs.specs.declared.hart_states.HartState.{HartState}
use Rattle.machine_defs.specs.Core.{kind_of}
use Rattle.rv64_hart.specs.Endings.{IfRaised}
use Rattle.rv64_hart.specs.MachineMemory.{found_over, mmu_on}
use Rattle.rv64_hart.specs.Steps.{caching_found}
use Rattle.rv64_hart.proofs.FirstFound.{data_raised}
use Rattle.rv64_hart.proofs.plain_steps.data.Goals as goal

pub returns-in-System : goal.returns-in-System
returns-in-System c =
    let old = c.args.state.now in
    let memory = c.args.memory.now in
    let wanted = c.args.wanted in
    let end = c.access_data in
    let raised = data_raised end.result end.new.trap (caching_found old (found_over memory old wanted.address wanted.width (kind_of wanted.purpose)))
    memory (mmu_on old memory) old.virt wanted end.new.state end.new.memory end.ensures.ends c.in-System.is in
    let stays = subst (λ how. IfRaised how ((end.new.state ≡ old) × (end.new.memory ≡ memory))) raised end.ensures.left.stays in
    record {
      made = λ event. tt;
      stays = stays;
      serves = end.ensures.left.serves;
      context = (ap (λ (s : HartState). s.virt.csrs) stays.0, ap (λ (s : HartState). s.virt.mode) stays.0);
    }
