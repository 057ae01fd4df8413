use Rattle.std.proofs.Common.{Some, None, refl, ap, ◌∙◌}
use Rattle.arch_defs.specs.declared.hart_states.HartState.{HartState}
use Rattle.arch_defs.specs.FirstEntries.{all_filled}
use Rattle.arch_defs.specs.Memory.{machine_memory, reading_of}
use Rattle.machine_defs.specs.Core.{kind_of}
use Rattle.rv64_hart.specs.Lookups.{LeftByAccess, memory_access_of}
use Rattle.rv64_hart.specs.MachineMemory.{found_over}
use Rattle.rv64_hart.proofs.Kept.{access_ends, keeps_after, serves_after}
use Rattle.rv64_hart.proofs.accesses.access_data.Goals as goal

pub returns-in-Some-clause-ends : goal.returns-in-Some-clause-ends
returns-in-Some-clause-ends c = λ event.
    let placed : LeftByAccess (memory_access_of c.args.wanted) (Some c.in-Some.at) c.access_place.new.trap c.access_place.new.buffer c.args.state.now c.args.memory.now c.access_place.new.state = rw (c.memory_access_of-access.ensures, c.in-Some.is) at c.access_place.ensures in
    access_ends (λ kind. all_filled c.args.state.now.virt.first (found_over c.args.memory.now c.args.state.now c.args.wanted.address c.args.wanted.width kind))
    c.args.state.now c.access_place.new.state c.args.memory.now c.complete.new.mem (kind_of c.args.wanted.purpose) event c.args.wanted c.in-Some.at c.complete.new.state
    refl placed.located placed.found c.complete.ensures.state c.complete.ensures.memory.bytes

pub returns-in-Some-clause-left : goal.returns-in-Some-clause-left
returns-in-Some-clause-left c =
    let placed : LeftByAccess (memory_access_of c.args.wanted) (Some c.in-Some.at) c.access_place.new.trap c.access_place.new.buffer c.args.state.now c.args.memory.now c.access_place.new.state = rw (c.memory_access_of-access.ensures, c.in-Some.is) at c.access_place.ensures in
    let (csrs, mode) = keeps_after (reading_of (machine_memory c.args.memory.now)) c.access_place.new.state.virt c.complete.new.state c.args.wanted.width c.args.wanted.purpose c.in-Some.at c.complete.ensures.state in
    record {
      stays = tt;
      serves = serves_after c.open.new.self c.access_place.new.state c.complete.new.state c.args.memory.now c.complete.new.mem c.args.wanted.width c.args.wanted.purpose c.in-Some.at
          (c.open.ensures.serves c.access_place.new.state.virt.first c.access_place.new.state.tag c.access_place.new.state.virt.csrs c.access_place.new.state.virt.mode c.args.memory.now placed.serves)
          c.open.ensures.apart placed.fits c.complete.ensures.state c.complete.ensures.memory.bytes;
      plain = (csrs ∙ ap (λ (s : HartState). s.virt.csrs) placed.found, mode ∙ ap (λ (s : HartState). s.virt.mode) placed.found);
    }

pub returns-in-None-clause-ends : goal.returns-in-None-clause-ends
returns-in-None-clause-ends c = λ event.
    let placed : LeftByAccess (memory_access_of c.args.wanted) None c.access_place.new.trap c.access_place.new.buffer c.args.state.now c.args.memory.now c.access_place.new.state = rw (c.memory_access_of-access.ensures, c.in-None.is) at c.access_place.ensures in
    placed.located (all_filled c.args.state.now.virt.first (found_over c.args.memory.now c.args.state.now c.args.wanted.address c.args.wanted.width (kind_of c.args.wanted.purpose))) (Some c.args.wanted) _
