use Rattle.std.proofs.Common.{◌≡◌, Some, refl, ap}
use Rattle.std.specs.Prelude.{option_map}
use Rattle.arch_defs.specs.FirstEntries.{all_filled}
use Rattle.arch_defs.specs.Memory.{machine_memory, reading_of}
use Rattle.machine_defs.specs.Core.{kind_of}
use Rattle.machine_defs.specs.FirstLeaves.{entries_of}
use Rattle.rv64_hart.specs.Lookups.{IsAccessReached, memory_access_of}
use Rattle.rv64_hart.specs.MachineMemory.{found_over}
use Rattle.rv64_hart.specs.Steps.{caching}
use Rattle.rv64_hart.proofs.Kept.{access_ends, keeps_after, serves_after}
use Rattle.rv64_hart.proofs.Places.{found}
use Rattle.rv64_hart.proofs.accesses.access_data_anew.Goals as goal

pub returns-in-Some-clause-ends : goal.returns-in-Some-clause-ends
returns-in-Some-clause-ends c = λ event.
    let before = entries_of (option_map (λ e. e.now) c.args.found) in
    let reached : IsAccessReached c.args.state.now c.args.memory.now (memory_access_of c.args.wanted) c.reach.new.trap c.reach.new.entry (Some c.in-Some.at) = rw (c.memory_access_of-access.ensures, c.in-Some.is) at c.reach.ensures in
    let filled : c.cache-in-Some.new.first ≡ all_filled (all_filled c.args.state.now.virt.first before) (found_over c.args.memory.now c.args.state.now c.args.wanted.address c.args.wanted.width (kind_of c.args.wanted.purpose)) =
    rw (c.cache-in-Some.ensures.filled, c.cache.ensures.filled, c.as_ref.ensures.value, reached.entry) refl in
    access_ends (λ kind. all_filled (all_filled c.args.state.now.virt.first before) (found_over c.args.memory.now c.args.state.now c.args.wanted.address c.args.wanted.width kind))
    c.args.state.now (caching c.args.state.now c.cache-in-Some.new.first) c.args.memory.now c.complete.new.mem (kind_of c.args.wanted.purpose) event c.args.wanted c.in-Some.at c.complete.new.state
    refl (found c.args.state.now.virt.csrs c.args.memory.now _ c.in-Some.at reached.place)
    (ap (caching c.args.state.now) filled) c.complete.ensures.state c.complete.ensures.memory.bytes

pub returns-in-Some-clause-left : goal.returns-in-Some-clause-left
returns-in-Some-clause-left c =
    let reached : IsAccessReached c.args.state.now c.args.memory.now (memory_access_of c.args.wanted) c.reach.new.trap c.reach.new.entry (Some c.in-Some.at) = rw (c.memory_access_of-access.ensures, c.in-Some.is) at c.reach.ensures in
    record {
      stays = tt;
      serves = serves_after c.open.new.self (caching c.args.state.now c.cache-in-Some.new.first) c.complete.new.state c.args.memory.now c.complete.new.mem c.args.wanted.width c.args.wanted.purpose c.in-Some.at
          (c.open.ensures.serves c.cache-in-Some.new.first c.args.state.now.tag c.args.state.now.virt.csrs c.args.state.now.virt.mode c.args.memory.now
          (c.cache-in-Some.ensures.serves c.args.state.now.tag c.args.state.now.virt.csrs c.args.state.now.virt.mode c.args.memory.now
          (c.cache.ensures.serves c.args.state.now.tag c.args.state.now.virt.csrs c.args.state.now.virt.mode c.args.memory.now c.requires.serves)))
          c.open.ensures.apart reached.inside c.complete.ensures.state c.complete.ensures.memory.bytes;
      plain = keeps_after (reading_of (machine_memory c.args.memory.now)) (caching c.args.state.now c.cache-in-Some.new.first).virt c.complete.new.state c.args.wanted.width c.args.wanted.purpose c.in-Some.at c.complete.ensures.state;
    }
