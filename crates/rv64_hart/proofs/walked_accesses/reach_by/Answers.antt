use Rattle.std.proofs.Common.{false, Err, ap, sym, ◌∙◌}
use Rattle.arch_defs.specs.Memory.{machine_memory}
use Rattle.arch_defs.specs.SecondStage.{guest_page_trap}
use Rattle.arch_defs.specs.Traps.{missing_place_fault}
use Rattle.machine_defs.specs.Answers.{answer_of}
use Rattle.machine_defs.specs.FirstLeaves.{entries_of}
use Rattle.rv64_hart.specs.Lookups.{IsMadeAt, Traps, missing_at}
use Rattle.rv64_hart.proofs.walked_accesses.reach_by.Goals as goal

pub returns-in-InMemory : goal.returns-in-InMemory
returns-in-InMemory c =
    let made : IsMadeAt c.args.state.now c.args.memory.now c.args.access.va c.args.access.width c.args.access.kind c.in-InMemory.place = rw c.in-InMemory.is at c.requires.told in
    record {
      place = sym (ap (answer_of false c.args.state.now.virt.csrs (machine_memory c.args.memory.now)) made.located);
      entry = ap entries_of c.requires.none ∙ sym made.none;
      inside = made.fits;
      fits = rw c.requires.none tt;
    }

pub returns-in-GuestPageFault : goal.returns-in-GuestPageFault
returns-in-GuestPageFault c =
    let traps : Traps c.args.state.now c.args.memory.now c.args.access.va c.args.access.width c.args.access.kind (guest_page_trap (missing_at c.args.state.now c.args.access.va c.args.access.kind c.in-GuestPageFault.address)) = rw c.in-GuestPageFault.is at c.requires.told in
    record {
      place = ap Err (c.guest_page_trap.ensures ∙ ap guest_page_trap c.missing_at.ensures) ∙ traps.raises;
      entry = ap entries_of c.requires.none ∙ sym traps.none;
      inside = tt;
      fits = rw c.requires.none tt;
    }

pub returns-in-AccessFault : goal.returns-in-AccessFault
returns-in-AccessFault c =
    let traps : Traps c.args.state.now c.args.memory.now c.args.access.va c.args.access.width c.args.access.kind (missing_place_fault (missing_at c.args.state.now c.args.access.va c.args.access.kind c.args.access.va)) = rw c.in-AccessFault.is at c.requires.told in
    record {
      place = ap Err (c.access_fault.ensures ∙ ap missing_place_fault c.missing_at-in-AccessFault.ensures) ∙ traps.raises;
      entry = ap entries_of c.requires.none ∙ sym traps.none;
      inside = tt;
      fits = rw c.requires.none tt;
    }

pub reach_anew-requires-clause-unknown : goal.reach_anew-requires-clause-unknown
reach_anew-requires-clause-unknown c = rw c.in-NotPassed.is at c.requires.told
