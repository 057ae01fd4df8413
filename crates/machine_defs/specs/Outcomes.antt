-- How an instruction ends, for a lone machine and for the hart alike.
use Rattle.std.specs.Prelude.{Option}
use Rattle.arch_defs.specs.declared.cached.Fence.{Fence}
use Rattle.arch_defs.specs.declared.first.Tag.{Tag}
use Rattle.arch_defs.specs.declared.modes.Trap.{Trap}
use Rattle.arch_defs.specs.declared.registers.Virtual.{Virtual}
use Rattle.arch_defs.specs.declared.walks.MissingPlace.{MissingPlace}
use Rattle.arch_defs.specs.Memory.{Stored}
use Rattle.op_defs.specs.declared.ops.DataAccess.{DataAccess}
use Rattle.machine_defs.specs.declared.events.Event.{Event}

pub data Outcome : Type 0 where
  -- the state after it, what it stores, and what the step was
  Done : Virtual → Option Stored → Event → Outcome
  -- a trap, which the state before it takes
  Trapped : Trap → Outcome
  -- the second stage has no place for an access, whose fault the machine around knows; where it is an access
  -- to data, what it was to do
  Missed : MissingPlace → Option DataAccess → Outcome
  -- a call of the execution environment, from HS
  Called : Outcome
  -- a WFI that is allowed, and the state after it
  Waits : Virtual → Outcome
  -- an HFENCE.GVMA that is allowed, the state after it, and what it names
  Fenced : Virtual → Fence → Outcome
  -- an SFENCE.VMA or an HFENCE.VVMA that is allowed, the state after it, for whose accesses it is, where they
  -- are others than those of the state, and what it names
  FirstFenced : Virtual → Option Tag → Fence → Outcome
  -- the access of an HLV, HLVX or HSV that is allowed
  Accesses : DataAccess → Outcome
