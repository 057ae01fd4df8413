-- The inputs that are unread stay such as a guest may be given.
use Rattle.std.specs.Prelude.{◌==◌, nat_le}
use Rattle.std.proofs.Common.{ℕ, ◌<◌, ◌^◌, inl, inr, List, [], ◌∷◌, Option, sym, subst, arith}
use Rattle.std.proofs.lemmas.List.Elements.{All-tail}
use Rattle.std.proofs.lemmas.List.Sorted.{IsNonDecreasingBy-drop}
use Rattle.arch_defs.specs.declared.cached.Fence.{Fence}
use Rattle.arch_defs.specs.Calls.{CallState, environment, get, put, set_timer, state_of, stopped, unknown}
use Rattle.arch_defs.specs.Consoles.{ConsoleState, has_room}
use Rattle.arch_defs.specs.Inputs.{unread_after}
use Rattle.arch_defs.specs.Registers.{a7, read}
use Rattle.guest_settings.specs.Inputs.{AreInputs}
use Rattle.machine_defs.specs.Machine.{Machine, Platform, Tried, called, start, with_first}
use Rattle.machine_defs.specs.Runs.{left_by}
use Rattle.machine_defs.specs.Tries.{stages_of}
use Rattle.run_laws.specs.UnreadInputs.{RunKeepsInputs, StartHasInputs}
use Rattle.instruction_laws.proofs.Cached.{either}
use Rattle.instruction_laws.proofs.KeptByRuns.{IsKept, kept_by_runs}
use Rattle.instruction_laws.proofs.Rooting.{RootEnd, root_end}
use Rattle.instruction_laws.proofs.TryEnds.{Calls, Fences, Halts, LeavesUnread, Makes, Passes, Serves, Takes}

-- all but the first
later_inputs : (input : ℕ × ℕ) (rest : List (ℕ × ℕ)) → AreInputs (input ∷ rest) → AreInputs rest
later_inputs input rest are = record {
  count = let few = are.count in omega (arith, few);
  moments = All-tail (λ (i : ℕ × ℕ). i.0 < 2 ^ 62) input rest are.moments;
  order = IsNonDecreasingBy-drop (λ (i : ℕ × ℕ). i.0) 1 (input ∷ rest) are.order;
}

-- a call of the environment reads the first, if any, and so does a load of the device page
unread_good : (inputs : List (ℕ × ℕ)) (clock : ℕ) → AreInputs inputs → AreInputs (unread_after inputs clock)
unread_good [] clock are = are
unread_good ((moment, byte) ∷ rest) clock are =
    either AreInputs (nat_le moment clock) rest ((moment, byte) ∷ rest) (later_inputs (moment, byte) rest are) are

environment_good : (s : CallState) → AreInputs s.console.inputs → AreInputs (environment s).console.inputs
environment_good s are = let number = read s.regs a7 in let Good = λ (c : CallState). AreInputs c.console.inputs in
    either Good (number == 0) (set_timer s) _ are
    (either Good (number == 1) (put s) _ (either Good (has_room s.console) _ _ are are)
    (either Good (number == 2) (get s) _ (unread_good s.console.inputs s.clock.time are)
    (either Good (number == 8) (stopped s) (unknown s) are are)))

abbrev HasInputs : Platform → Type 0
HasInputs p = AreInputs p.console.inputs

called_good : (p : Platform) → HasInputs p → HasInputs (called p)
called_good p are = let after = environment_good (state_of p.virt.regs p.clock p.console) are in
    either HasInputs (read p.virt.regs a7 == 8) _ _ after after

served_good : (p : Platform) (console : ConsoleState) → HasInputs p → LeavesUnread p console → AreInputs console.inputs
served_good p console are (inl same) = subst AreInputs (sym same) are
served_good p console are (inr read) = subst AreInputs (sym read) (unread_good p.console.inputs p.clock.time are)

-- and no other step changes them
ended_good : (m : Machine) → HasInputs m.platform → {t : Tried} {fence : Option Fence} → RootEnd m t fence → HasInputs (left_by m t).platform
ended_good m are (Takes first trap) = are
ended_good m are (Makes first completion event keeps) = are
ended_good m are (Serves first rd value console leaves) = served_good m.platform console are leaves
ended_good m are (Calls first) = called_good (with_first m first).platform are
ended_good m are (Passes first virt moment keeps) = are
ended_good m are Halts = are
ended_good m are (Fences first virt fence keeps) = are

abbrev OfMachine : Machine → Type 0
OfMachine m = HasInputs m.platform

inputs_kept : IsKept OfMachine
inputs_kept = record { filled = λ m e are lacks. are; tried = λ m are. ended_good m are (root_end m (stages_of m)) }

pub inputs_stay : RunKeepsInputs
inputs_stay = kept_by_runs OfMachine inputs_kept

pub start_has_inputs : StartHasInputs
unfolding start
start_has_inputs guest are = are
