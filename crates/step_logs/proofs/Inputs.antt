-- A step reads one input at most, by a call of the environment or by a load of the device page.
use Rattle.std.specs.Prelude.{◌==◌, nat_le}
use Rattle.std.proofs.Common.{arith, ◌≡◌, ◌∙◌, ◌⊎◌, inl, inr, refl, sym, subst, ap, ℕ, ◌+◌, ◌-◌, ◌<◌, List, [], ◌∷◌, length, map, take, Option, Some, None}
use Rattle.arch_defs.specs.declared.cached.Fence.{Fence}
use Rattle.arch_defs.specs.Calls.{CallState, environment, get, put, set_timer, state_of, stopped, unknown}
use Rattle.arch_defs.specs.Consoles.{ConsoleState, has_room}
use Rattle.arch_defs.specs.Inputs.{unread_after}
use Rattle.arch_defs.specs.Registers.{a7, read}
use Rattle.log_lines.specs.declared.lines.Line.{Line}
use Rattle.log_lines.specs.declared.lines.Line.TheVariants as line
use Rattle.machine_defs.specs.Machine.{Machine, Platform, Tried, called, with_first}
use Rattle.machine_defs.specs.Runs.{left_after, left_by}
use Rattle.machine_defs.specs.Tries.{stages_of}
use Rattle.instruction_laws.proofs.Cached.{either}
use Rattle.instruction_laws.proofs.Rooting.{RootEnd, root_end}
use Rattle.instruction_laws.proofs.TryEnds.{Calls, Fences, Halts, LeavesUnread, Makes, Passes, Serves, Takes}
use Rattle.run_log.specs.Calls.{inputs_read}
use Rattle.run_log.specs.Seen.{Seen, head_of}
use Rattle.step_logs.specs.Befores.{before_of, first_input, head_before}
use Rattle.step_logs.specs.declared.befores.Before.{Before}
use Rattle.step_logs.specs.StepTexts.{HasReadOne, IsReadOf}

unread_one : (inputs : List (ℕ × ℕ)) (clock : ℕ) → IsReadOf inputs (unread_after inputs clock)
unread_one [] clock = inl refl
unread_one ((moment, byte) ∷ rest) clock = either (IsReadOf ((moment, byte) ∷ rest)) (nat_le moment clock) rest ((moment, byte) ∷ rest) (inr ((moment, byte), refl)) (inl refl)

environment_one : (s : CallState) → IsReadOf s.console.inputs (environment s).console.inputs
environment_one s = let number = read s.regs a7 in let One = λ (c : CallState). IsReadOf s.console.inputs c.console.inputs in
    either One (number == 0) (set_timer s) _ (inl refl)
    (either One (number == 1) (put s) _ (either One (has_room s.console) _ _ (inl refl) (inl refl))
    (either One (number == 2) (get s) _ (unread_one s.console.inputs s.clock.time)
    (either One (number == 8) (stopped s) (unknown s) (inl refl) (inl refl))))

called_one : (p : Platform) → IsReadOf p.console.inputs (called p).console.inputs
called_one p = let after = environment_one (state_of p.virt.regs p.clock p.console) in
    either (λ (q : Platform). IsReadOf p.console.inputs q.console.inputs) (read p.virt.regs a7 == 8) _ _ after after

served_one : (p : Platform) (console : ConsoleState) → LeavesUnread p console → IsReadOf p.console.inputs console.inputs
served_one p console (inl same) = inl same
served_one p console (inr read) = subst (IsReadOf p.console.inputs) (sym read) (unread_one p.console.inputs p.clock.time)

ended_one : (m : Machine) → {t : Tried} {fence : Option Fence} → RootEnd m t fence → IsReadOf m.platform.console.inputs (left_by m t).platform.console.inputs
ended_one m (Takes first trap) = inl refl
ended_one m (Makes first completion event keeps) = inl refl
ended_one m (Serves first rd value console leaves) = served_one m.platform console leaves
ended_one m (Calls first) = called_one (with_first m first).platform
ended_one m (Passes first virt moment keeps) = inl refl
ended_one m Halts = inl refl
ended_one m (Fences first virt fence keeps) = inl refl

pub try_reads_one : (m : Machine) → IsReadOf m.platform.console.inputs (left_after m).platform.console.inputs
try_reads_one m = ended_one m (root_end m (stages_of m))

-- the line of the one that is read
abbrev Told : Seen → List (ℕ × ℕ) → List (ℕ × ℕ) → List Line
Told s before after = map (λ input. line.Got (head_of s) input.1) (take (length before - length after) before)

first_of : (before after : List (ℕ × ℕ)) (first input : ℕ × ℕ) → before ≡ first ∷ after → first_input before ≡ Some input → first ≡ input
first_of before after first input is shown = let same : Some first ≡ Some input = ap first_input (sym is) ∙ shown in cc

front : (s : Seen) (before after : List (ℕ × ℕ)) (input : ℕ × ℕ) → before ≡ input ∷ after → Told s before after ≡ line.Got (head_of s) input.1 ∷ []
front s before after input is =
    ap (λ (before : List (ℕ × ℕ)). Told s before after) is
    ∙ ap (λ (n : ℕ). map (λ input. line.Got (head_of s) input.1) (take n (input ∷ after))) one
  where
    one : length (input ∷ after) - length after ≡ 1
    one = omega arith

by_read : (s : Seen) (before after : List (ℕ × ℕ)) (input : ℕ × ℕ) → IsReadOf before after → length after < length before → first_input before ≡ Some input
    → line.Got (head_of s) input.1 ∷ [] ≡ Told s before after
by_read s before after input (inl same) fewer shown = absurd (omega (arith, fewer, ap (λ (l : List (ℕ × ℕ)). length l) same))
by_read s before after input (inr (first, is)) fewer shown =
    sym (front s before after first is ∙ ap (λ (i : ℕ × ℕ). line.Got (head_of s) i.1 ∷ []) (first_of before after first input is shown))

pub input_told : (s : Seen) (b : Before) (m : Machine) (input : ℕ × ℕ) → b ≡ before_of s.number s.before → m ≡ s.after → HasReadOne s
    → length m.platform.console.inputs < b.unread → b.input ≡ Some input
    → line.Got (head_before b) input.1 ∷ [] ≡ map (λ input. line.Got (head_of s) input.1) (inputs_read s.before s.after)
input_told s b m input is after reads fewer shown =
    ap (λ (b : Before). line.Got (head_before b) input.1 ∷ []) is
    ∙ by_read s s.before.platform.console.inputs s.after.platform.console.inputs input reads
    (rw (is, after) at fewer) (rw is at shown)
