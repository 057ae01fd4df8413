-- What the functions inside a run of the hart answer, in a byte each; a trap is told apart.
use Rattle.std.specs.Prelude.{ℕ, ◌≡◌, ◌+◌, ◌%◌, ◌^◌, ◌<◌, ◌≤◌, List, Option, Some, None, IfSome, Bool, true, false, ⊤, option_map}
use Rattle.arch_defs.specs.declared.first.FirstEntry.{FirstEntry}
use Rattle.arch_defs.specs.declared.hart_states.HartState.{HartState}
use Rattle.arch_defs.specs.declared.modes.Mode.{Mode}
use Rattle.arch_defs.specs.declared.modes.Trap.{Trap}
use Rattle.arch_defs.specs.declared.registers.Csrs.{Csrs}
use Rattle.arch_defs.specs.declared.registers.Virtual.{Virtual}
use Rattle.arch_defs.specs.Interrupts.{due}
use Rattle.arch_defs.specs.Translation.{privilege_of}
use Rattle.op_defs.specs.declared.ops.DataAccess.{DataAccess}
use Rattle.op_defs.specs.declared.ops.Effect.{Effect}
use Rattle.op_defs.specs.Table.{op_of}
use Rattle.machine_defs.specs.declared.events.Event.{Event}
use Rattle.machine_defs.specs.declared.events.Event.TheVariants as event
use Rattle.machine_defs.specs.Core.{Located, At, at_place, core, executed, instruction}
use Rattle.machine_defs.specs.FirstLeaves.{entries_of, found_by_effect, found_by_op}
use Rattle.machine_defs.specs.Outcomes.{Outcome}
use Rattle.machine_defs.specs.Runs.{pc_and_word}
use Rattle.translation_buffer.specs.declared.buffers.Buffer.{Buffer}
use Rattle.translation_buffer.specs.Places.{context_of}
use Rattle.translation_buffer.specs.Serving.{ServesHart}
use Rattle.rv64_hart.specs.declared.endings.CommonStretch.{CommonStretch}
use Rattle.rv64_hart.specs.declared.endings.Ended.{Ended}
use Rattle.rv64_hart.specs.declared.endings.Ended.TheVariants.{Plain, System, Raised}
use Rattle.rv64_hart.specs.declared.endings.Round.{Round}
use Rattle.rv64_hart.specs.declared.endings.StepEnd.{StepEnd}
use Rattle.rv64_hart.specs.declared.hart_refs.FetchedWord.{FetchedWord}
use Rattle.rv64_hart.specs.declared.endings.StepEnd.TheVariants.{Continues, Ends, Left}
use Rattle.rv64_hart.specs.declared.endings.Stretch.{Stretch}
use Rattle.rv64_hart.specs.declared.hart_refs.HartRef.{HartRef}
use Rattle.rv64_hart.specs.Counts.{Counts, OnlyTrace}
use Rattle.rv64_hart.specs.HartRefs.{SameReferences}
use Rattle.rv64_hart.specs.MachineMemory.{mmu_on}
use Rattle.rv64_hart.specs.PlainSteps.{plain_steps}
use Rattle.rv64_hart.specs.Steps.{Attempt, Exits, Makes, Raises, attempt_of, caching, Progress, enters_vs, hart_step, hart_steps, next_attempt, progress, caching_found, with_found_on}

-- where an access is made, by the answer; where it is not, the trap that it is to the hart, whatever has been
-- found by then, and whatever it is for and is to follow there
abbrev pub IsAnswered : HartState → List ℕ → Located → Trap → Option ℕ → Type 0
IsAnswered s memory located trap (Some place) = located ≡ At place
IsAnswered s memory located trap None =
    (first : List FirstEntry) (wanted : Option DataAccess) (rest : ℕ → Outcome)
    → attempt_of (caching s first) memory (at_place wanted located rest) ≡ Raises trap

-- what the instruction of a word asks for, and one that asks for this, where its own access at pc has found
-- nothing
abbrev pub attempt_of_word : HartState → List ℕ → ℕ → Attempt
attempt_of_word s memory word =
    attempt_of (caching_found s (found_by_op s.tag (mmu_on s memory) s.virt (op_of word))) memory
    (instruction (mmu_on s memory) s.virt word)

abbrev pub attempt_of_effect : HartState → List ℕ → ℕ → Effect → Attempt
attempt_of_effect s memory word effect =
    attempt_of (caching_found s (found_by_effect s.tag (mmu_on s memory) s.virt effect)) memory
    (executed (mmu_on s memory) s.virt word effect)

-- and where it has found these first-stage translations: one, or none
abbrev pub found_by_fetch : FetchedWord → List FirstEntry
found_by_fetch fetched = entries_of (option_map (λ e. e.now) fetched.found)

abbrev pub attempt_at : List FirstEntry → HartState → List ℕ → ℕ → Attempt
attempt_at found s memory word =
    let after = caching_found (caching_found s found)
    (found_by_op s.tag (mmu_on s memory) s.virt (op_of word)) in
    attempt_of after memory (instruction (mmu_on s memory) s.virt word)

abbrev pub attempt_with : List FirstEntry → HartState → List ℕ → ℕ → Effect → Attempt
attempt_with found s memory word effect =
    let after = caching_found (caching_found s found)
    (found_by_effect s.tag (mmu_on s memory) s.virt effect) in
    attempt_of after memory (executed (mmu_on s memory) s.virt word effect)

-- a word is that of the next instruction, whose own access at pc finds nothing
abbrev pub IsNext : ℕ → HartState → List ℕ → Type 0
IsNext word s memory = attempt_of (with_found_on s memory) memory (core (mmu_on s memory) s.virt)
    ≡ attempt_of_word s memory word

-- n steps lead from a state, memory and trace to others, and none of them is a trap
abbrev pub RunsOn : ℕ → HartState → List ℕ → ℕ → HartState → List ℕ → ℕ → Type 0
RunsOn n s memory trace after changed raised = (watch : Bool)
    → hart_steps watch n (progress s memory trace false) ≡ Some (progress after changed raised false)

-- and each of them is plain
abbrev pub RunsPlain : ℕ → HartState → List ℕ → ℕ → HartState → List ℕ → ℕ → Type 0
RunsPlain n s memory trace after changed raised =
    plain_steps n (progress s memory trace false) ≡ Some (progress after changed raised false)

-- what a step asks for, by how its instruction ended, the trap that is told apart, the event that the step is
-- where the instruction is a plain one, and the state and memory after it
abbrev pub attempt_by : Ended → Trap → Event → HartState → List ℕ → Attempt
attempt_by Plain trap made state memory = Makes state memory made
attempt_by System trap made state memory = Makes state memory event.System
attempt_by Raised trap made state memory = Raises trap

-- where an instruction was made that is none of opcode SYSTEM
abbrev pub IfPlain : Ended → Type 0 → Type 0
IfPlain Plain P = P
IfPlain System P = ⊤
IfPlain Raised P = ⊤

-- where an instruction raised a trap
abbrev pub IfRaised : Ended → Type 0 → Type 0
IfRaised Plain P = ⊤
IfRaised System P = ⊤
IfRaised Raised P = P

-- what a step asks for, as far as the account wants it: the state, the memory, the trace with the step's
-- event, and whether that entered VS by a trap; or a trap
pub data Told : Type 0 where
  Tells : HartState → List ℕ → ℕ → Bool → Told
  TellsTrap : Trap → Told

abbrev pub told_of : ℕ → Attempt → Told
told_of trace (Makes state memory made) =
    Tells state memory ((trace + pc_and_word made) % 2 ^ 64) (enters_vs made)
told_of trace (Raises trap) = TellsTrap trap

-- the same by how the instruction ended, the trap that is told apart, and the state, memory and trace after
-- it
abbrev pub told_by : Ended → Trap → HartState → List ℕ → ℕ → Told
told_by Plain trap state memory trace = Tells state memory trace false
told_by System trap state memory trace = Tells state memory trace false
told_by Raised trap state memory trace = TellsTrap trap

-- how far the run has come after a step, by how the step ended
abbrev pub counted_of : StepEnd → (Bool → Progress) → Option Progress
counted_of Continues p = Some (p false)
counted_of Ends p = Some (p true)
counted_of Left p = None

-- how many instructions were made of as many as may be, by how the last one ended
abbrev pub IsStretch : ℕ → ℕ → Ended → Type 0
IsStretch most made Plain = (0 < made) × (made ≤ most)
IsStretch most made System = (0 < made) × (made ≤ most)
IsStretch most made Raised = made < most

-- and of common ones, by the word before which they ended
abbrev pub IsCommonStretch : ℕ → ℕ → Option ℕ → Type 0
IsCommonStretch most made (Some word) = made < most
IsCommonStretch most made None = (0 < made) × (made ≤ most)

-- whether an instruction was made that is none of opcode SYSTEM, and how many are made with it
abbrev pub is_plain_end : Ended → Bool
is_plain_end Plain = true
is_plain_end System = false
is_plain_end Raised = false

abbrev pub one_of : Ended → ℕ
one_of Plain = 1
one_of System = 1
one_of Raised = 0

-- whether the run ends here for a trap into VS
abbrev pub ends_run : StepEnd → Bool
ends_run Continues = false
ends_run Ends = true
ends_run Left = false

-- how many steps were made of as many as may be, by how the last one ended
abbrev pub HasMade : ℕ → ℕ → StepEnd → Type 0
HasMade most made Continues = (0 < made) × (made ≤ most)
HasMade most made Ends = made ≤ most
HasMade most made Left = made < most

-- where the step is not made
abbrev pub IfLeft : StepEnd → Type 0 → Type 0
IfLeft Continues P = ⊤
IfLeft Ends P = ⊤
IfLeft Left P = P

-- where an instruction is made
abbrev pub IfMade : Bool → Type 0 → Type 0
IfMade true P = P
IfMade false P = ⊤

-- unless a condition holds
abbrev pub Unless : Bool → Type 0 → Type 0
Unless true P = ⊤
Unless false P = P

-- accesses are translated under the same roots, and for the same privilege
abbrev pub HasSameTranslation : Csrs → Mode → Csrs → Mode → Type 0
HasSameTranslation csrs mode other other_mode =
    (context_of other other_mode ≡ context_of csrs mode)
    × (privilege_of other other_mode ≡ privilege_of csrs mode)

-- the registers and the mode by which memory is accessed stay
abbrev pub KeepsContext : Virtual → Virtual → Type 0
KeepsContext old new = (new.csrs ≡ old.csrs) × (new.mode ≡ old.mode)

-- while it is quiet, no interrupt is due
abbrev pub NoneDueIfQuiet : Bool → Virtual → Type 0
NoneDueIfQuiet true state = due state.csrs state.mode ≡ None
NoneDueIfQuiet false state = ⊤

-- what an instruction leaves, by how it ended: all as it was, where it raised a trap; a buffer that serves
-- the hart; and the registers by which memory is accessed, where it is a plain one
pub record LeftBy (how : Ended) (buffer : Buffer) (old : HartState) (memory : List ℕ)
    (new : HartState) (changed : List ℕ) : Type 0 where
  pub stays : IfRaised how ((new ≡ old) × (changed ≡ memory))
  pub serves : ServesHart buffer new changed
  pub plain : IfPlain how (KeepsContext old.virt new.virt)

-- what it leaves of the account: all but the trace; and where it raised a trap, the trace too
pub record IsTallied (how : Ended) (old new : Counts) : Type 0 where
  pub only : OnlyTrace old new
  pub stays : IfRaised how (new ≡ old)

-- what a stretch of instructions leaves: the state, memory and trace to which its steps lead; the next step
-- raises the trap, where one ended the stretch
pub record LeftByStretch (stretch : Stretch) (old new : HartRef) : Type 0 where
  pub steps : RunsOn stretch.made old.state.now old.memory.now old.tally.now.trace
      new.state.now new.memory.now new.tally.now.trace
  pub raises : IfRaised stretch.end (next_attempt new.state.now new.memory.now
      (due new.state.now.virt.csrs new.state.now.virt.mode) ≡ Raises new.trap.now)
  pub only : OnlyTrace old.tally.now new.tally.now
  pub serves : ServesHart new.buffer.now new.state.now new.memory.now
  pub same : SameReferences old new

-- one of common instructions, and where it ended before a word
pub record LeftByCommon (stretch : CommonStretch) (buffer : Buffer) (tally counted : Counts)
    (old : HartState) (memory : List ℕ) (new : HartState) (changed : List ℕ) : Type 0 where
  pub steps : RunsPlain stretch.made old memory tally.trace new changed counted.trace
  pub next : IfSome stretch.word (λ word. IsNext word new changed)
  pub only : OnlyTrace tally counted
  pub serves : ServesHart buffer new changed
  pub context : KeepsContext old.virt new.virt

-- and a stretch with the trap that ends it: where that is not taken into VS, the next step is an exit
pub record LeftByRound (watch : Bool) (round : Round) (old new : HartRef) : Type 0 where
  pub steps : hart_steps watch round.made
      (progress old.state.now old.memory.now old.tally.now.trace false)
      ≡ Some (progress new.state.now new.memory.now new.tally.now.trace (ends_run round.end))
  pub exits : IfLeft round.end (hart_step new.state.now new.memory.now ≡ Exits new.trap.now)
  pub only : OnlyTrace old.tally.now new.tally.now
  pub serves : ServesHart new.buffer.now new.state.now new.memory.now
  pub same : SameReferences old new
