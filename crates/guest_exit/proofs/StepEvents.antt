-- What the event of one step can be, on the hart and of the machine.
use Rattle.std.specs.Prelude.{◌==◌, ◌%◌, ◌^◌, ◌&&◌, not, is_some}
use Rattle.std.proofs.Common.{cond, ◌≡◌, ℕ, zero, suc, ◌+◌, ◌<◌, ◌≤◌, ◌∙◌, Bool, true, false, List, [], ◌∷◌, Option, Some, None, Ok, Err, Result, nat_eq, refl, ap, sym, subst, arith}
use Rattle.std.proofs.lemmas.Option.{none-some, same_Some}
use Rattle.arch_defs.specs.declared.csr_names.CsrEnd.{CsrEnd}
use Rattle.arch_defs.specs.declared.hart_states.HartState.{HartState}
use Rattle.arch_defs.specs.declared.levels.Level.TheVariants as level
use Rattle.arch_defs.specs.declared.levels.Level.{Level}
use Rattle.arch_defs.specs.declared.modes.Access.{Access}
use Rattle.arch_defs.specs.declared.modes.Access.TheVariants.{Fetch}
use Rattle.arch_defs.specs.declared.modes.Mode.{Mode}
use Rattle.arch_defs.specs.declared.modes.Mode.TheVariants.{HS, U, VS, VU}
use Rattle.arch_defs.specs.declared.modes.Trap.{Trap}
use Rattle.arch_defs.specs.declared.registers.Csrs.{Csrs}
use Rattle.arch_defs.specs.declared.registers.Virtual.{Virtual}
use Rattle.arch_defs.specs.declared.roots.GuestRoot.{GuestRoot}
use Rattle.arch_defs.specs.declared.roots.GuestRoot.TheVariants as root
use Rattle.arch_defs.specs.declared.registers.Interrupts.{Interrupts}
use Rattle.arch_defs.specs.declared.second_walks.SecondWalkEnd.{SecondWalkEnd}
use Rattle.arch_defs.specs.declared.second_walks.SecondWalkEnd.TheVariants as walk
use Rattle.arch_defs.specs.declared.walks.Found.{Found}
use Rattle.arch_defs.specs.declared.walks.Found.TheVariants.{Passes, PageFaults, MissesEntry}
use Rattle.arch_defs.specs.declared.walks.MissingPlace.{MissingPlace}
use Rattle.arch_defs.specs.declared.widths.Width.{Width}
use Rattle.arch_defs.specs.declared.widths.Width.TheVariants.{Word}
use Rattle.arch_defs.specs.CsrAccess.{read_csr, write_csr}
use Rattle.arch_defs.specs.Interrupts.{due}
use Rattle.arch_defs.specs.Memory.{Memory, Mmu, SecondStage, machine_memory}
use Rattle.arch_defs.specs.Layouts.{Layout}
use Rattle.arch_defs.specs.Roots.{guest_shape}
use Rattle.arch_defs.specs.SecondStage.{missing_place_by, missing_place_trap, missing_place_under, second_root_of, second_walk}
use Rattle.arch_defs.specs.Traps.{exception, faults_of, is_virtual, target}
use Rattle.arch_defs.specs.Widths.{bytes_in}
use Rattle.op_defs.specs.declared.ops.DataAccess.{DataAccess}
use Rattle.op_defs.specs.declared.ops.Effect.{Effect}
use Rattle.op_defs.specs.declared.ops.Effect.TheVariants.{Sets, Raises, Data, Calls, Privileged as Decides}
use Rattle.op_defs.specs.declared.ops.Op.{Op}
use Rattle.op_defs.specs.declared.ops.Privileged.{Privileged}
use Rattle.op_defs.specs.declared.ops.Privileged.TheVariants.{Csr, Sret, Wfi, SfenceVma, HfenceVvma, HfenceGvma, HlvAccess}
use Rattle.op_defs.specs.Meaning.{meaning}
use Rattle.op_defs.specs.Table.{is_system, op_of}
use Rattle.machine_defs.specs.declared.events.Event.{Event}
use Rattle.machine_defs.specs.declared.events.Event.TheVariants as event
use Rattle.machine_defs.specs.Core.{At, Fails, Faults, Located, Misses, accessed, at_place, called_from, core, data_place, decoded, event_of, executed, fetch_place, kind_of, located, located_at, located_by, word_at}
use Rattle.machine_defs.specs.Outcomes.{Outcome, Done, Trapped, Missed, Called, Waits, Fenced, FirstFenced, Accesses}
use Rattle.machine_defs.specs.Privileges.{combined, csr_changed, csr_shown, decided, performed, privileged, refusal, value_or_zero}
use Rattle.machine_defs.specs.Machine.{Machine}
use Rattle.machine_defs.specs.Runs.{event_in, pc_and_word}
use Rattle.machine_defs.specs.Tries.{try}
use Rattle.rv64_decode.proofs.Indices.{other_opcode}
use Rattle.rv64_hart.specs.Counts.{IsRaisedBy}
use Rattle.rv64_hart.specs.MachineMemory.{mmu_on}
use Rattle.rv64_hart.specs.Steps.{Attempt, Exits, Goes, HartEnd, Makes, Progress, Raises as Traps, attempt_of, end_by, enters_vs, found_at_exit, hart_step, hart_steps, next_attempt, one_more_step, progress, progressed, trapped_to, caching_found, with_found_on}
use Rattle.shadow_pool.specs.Slots.{Pooled}
use Rattle.world_switch.specs.Hosting.{after_hs_trap, hosted_level, loaded_in, saved_in}
use Rattle.guest_exit.specs.HartEntry.{is_watched, taken_back}
use Rattle.hosted_steps.specs.HartSteps.{Follows, IsAt, event_for, host_takes, root_for}
use Rattle.hosted_steps.proofs.Followed.{followed}
use Rattle.hosted_steps.proofs.Interrupts.{IsDue, due_alike}

-- the words of instructions end in 11
none_else : (word : ℕ) → nat_eq (word % 4) 3 ≡ false → op_of word ≡ None
unfolding op_of
none_else word other = rw (
  other_opcode word 0b0110111 other refl,
  other_opcode word 0b0010111 other refl,
  other_opcode word 0b1101111 other refl,
  other_opcode word 0b1100111 other refl,
  other_opcode word 0b1100011 other refl,
  other_opcode word 0b0000011 other refl,
  other_opcode word 0b0100011 other refl,
  other_opcode word 0b0010011 other refl,
  other_opcode word 0b0110011 other refl,
  other_opcode word 0b0011011 other refl,
  other_opcode word 0b0111011 other refl,
  other_opcode word 0b0001111 other refl,
  other_opcode word 0b0101111 other refl,
  other_opcode word 0b1110011 other refl,
) refl

ends_in_11 : (word : ℕ) (o : Op) → op_of word ≡ Some o → word % 4 ≡ 3
ends_in_11 word o is = by (nat_eq (word % 4) 3) refl
  where
    by : (b : Bool) → nat_eq (word % 4) 3 ≡ b → word % 4 ≡ 3
    by true e = grind (arith, e)
    by false e = let never : Some o ≡ None = sym is ∙ none_else word e in absurd (cc)

-- what is known of the event of an instruction at pc that does not trap, and that a trap of its own is not an interrupt
record IsPlain (pc word : ℕ) (at : ℕ) : Type 0 where
  place : at ≡ pc
  small : word < 2 ^ 32
  low : word % 4 ≡ 3

abbrev IsEvent : ℕ → Event → Type 0
IsEvent pc (event.Plain at word) = IsPlain pc word at
IsEvent pc (event.Trap into interrupt) = ⊥
IsEvent pc event.System = Unit {0}

abbrev EndsSo : ℕ → Outcome → Type 0
EndsSo pc (Done state stored event) = IsEvent pc event
EndsSo pc (Trapped trap) = trap.interrupt ≡ false
EndsSo pc (Missed missing wanted) = Unit {0}
EndsSo pc Called = Unit {0}
EndsSo pc (Waits state) = Unit {0}
EndsSo pc (Fenced state fence) = Unit {0}
EndsSo pc (FirstFenced state named fence) = Unit {0}
EndsSo pc (Accesses wanted) = Unit {0}

-- where an access is made, or its own exception
abbrev FailsSo : Located → Type 0
FailsSo (At place) = Unit {0}
FailsSo (Fails (Faults trap)) = trap.interrupt ≡ false
FailsSo (Fails (Misses missing)) = Unit {0}

at_fails : (mode : Mode) (va : ℕ) (access : Access) (address : ℕ) (place : Option ℕ) → FailsSo (located_at mode va access address place)
at_fails mode va access address (Some place) = tt
at_fails mode va access address None = tt

found_fails : (second : SecondStage) (mode : Mode) (va : ℕ) (access : Access) (found : Found) → FailsSo (located_by second mode va access found)
found_fails second mode va access (Passes address) = at_fails mode va access address (second address access)
found_fails second mode va access PageFaults = refl
found_fails second mode va access (MissesEntry place) = tt

access_fails : (through : Mmu) (csrs : Csrs) (mode : Mode) (va : ℕ) (width : Width) (access : Access) → FailsSo (accessed through csrs mode va width access)
access_fails through csrs mode va width access =
    elim (va % bytes_in width == 0) as (λ b. FailsSo (cond b (located through csrs mode va access) (Fails (Faults (exception mode (faults_of access).misaligned va)))))
    [ true ↦ found_fails through.second mode va access _ | false ↦ refl ]

at_ends : (pc : ℕ) (wanted : Option DataAccess) (rest : ℕ → Outcome) → ((place : ℕ) → EndsSo pc (rest place)) → (located : Located) → FailsSo located → EndsSo pc (at_place wanted located rest)
at_ends pc wanted rest goes (At place) fails = goes place
at_ends pc wanted rest goes (Fails (Faults trap)) fails = fails
at_ends pc wanted rest goes (Fails (Misses missing)) fails = tt

-- an instruction on which the mode decides
shown_ends : (s : Virtual) (word rd : ℕ) (r : Result ℕ CsrEnd) → EndsSo s.regs.pc (csr_shown s word rd r)
shown_ends s word rd (Ok value) = tt
shown_ends s word rd (Err end) = refl

changed_ends : (s : Virtual) (word rd value : ℕ) (r : Result Csrs CsrEnd) → EndsSo s.regs.pc (csr_changed s word rd value r)
changed_ends s word rd value (Ok csrs) = tt
changed_ends s word rd value (Err end) = refl

performed_ends : (s : Virtual) (word : ℕ) (p : Privileged) → EndsSo s.regs.pc (performed s word p)
performed_ends s word (Csr op n operand true rd) =
    let before = value_or_zero (read_csr s.csrs s.mode n) in changed_ends s word rd before (write_csr s.csrs s.mode n (combined op before operand))
performed_ends s word (Csr op n operand false rd) = shown_ends s word rd (read_csr s.csrs s.mode n)
performed_ends s word Sret = tt
performed_ends s word Wfi = tt
performed_ends s word (SfenceVma fence) = tt
performed_ends s word (HfenceVvma fence) = tt
performed_ends s word (HfenceGvma fence) = tt
performed_ends s word (HlvAccess wanted) = tt

decided_ends : (s : Virtual) (word : ℕ) (p : Privileged) (end : Option CsrEnd) → EndsSo s.regs.pc (decided s word p end)
decided_ends s word p (Some end) = refl
decided_ends s word p None = performed_ends s word p

privileged_ends : (s : Virtual) (word : ℕ) (p : Privileged) → EndsSo s.regs.pc (privileged s word p)
unfolding privileged
privileged_ends s word p = decided_ends s word p (refusal p s.csrs.hstatus s.mode)

-- an instruction
event_is : (pc word : ℕ) → word < 2 ^ 32 → word % 4 ≡ 3 → IsEvent pc (event_of pc word)
event_is pc word small low =
    elim (is_system word) as (λ b. IsEvent pc (cond b event.System (event.Plain pc word))) [ true ↦ tt | false ↦ record { place = refl; small = small; low = low } ]

called_ends : (pc : ℕ) (mode : Mode) → EndsSo pc (called_from mode)
called_ends pc HS = tt
called_ends pc U = refl
called_ends pc VS = refl
called_ends pc VU = refl

executed_ends : (through : Mmu) (s : Virtual) (word : ℕ) → word < 2 ^ 32 → word % 4 ≡ 3 → (effect : Effect) → EndsSo s.regs.pc (executed through s word effect)
executed_ends through s word small low (Sets rd value next) = event_is s.regs.pc word small low
executed_ends through s word small low (Raises cause tval) = refl
executed_ends through s word small low (Data wanted) =
    at_ends s.regs.pc (Some wanted) _ (λ place. event_is s.regs.pc word small low) (data_place through s.csrs s.mode wanted)
    (access_fails through s.csrs s.mode wanted.address wanted.width (kind_of wanted.purpose))
executed_ends through s word small low Calls = called_ends s.regs.pc s.mode
executed_ends through s word small low (Decides p) = privileged_ends s word p

decoded_ends : (through : Mmu) (s : Virtual) (word : ℕ) → word < 2 ^ 32 → (o : Option Op) → op_of word ≡ o → EndsSo s.regs.pc (decoded through s word o)
decoded_ends through s word small (Some o) is = executed_ends through s word small (ends_in_11 word o is) (meaning o s.regs)
decoded_ends through s word small None is = refl

is_word : (n : ℕ) → n % 2 ^ 32 < 2 ^ 32
is_word n = omega arith

core_ends : (through : Mmu) (s : Virtual) → EndsSo s.regs.pc (core through s)
unfolding core
core_ends through s =
    at_ends s.regs.pc None _ (λ place. decoded_ends through s (word_at through.reading place) (is_word (through.reading place 4)) (op_of (word_at through.reading place)) refl)
    (fetch_place through s) (access_fails through s.csrs s.mode s.regs.pc Word Fetch)

-- a step of the hart, by whether an interrupt is due
abbrev IsStepEvent : ℕ → Bool → Event → Type 0
IsStepEvent pc interrupted (event.Plain at word) = IsPlain pc word at
IsStepEvent pc interrupted (event.Trap level.VS interrupt) = interrupt ≡ interrupted
IsStepEvent pc interrupted (event.Trap level.HS interrupt) = ⊥
IsStepEvent pc interrupted event.System = Unit {0}

abbrev GoesSo : ℕ → Bool → HartEnd → Type 0
GoesSo pc interrupted (Goes state memory event) = IsStepEvent pc interrupted event
GoesSo pc interrupted (Exits trap) = Unit {0}

trapped_goes : (pc : ℕ) (interrupted : Bool) (s : HartState) (memory : List ℕ) (trap : Trap) → trap.interrupt ≡ interrupted → (into : Level) → GoesSo pc interrupted (trapped_to s memory trap into)
trapped_goes pc interrupted s memory trap is level.VS = is
trapped_goes pc interrupted s memory trap is level.HS = tt

event_goes : (pc : ℕ) (interrupted : Bool) (e : Event) → IsEvent pc e → IsStepEvent pc interrupted e
event_goes pc interrupted (event.Plain at word) is = is
event_goes pc interrupted (event.Trap into interrupt) is = absurd is
event_goes pc interrupted event.System is = tt

abbrev AttemptsSo : ℕ → Bool → Attempt → Type 0
AttemptsSo pc interrupted (Makes state memory event) = IsStepEvent pc interrupted event
AttemptsSo pc interrupted (Traps trap) = trap.interrupt ≡ interrupted

attempt_goes : (pc : ℕ) (s : HartState) (memory : List ℕ) (o : Outcome) → EndsSo pc o → ((missing : MissingPlace) → (missing_place_trap s.virt.csrs (machine_memory memory) missing).interrupt ≡ false)
    → AttemptsSo pc false (attempt_of s memory o)
attempt_goes pc s memory (Done virt stored event) ends missed = event_goes pc false event ends
attempt_goes pc s memory (Trapped trap) ends missed = ends
attempt_goes pc s memory (Missed missing wanted) ends missed = missed missing
attempt_goes pc s memory Called ends missed = refl
attempt_goes pc s memory (Waits virt) ends missed = tt
attempt_goes pc s memory (Fenced virt fence) ends missed = tt
attempt_goes pc s memory (FirstFenced virt named fence) ends missed = tt
attempt_goes pc s memory (Accesses wanted) ends missed = refl

ended_goes : (pc : ℕ) (interrupted : Bool) (s : HartState) (memory : List ℕ) (a : Attempt) → AttemptsSo pc interrupted a → GoesSo pc interrupted (end_by s memory a)
ended_goes pc interrupted s memory (Makes after changed event) is = is
ended_goes pc interrupted s memory (Traps trap) is = trapped_goes pc interrupted s memory trap is (target s.virt.csrs s.virt.mode trap)

-- the trap of an access without a place is an exception
missed_by : (missing : MissingPlace) (end : SecondWalkEnd) → (missing_place_by missing end).interrupt ≡ false
missed_by missing (walk.Leaf leaf) = refl
missed_by missing (walk.Device leaf) = refl
missed_by missing walk.GuestPageFault = refl
missed_by missing walk.AccessFault = refl

missed_under : (memory : Memory) (mxr : Bool) (missing : MissingPlace) (root : GuestRoot) → (missing_place_under memory mxr missing root).interrupt ≡ false
missed_under memory mxr missing root.Bare = refl
missed_under memory mxr missing (root.Table mode vmid ppn) = missed_by missing (second_walk memory mxr (guest_shape mode) ppn missing.address missing.kind)

next_goes : (s : HartState) (memory : List ℕ) (code : Option ℕ) → AttemptsSo s.virt.regs.pc (is_some code) (next_attempt s memory code)
next_goes s memory (Some code) = refl
next_goes s memory None =
    attempt_goes s.virt.regs.pc (with_found_on s memory) memory (core (mmu_on s memory) s.virt) (core_ends (mmu_on s memory) s.virt)
    (λ missing. missed_under (machine_memory memory) s.virt.csrs.hs.status.mxr missing (second_root_of s.virt.csrs missing.mode))

hart_goes : (s : HartState) (memory : List ℕ) → GoesSo s.virt.regs.pc (is_some (due s.virt.csrs s.virt.mode)) (hart_step s memory)
unfolding hart_step
hart_goes s memory =
    ended_goes s.virt.regs.pc (is_some (due s.virt.csrs s.virt.mode)) (caching_found s (found_at_exit s memory)) memory (next_attempt s memory (due s.virt.csrs s.virt.mode))
    (next_goes s memory (due s.virt.csrs s.virt.mode))

-- where the hart stands for a machine, an interrupt is due on both or on none
alike_by : (lone hart : Option ℕ) (virtual : Bool) (hideleg : Interrupts) → IsDue lone virtual hideleg hart → is_some hart ≡ is_some lone
alike_by None hart virtual hideleg is = rw is refl
alike_by (Some code) hart false hideleg (is, given) = rw is refl
alike_by (Some code) hart true hideleg (is, given) = rw is refl

stands_goes : (part : Layout) (pool : Pooled) (m : Machine) (memory : List ℕ) → host_takes m.platform.virt ≡ false
    → GoesSo m.platform.virt.regs.pc (is_some (due m.platform.virt.csrs m.platform.virt.mode)) (hart_step (loaded_in part (root_for part pool m.platform.virt) m.platform.virt) memory)
stands_goes part pool m memory free =
    let v = m.platform.virt in
    let s = loaded_in part (root_for part pool v) v in
    let same : is_some (due s.virt.csrs s.virt.mode) ≡ is_some (due v.csrs v.mode) =
    alike_by (due v.csrs v.mode) (due s.virt.csrs s.virt.mode) (is_virtual v.mode) v.csrs.hideleg (due_alike (root_for part pool v) v.csrs v.mode free) in
    subst (λ interrupted. GoesSo v.regs.pc interrupted (hart_step s memory)) same (hart_goes s memory)

-- what is told of a step that the hart has made, watched
pub record IsShown (m : Machine) (t : ℕ) (q : Progress) : Type 0 where
  event : Event
  is : event_in (try m) ≡ event_for (is_virtual m.platform.virt.mode) event ∷ []
  kind : IsStepEvent m.platform.virt.regs.pc (is_some (due m.platform.virt.csrs m.platform.virt.mode)) event
  trace : (t + pc_and_word event) % 2 ^ 64 ≡ q.trace
  trapped : enters_vs event ≡ q.trapped

shown_by : (part : Layout) (root : GuestRoot) (m : Machine) (memory : List ℕ) (end : HartEnd) (t : ℕ) (q : Progress) → Follows part root m memory end
    → GoesSo m.platform.virt.regs.pc (is_some (due m.platform.virt.csrs m.platform.virt.mode)) end → progressed true t end ≡ Some q → IsShown m t q
shown_by part root m memory (Goes state changed e) t q by kind some =
    let same = same_Some (progress state changed ((t + pc_and_word e) % 2 ^ 64) (enters_vs e)) q some in
    record {
      event = e;
      is = ap event_in by.step;
      kind = kind;
      trace = ap (λ (p : Progress). p.trace) same;
      trapped = ap (λ (p : Progress). p.trapped) same;
    }
shown_by part root m memory (Exits trap) t q by kind some = absurd (none-some q some)

-- a run of at most one step: without a watch it is the same but for the flag
unwatched_end : (watch : Bool) (end : HartEnd) (t : ℕ) (q : Progress) → progressed true t end ≡ Some q → progressed watch t end ≡ Some (record q { trapped = watch && q.trapped })
unwatched_end watch (Goes state changed e) t q some = ap (λ (p : Progress). Some (record p { trapped = watch && p.trapped })) (same_Some _ q some)
unwatched_end watch (Exits trap) t q some = absurd (none-some q some)

pub never_watched : (watch : Bool) → (watch && false) ≡ false
never_watched true = refl
never_watched false = refl

pub unwatched : (watch : Bool) (n : ℕ) (s : HartState) (memory : List ℕ) (t : ℕ) (q : Progress) → n ≤ 1 → hart_steps true n (progress s memory t false) ≡ Some q
    → hart_steps watch n (progress s memory t false) ≡ Some (record q { trapped = watch && q.trapped })
unfolding hart_steps one_more_step
unwatched watch zero s memory t q few some =
    ap (λ trapped. Some (progress s memory t trapped)) (sym (never_watched watch)) ∙ ap (λ (p : Progress). Some (record p { trapped = watch && p.trapped })) (same_Some _ q some)
unwatched watch (suc zero) s memory t q few some = unwatched_end watch (hart_step s memory) t q some
unwatched watch (suc (suc n)) s memory t q few some = absurd (omega (arith, few))

-- what is taken back does not depend on it
pub back_alike : (part : Layout) (hart before : Virtual) (trapped : Bool) → taken_back part hart trapped before ≡ taken_back part hart (is_watched before && trapped) before
back_alike part hart before trapped = by (is_virtual before.mode) trapped
  where
    by : (virtual trapped : Bool)
        → cond (trapped && not virtual) (after_hs_trap (saved_in part hart before)) (saved_in part hart before)
        ≡ cond (not virtual && trapped && not virtual) (after_hs_trap (saved_in part hart before)) (saved_in part hart before)
    by true true = refl
    by true false = refl
    by false true = refl
    by false false = refl

-- the step of an entry for one, and how many steps that made
pub one_taken : (n : ℕ) (s : HartState) (memory : List ℕ) (t : ℕ) (q : Progress) → n ≤ 1 → hart_steps true n (progress s memory t false) ≡ Some q → q.trapped ≡ true → n ≡ 1
unfolding hart_steps
one_taken zero s memory t q few some trapped =
    let never : false ≡ true = ap (λ (p : Progress). p.trapped) (same_Some _ q some) ∙ trapped in absurd (cc)
one_taken (suc zero) s memory t q few some trapped = refl
one_taken (suc (suc n)) s memory t q few some trapped = absurd (omega (arith, few))

pub shown : (part : Layout) (pool : Pooled) (m : Machine) (memory : List ℕ) (t n : ℕ) (q : Progress) → host_takes m.platform.virt ≡ false → IsAt part pool m memory → n ≡ 1
    → hart_steps true n (progress (loaded_in part (root_for part pool m.platform.virt) m.platform.virt) memory t false) ≡ Some q → IsShown m t q
unfolding hart_steps one_more_step
shown part pool m memory t zero q free at one some = absurd (omega (arith, one))
shown part pool m memory t (suc zero) q free at one some =
    shown_by part (root_for part pool m.platform.virt) m memory _ t q (followed part pool m memory free at) (stands_goes part pool m memory free) some
shown part pool m memory t (suc (suc n)) q free at one some = absurd (omega (arith, one))

-- a trap into VS
pub trap_shown : (m : Machine) (t : ℕ) (q : Progress) → IsShown m t q → q.trapped ≡ true
    → event_in (try m) ≡ event.Trap (hosted_level (is_virtual m.platform.virt.mode)) (is_some (due m.platform.virt.csrs m.platform.virt.mode)) ∷ []
trap_shown m t q is trapped = is.is ∙ by is.event (is.trapped ∙ trapped) is.kind
  where
    virtual : Bool
    virtual = is_virtual m.platform.virt.mode

    interrupted : Bool
    interrupted = is_some (due m.platform.virt.csrs m.platform.virt.mode)

    by : (e : Event) → enters_vs e ≡ true → IsStepEvent m.platform.virt.regs.pc interrupted e → event_for virtual e ∷ [] ≡ event.Trap (hosted_level virtual) interrupted ∷ []
    by (event.Plain at word) enters kind = absurd (cc)
    by (event.Trap level.VS interrupt) enters kind = rw kind refl
    by (event.Trap level.HS interrupt) enters kind = absurd kind
    by event.System enters kind = absurd (cc)

-- another step, by what it has added to the trace
pub record TellsAdded (pc added : ℕ) (result : Event) : Type 0 where
  pub system : added ≡ 0 → result ≡ event.System
  pub plain : (word : ℕ) → pc % 4 ≡ 0 → word % 4 ≡ 3 → word < 2 ^ 32 → added ≡ (pc + word) % 2 ^ 64 → result ≡ event.Plain pc word

none_added : (t u added : ℕ) → t < 2 ^ 64 → IsRaisedBy added t u → added < 2 ^ 64 → (t + 0) % 2 ^ 64 ≡ u → added ≡ 0
none_added t u added small raised within same = omega (arith, small, raised, within, same)

some_added : (t u added x : ℕ) → t < 2 ^ 64 → IsRaisedBy added t u → added < 2 ^ 64 → (t + x) % 2 ^ 64 ≡ u → added ≡ x % 2 ^ 64
some_added t u added x small raised within same = omega (arith, small, raised, within, same)

pub other_shown : (m : Machine) (t added : ℕ) (q : Progress) (result : Event) → IsShown m t q → q.trapped ≡ false → m.platform.virt.regs.pc % 4 ≡ 0 → t < 2 ^ 64
    → IsRaisedBy added t q.trace → added < 2 ^ 64 → TellsAdded m.platform.virt.regs.pc added result → event_in (try m) ≡ result ∷ []
other_shown m t added q result is none aligned small raised within tells = is.is ∙ by is.event (is.trapped ∙ none) is.kind is.trace
  where
    virtual : Bool
    virtual = is_virtual m.platform.virt.mode

    pc : ℕ
    pc = m.platform.virt.regs.pc

    by : (e : Event) → enters_vs e ≡ false → IsStepEvent pc (is_some (due m.platform.virt.csrs m.platform.virt.mode)) e → (t + pc_and_word e) % 2 ^ 64 ≡ q.trace
        → event_for virtual e ∷ [] ≡ result ∷ []
    by (event.Plain at word) enters kind trace =
        let here = ap (λ at. (t + (at + word)) % 2 ^ 64) (sym kind.place) ∙ trace in
        ap (λ at. event.Plain at word ∷ []) kind.place
        ∙ ap (λ e. e ∷ []) (sym (tells.plain word aligned kind.low kind.small (some_added t q.trace added (pc + word) small raised within here)))
    by (event.Trap level.VS interrupt) enters kind trace = absurd (cc)
    by (event.Trap level.HS interrupt) enters kind trace = absurd kind
    by event.System enters kind trace = ap (λ e. e ∷ []) (sym (tells.system (none_added t q.trace added small raised within trace)))
