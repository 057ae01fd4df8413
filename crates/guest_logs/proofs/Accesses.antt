-- The access to data that an instruction makes, by how it ends.
use Rattle.std.specs.Prelude.{◌≢◌, option_map}
use Rattle.std.specs.Result.{result_ok}
use Rattle.std.proofs.Common.{◌≡◌, ◌∙◌, ℕ, false, Option, Some, None, refl, ap, sym}
use Rattle.arch_defs.specs.declared.registers.Csrs.{Csrs}
use Rattle.arch_defs.specs.declared.registers.Virtual.{Virtual}
use Rattle.arch_defs.specs.Interrupts.{due}
use Rattle.arch_defs.specs.Memory.{Memory, Mmu, ram_memory}
use Rattle.op_defs.specs.declared.ops.DataAccess.{DataAccess}
use Rattle.op_defs.specs.declared.ops.Effect.{Effect}
use Rattle.op_defs.specs.declared.ops.Effect.TheVariants.{Sets, Raises, Data, Calls, Privileged}
use Rattle.op_defs.specs.declared.ops.Op.{Op}
use Rattle.op_defs.specs.Meaning.{meaning}
use Rattle.op_defs.specs.Table.{op_of}
use Rattle.machine_defs.specs.declared.events.Event.{Event}
use Rattle.machine_defs.specs.Answers.{answer_of}
use Rattle.machine_defs.specs.Core.{At, Fails, Faults, Located, Misses, accessed_data, at_place, completed, core, data_place, decoded, done, event_of, executed, fetch_place, instruction, word_at}
use Rattle.machine_defs.specs.HlvAccesses.{hlv_place}
use Rattle.machine_defs.specs.Machine.{Machine}
use Rattle.machine_defs.specs.Outcomes.{Outcome}
use Rattle.machine_defs.specs.Outcomes as outcome
use Rattle.machine_defs.specs.Tries.{mmu_of, outcome_under, stages_of}
use Rattle.instruction_laws.specs.MissedPlaces.{wanted_at, wanted_by, wanted_of}
use Rattle.rv64_hart.specs.NextAccesses.{placed_access, with_place}
use Rattle.guest_exit.specs.NextSteps.{access_next, access_with}
use Rattle.run_log.specs.Seen.{step_outcome, step_outcome_with}
use Rattle.run_log.specs.Steps.{MadeAccess, access_made, access_made_by, access_made_if, own_access}
use Rattle.run_log.specs.Uses.{data_next}
use Rattle.step_lines.specs.Acts.{act_in}
use Rattle.step_lines.specs.declared.acts.Act.{Act}
use Rattle.step_lines.specs.declared.acts.Act.TheVariants as act
use Rattle.guest_logs.specs.HostTries.{access_seen, hlv_wanted}

-- an access with its place, as the log has it
seen_if : (wanted : DataAccess) (located : Located) → option_map access_seen (with_place wanted located) ≡ access_made_if wanted located
seen_if wanted (At place) = refl
seen_if wanted (Fails failure) = refl

seen_own : (m : Machine) (wanted : Option DataAccess) → option_map access_seen (placed_access (mmu_of m) m.platform.virt wanted) ≡ own_access m wanted
seen_own m (Some wanted) = seen_if wanted (data_place (mmu_of m) m.platform.virt.csrs m.platform.virt.mode wanted)
seen_own m None = refl

-- an instruction that does not end with an access has none of its own
abbrev IsMadeBy : Option MadeAccess → Outcome → Type 0
IsMadeBy made (outcome.Done virt stored event) = Unit {0}
IsMadeBy made (outcome.Accesses wanted) = Unit {0}
IsMadeBy made (outcome.Trapped trap) = made ≡ None
IsMadeBy made (outcome.Missed missing wanted) = made ≡ None
IsMadeBy made outcome.Called = made ≡ None
IsMadeBy made (outcome.Waits virt) = made ≡ None
IsMadeBy made (outcome.Fenced virt named) = made ≡ None
IsMadeBy made (outcome.FirstFenced virt tag named) = made ≡ None

none_made : (made : Option MadeAccess) (o : Outcome) → made ≡ None → IsMadeBy made o
none_made made (outcome.Done virt stored event) is = tt
none_made made (outcome.Accesses wanted) is = tt
none_made made (outcome.Trapped trap) is = is
none_made made (outcome.Missed missing wanted) is = is
none_made made outcome.Called is = is
none_made made (outcome.Waits virt) is = is
none_made made (outcome.Fenced virt named) is = is
none_made made (outcome.FirstFenced virt tag named) is = is

data_made : (wanted : DataAccess) (located : Located) (event : Event) (rest : ℕ → Outcome) → ((place : ℕ) → IsMadeBy (Some (access_seen (wanted, place))) (rest place))
    → IsMadeBy (access_made_if wanted located) (at_place (Some wanted) located rest)
data_made wanted (At place) event rest made = made place
data_made wanted (Fails (Faults trap)) event rest made = refl
data_made wanted (Fails (Misses missing)) event rest made = refl

effect_made : (m : Machine) (word : ℕ) (effect : Effect) → IsMadeBy (own_access m (wanted_by effect)) (executed (mmu_of m) m.platform.virt word effect)
effect_made m word (Data wanted) =
    let virt = m.platform.virt in
    data_made wanted (data_place (mmu_of m) virt.csrs virt.mode wanted) (event_of virt.regs.pc word)
    (λ place. done (event_of virt.regs.pc word) (completed (mmu_of m).reading virt wanted.width wanted.purpose place)) (λ place. tt)
effect_made m word (Sets rd value next) = none_made None (executed (mmu_of m) m.platform.virt word (Sets rd value next)) refl
effect_made m word (Raises cause tval) = none_made None (executed (mmu_of m) m.platform.virt word (Raises cause tval)) refl
effect_made m word Calls = none_made None (executed (mmu_of m) m.platform.virt word Calls) refl
effect_made m word (Privileged asked) = none_made None (executed (mmu_of m) m.platform.virt word (Privileged asked)) refl

op_made : (m : Machine) (word : ℕ) (o : Option Op) → IsMadeBy (own_access m (wanted_of m.platform.virt o)) (decoded (mmu_of m) m.platform.virt word o)
op_made m word (Some o) = effect_made m word (meaning o m.platform.virt.regs)
op_made m word None = none_made None (decoded (mmu_of m) m.platform.virt word None) refl

core_made : (m : Machine) → IsMadeBy (own_access m (data_next m)) (outcome_under (stages_of m) m)
unfolding core
core_made m = by (fetch_place (mmu_of m) m.platform.virt)
  where
    by : (located : Located) → IsMadeBy (own_access m (wanted_at (mmu_of m).reading m.platform.virt located))
        (at_place None located (λ place. instruction (mmu_of m) m.platform.virt (word_at (mmu_of m).reading place)))
    by (At place) = let word = word_at (mmu_of m).reading place in op_made m word (op_of word)
    by (Fails (Faults trap)) = refl
    by (Fails (Misses missing)) = refl

-- the access of one that ends otherwise than as HLV, HLVX and HSV do
own_by : (m : Machine) (o : Outcome) → IsMadeBy (own_access m (data_next m)) o → ((wanted : DataAccess) → o ≢ outcome.Accesses wanted)
    → own_access m (data_next m) ≡ access_made_by m (Some o)
own_by m (outcome.Done virt stored event) made other = refl
own_by m (outcome.Accesses wanted) made other = absurd (other wanted refl)
own_by m (outcome.Trapped trap) made other = made
own_by m (outcome.Missed missing wanted) made other = made
own_by m outcome.Called made other = made
own_by m (outcome.Waits virt) made other = made
own_by m (outcome.Fenced virt named) made other = made
own_by m (outcome.FirstFenced virt tag named) made other = made

pub own_made : (m : Machine) (a : Act) → a ≡ act_in (step_outcome m) → hlv_wanted a ≡ None → option_map access_seen (access_next m) ≡ access_made m
unfolding access_next step_outcome access_made
own_made m a is other = by (due m.platform.virt.csrs m.platform.virt.mode) is
  where
    by : (code : Option ℕ) → a ≡ act_in (step_outcome_with m code) → option_map access_seen (access_with m code) ≡ access_made_by m (step_outcome_with m code)
    by (Some code) is = refl
    by None is = seen_own m (data_next m)
        ∙ own_by m (outcome_under (stages_of m) m) (core_made m) (λ wanted e. no_access wanted (is ∙ ap (λ o. act_in (Some o)) e))
      where
        no_access : (wanted : DataAccess) → a ≡ act.Accesses wanted → ⊥
        no_access wanted e = let wants : None ≡ Some wanted = sym other ∙ ap hlv_wanted e in absurd cc

-- and as they do
pub hlv_made : (m : Machine) (a : Act) (wanted : DataAccess) → a ≡ act_in (step_outcome m) → hlv_wanted a ≡ Some wanted
    → access_made_if wanted (hlv_place (ram_memory m.ram) m.platform.virt.csrs wanted) ≡ access_made m
unfolding access_made
hlv_made m a wanted is wants = by (step_outcome m) (ap hlv_wanted (sym is) ∙ wants)
  where
    by : (o : Option Outcome) → hlv_wanted (act_in o) ≡ Some wanted
        → access_made_if wanted (hlv_place (ram_memory m.ram) m.platform.virt.csrs wanted) ≡ access_made_by m o
    by (Some (outcome.Accesses other)) e = let same : wanted ≡ other = cc in rw same refl
    by (Some (outcome.Done virt stored event)) e = absurd cc
    by (Some (outcome.Trapped trap)) e = absurd cc
    by (Some (outcome.Missed missing other)) e = absurd cc
    by (Some outcome.Called) e = absurd cc
    by (Some (outcome.Waits virt)) e = absurd cc
    by (Some (outcome.Fenced virt named)) e = absurd cc
    by (Some (outcome.FirstFenced virt tag named)) e = absurd cc
    by None e = absurd cc

-- its place in RAM
pub hlv_there : (csrs : Csrs) (memory : Memory) (wanted : DataAccess) (located : Located) (place : ℕ)
    → Some place ≡ result_ok (answer_of false csrs memory located) → Some (access_seen (wanted, place)) ≡ access_made_if wanted located
hlv_there csrs memory wanted (At other) place is = let same : place ≡ other = cc in rw same refl
hlv_there csrs memory wanted (Fails (Faults trap)) place is = absurd cc
hlv_there csrs memory wanted (Fails (Misses missing)) place is = absurd cc

pub hlv_nowhere : (csrs : Csrs) (memory : Memory) (wanted : DataAccess) (located : Located)
    → None ≡ result_ok (answer_of false csrs memory located) → None ≡ access_made_if wanted located
hlv_nowhere csrs memory wanted (At other) is = absurd cc
hlv_nowhere csrs memory wanted (Fails failure) is = refl
