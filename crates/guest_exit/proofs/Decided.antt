-- An instruction on which the mode decides: its word, its op and its effect.
use Rattle.std.specs.Prelude.{◌≢◌, if◌then◌else◌}
use Rattle.std.proofs.Common.{◌≡◌, List, ℕ, Bool, true, false, Option, Some, None, refl, subst}
use Rattle.std.proofs.lemmas.Option.{same_Some}
use Rattle.arch_defs.specs.declared.csr_names.CsrEnd.{CsrEnd}
use Rattle.arch_defs.specs.declared.first.FirstEntry.{FirstEntry}
use Rattle.arch_defs.specs.declared.registers.Virtual.{Virtual}
use Rattle.arch_defs.specs.Memory.{Mmu}
use Rattle.arch_defs.specs.declared.widths.Width.{Width}
use Rattle.op_defs.specs.declared.ops.CsrOp.{CsrOp}
use Rattle.op_defs.specs.declared.ops.CsrSource.{CsrSource}
use Rattle.op_defs.specs.declared.ops.Op.{Op}
use Rattle.op_defs.specs.declared.ops.Op.TheVariants as op
use Rattle.op_defs.specs.declared.ops.Privileged.{Privileged}
use Rattle.op_defs.specs.declared.ops.Privileged.TheVariants.{Wfi, SfenceVma, HfenceVvma, HfenceGvma}
use Rattle.op_defs.specs.declared.ops.DataAccess.{DataAccess}
use Rattle.op_defs.specs.Meaning.{fence_named, first_fence_named, meaning}
use Rattle.op_defs.specs.Table.{op_of}
use Rattle.machine_defs.specs.declared.events.Event.TheVariants.{System}
use Rattle.machine_defs.specs.Core.{decoded}
use Rattle.machine_defs.specs.Machine.{Machine}
use Rattle.arch_defs.specs.Registers.{passed}
use Rattle.machine_defs.specs.Outcomes.{Outcome, Accesses, Done, Waits}
use Rattle.machine_defs.specs.Runs.{event_in, left_by}
use Rattle.machine_defs.specs.Privileges as privileges
use Rattle.machine_defs.specs.Privileges.{performed, privileged, refusal}
use Rattle.run_laws.specs.StorableStates.{IsStorable}
use Rattle.machine_defs.specs.Tries.{mmu_of}
use Rattle.instruction_laws.proofs.KeptFirst.{KeepsFirst, decoded_first}
use Rattle.run_laws.proofs.OpWidths.{HasWidth}
use Rattle.run_laws.proofs.StorableRuns.{IsFine, op_fine}
use Rattle.rv64_asm.specs.Fitting.{fits}
use Rattle.rv64_asm.specs.Words.{encoded}
use Rattle.rv64_asm.proofs.Decoded as coded
use Rattle.hcsr_emulation.specs.Ends.{is_decided}
use Rattle.hosted_steps.specs.ExitCases.{Instruction, decided_end}
use Rattle.guest_exit.specs.declared.guests.Guest.{Guest}
use Rattle.guest_exit.specs.declared.hart_exit.Handled.{Handled}
use Rattle.guest_exit.specs.declared.hart_exit.Handled.TheVariants.{Retry, Stopped}
use Rattle.guest_exit.specs.HartExit.{IsDecidedOp, IsMadeFor, IsTold, IsWaitOrFence, KeepsOutside, events_told, try_left}
use Rattle.guest_exit.specs.Steps.{IsNotPlain}
use Rattle.guest_exit.specs.View.{machine_of}

-- the mode decides on the op that a word gives, and its fields fit
by_test : (word : ℕ) (o p : Op) (test : Bool) → is_decided p ≡ test → op_of word ≡ Some p → (if test then Some p else None) ≡ Some o → IsDecidedOp o
by_test word o p true decided is e = subst IsDecidedOp (same_Some p o e) (record { decided = decided; fits = (coded.decoded word p is).fits })
by_test word o p false decided is e = cc

-- a WFI or a fence makes no access to data
abbrev MakesNone : Outcome → Type 0
MakesNone (Accesses wanted) = ⊥
MakesNone other = Unit {0}

none_by : (state : Virtual) (word : ℕ) (p : Privileged) (end : Option CsrEnd) → MakesNone (performed state word p) → MakesNone (privileges.decided state word p end)
none_by state word p (Some end) h = tt
none_by state word p None h = h

makes_none : (o : Op) (state : Virtual) (word : ℕ) (through : Mmu) → IsWaitOrFence o → MakesNone (decoded through state word (Some o))
unfolding privileged meaning
makes_none op.Wfi state word through kind = none_by state word Wfi (refusal Wfi state.csrs.hstatus state.mode) tt
makes_none (op.SfenceVma rs1 rs2) state word through kind =
    let fence = first_fence_named rs1 rs2 state.regs in none_by state word (SfenceVma fence) (refusal (SfenceVma fence) state.csrs.hstatus state.mode) tt
makes_none (op.HfenceVvma rs1 rs2) state word through kind =
    let fence = first_fence_named rs1 rs2 state.regs in none_by state word (HfenceVvma fence) (refusal (HfenceVvma fence) state.csrs.hstatus state.mode) tt
makes_none (op.HfenceGvma rs1 rs2) state word through kind =
    let fence = fence_named rs1 rs2 state.regs in none_by state word (HfenceGvma fence) (refusal (HfenceGvma fence) state.csrs.hstatus state.mode) tt
makes_none other state word through kind = absurd kind

pub accesses_never : (o : Op) (state : Virtual) (word : ℕ) (through : Mmu) (wanted : DataAccess) → IsWaitOrFence o
    → decoded through state word (Some o) ≡ Accesses wanted → ⊥
accesses_never o state word through wanted kind e = subst MakesNone e (makes_none o state word through kind)

-- a WFI that is made leaves pc gone on, and nothing else changed
abbrev PassesIfWaits : Virtual → Outcome → Type 0
PassesIfWaits before (Waits after) = after ≡ passed before
PassesIfWaits before other = Unit {0}

waits_by : (state : Virtual) (word : ℕ) (p : Privileged) (end : Option CsrEnd) → PassesIfWaits state (performed state word p) → PassesIfWaits state (privileges.decided state word p end)
waits_by state word p (Some end) h = tt
waits_by state word p None h = h

passes_if_waits : (o : Op) (state : Virtual) (word : ℕ) (through : Mmu) → IsWaitOrFence o → PassesIfWaits state (decoded through state word (Some o))
unfolding privileged meaning
passes_if_waits op.Wfi state word through kind = waits_by state word Wfi (refusal Wfi state.csrs.hstatus state.mode) refl
passes_if_waits (op.SfenceVma rs1 rs2) state word through kind =
    let fence = first_fence_named rs1 rs2 state.regs in waits_by state word (SfenceVma fence) (refusal (SfenceVma fence) state.csrs.hstatus state.mode) tt
passes_if_waits (op.HfenceVvma rs1 rs2) state word through kind =
    let fence = first_fence_named rs1 rs2 state.regs in waits_by state word (HfenceVvma fence) (refusal (HfenceVvma fence) state.csrs.hstatus state.mode) tt
passes_if_waits (op.HfenceGvma rs1 rs2) state word through kind =
    let fence = fence_named rs1 rs2 state.regs in waits_by state word (HfenceGvma fence) (refusal (HfenceGvma fence) state.csrs.hstatus state.mode) tt
passes_if_waits other state word through kind = absurd kind

pub wait_passes : (o : Op) (state after : Virtual) (word : ℕ) (through : Mmu) → IsWaitOrFence o
    → decoded through state word (Some o) ≡ Waits after → after ≡ passed state
wait_passes o state after word through kind e = subst (PassesIfWaits state) e (passes_if_waits o state word through kind)

-- the mode decides on it
pub wait_is_op : (o : Op) → IsWaitOrFence o → IsDecidedOp o
unfolding is_decided fits
wait_is_op op.Wfi kind = record { decided = refl; fits = refl }
wait_is_op (op.SfenceVma rs1 rs2) kind = record { decided = refl; fits = refl }
wait_is_op (op.HfenceVvma rs1 rs2) kind = record { decided = refl; fits = refl }
wait_is_op (op.HfenceGvma rs1 rs2) kind = record { decided = refl; fits = refl }
wait_is_op other kind = absurd kind

-- it asks for no reservation
decided_width : (o : Op) → is_decided o ≡ true → HasWidth o
unfolding is_decided
decided_width (op.LoadReserved w rd rs1) e = cc
decided_width other e = tt

-- what it leaves of registers that can be stored can be stored, whatever is cached
pub done_storable : (m : Machine) (o : Op) (after : Virtual) (first : List FirstEntry) → is_decided o ≡ true → IsStorable m.platform.virt
    → decided_end m o ≡ Done after None System → IsStorable (record after { first = first })
done_storable m o after first decided is e =
    let left : IsStorable after = subst IsFine e (op_fine m (encoded o) o (decided_width o decided) is) in
    record { x0 = left.x0; pc = left.pc; csrs = left.csrs; reservation = left.reservation }

-- an op on which the mode decides is one of these
pub decided_else : (o : Op) → is_decided o ≡ true → ((csr : CsrOp) (source : CsrSource) (rd number : ℕ) → o ≡ op.Csr csr source rd number → ⊥) → (o ≡ op.Sret → ⊥)
    → (o ≡ op.Wfi → ⊥) → ((rs1 rs2 : ℕ) → o ≡ op.SfenceVma rs1 rs2 → ⊥) → ((rs1 rs2 : ℕ) → o ≡ op.HfenceVvma rs1 rs2 → ⊥) → ((rs1 rs2 : ℕ) → o ≡ op.HfenceGvma rs1 rs2 → ⊥)
    → ((width : Width) (signed : Bool) (rd rs1 : ℕ) → o ≡ op.GuestLoad width signed rd rs1 → ⊥) → ((width : Width) (rd rs1 : ℕ) → o ≡ op.GuestFetch width rd rs1 → ⊥)
    → ((width : Width) (rs1 rs2 : ℕ) → o ≡ op.GuestStore width rs1 rs2 → ⊥) → ⊥
unfolding is_decided
decided_else (op.Csr csr source rd number) e on_csr on_sret on_wfi on_sfence on_vvma on_gvma on_load on_fetch on_store = on_csr csr source rd number refl
decided_else op.Sret e on_csr on_sret on_wfi on_sfence on_vvma on_gvma on_load on_fetch on_store = on_sret refl
decided_else op.Wfi e on_csr on_sret on_wfi on_sfence on_vvma on_gvma on_load on_fetch on_store = on_wfi refl
decided_else (op.SfenceVma rs1 rs2) e on_csr on_sret on_wfi on_sfence on_vvma on_gvma on_load on_fetch on_store = on_sfence rs1 rs2 refl
decided_else (op.HfenceVvma rs1 rs2) e on_csr on_sret on_wfi on_sfence on_vvma on_gvma on_load on_fetch on_store = on_vvma rs1 rs2 refl
decided_else (op.HfenceGvma rs1 rs2) e on_csr on_sret on_wfi on_sfence on_vvma on_gvma on_load on_fetch on_store = on_gvma rs1 rs2 refl
decided_else (op.GuestLoad width signed rd rs1) e on_csr on_sret on_wfi on_sfence on_vvma on_gvma on_load on_fetch on_store = on_load width signed rd rs1 refl
decided_else (op.GuestFetch width rd rs1) e on_csr on_sret on_wfi on_sfence on_vvma on_gvma on_load on_fetch on_store = on_fetch width rd rs1 refl
decided_else (op.GuestStore width rs1 rs2) e on_csr on_sret on_wfi on_sfence on_vvma on_gvma on_load on_fetch on_store = on_store width rs1 rs2 refl
decided_else other e on_csr on_sret on_wfi on_sfence on_vvma on_gvma on_load on_fetch on_store = cc

-- what such an instruction leaves has the translations that there were
pub kept_first : (m : Machine) (op : Op) (end : Outcome) → decided_end m op ≡ end → KeepsFirst m.platform.virt end
kept_first m op end is = subst (KeepsFirst m.platform.virt) is (decoded_first m.platform.virt (mmu_of m) (encoded op) (Some op))

-- it is made where the host neither fills nor stops for it
pub decided_made : (o : Op) (result : Handled) (before after : Guest) (memory changed : List ℕ) → result ≢ Retry → result ≢ Stopped
    → machine_of after changed ≡ left_by (machine_of before memory) (try_left (machine_of before memory) (Instruction o))
    → IsNotPlain (try_left (machine_of before memory) (Instruction o)) → event_in (try_left (machine_of before memory) (Instruction o)) ≡ events_told result
    → IsTold result before after → KeepsOutside before memory after changed → IsMadeFor (Instruction o) result before memory after changed
decided_made o result before after memory changed went runs step quiet event told within = record {
  makes = record { ready = λ went. refl; step = λ went. step; fill = λ retry. absurd (went retry) };
  stops = (λ e. absurd (runs e), λ stop. absurd (cc));
  quiet = quiet;
  event = λ went. event;
  told = told;
  within = within;
}
