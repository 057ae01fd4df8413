-- A trap of the hart that stands for a guest, as what the guest's lone machine makes of it.
use Rattle.std.specs.Prelude.{◌==◌}
use Rattle.std.proofs.Common.{◌≡◌, ℕ, ◌+◌, ◌∙◌, Bool, List, [], Option, Some, None, true, false, refl, ap, sym, subst}
use Rattle.arch_defs.specs.declared.levels.Level.{Level}
use Rattle.arch_defs.specs.declared.levels.Level.TheVariants as level
use Rattle.arch_defs.specs.declared.modes.Mode.{Mode}
use Rattle.arch_defs.specs.declared.modes.Mode.TheVariants.{HS, U, VS, VU}
use Rattle.arch_defs.specs.declared.modes.Trap.{Trap}
use Rattle.arch_defs.specs.declared.modes.TheConstants.{ECALL_FROM_VS, VIRTUAL_INSTRUCTION}
use Rattle.arch_defs.specs.declared.registers.Csrs.{Csrs}
use Rattle.arch_defs.specs.declared.roots.GuestRoot.{GuestRoot}
use Rattle.arch_defs.specs.declared.registers.Regs.{Regs}
use Rattle.arch_defs.specs.declared.registers.Virtual.{Virtual}
use Rattle.arch_defs.specs.Interrupts.{interrupt_of, vs_bit}
use Rattle.arch_defs.specs.Frames.{in_blocks}
use Rattle.arch_defs.specs.Layouts.{Layout}
use Rattle.arch_defs.specs.Traps.{entered_at, entered_vs, exception, is_delegated, is_virtual, target}
use Rattle.arch_defs.proofs.FrameSets.{only_none}
use Rattle.machine_defs.specs.declared.events.Event.TheVariants as event
use Rattle.instruction_laws.specs.HostPlaces.{in_ram, memory_place}
use Rattle.machine_defs.specs.Machine.{Machine, Platform, Tried, stepped_to, trapped, with_registers}
use Rattle.machine_defs.specs.Tries.{apply_outcome, device_of, mmu_of}
use Rattle.op_defs.specs.declared.ops.CsrOp.{CsrOp}
use Rattle.op_defs.specs.declared.ops.Privileged.{Privileged}
use Rattle.op_defs.specs.declared.ops.Privileged.TheVariants.{Csr, Wfi}
use Rattle.machine_defs.specs.Outcomes.{Outcome, Trapped, Called}
use Rattle.machine_defs.specs.Privileges.{privileged, refusal}
use Rattle.world_switch.proofs.Instructions.{time_is_left}
use Rattle.instruction_laws.specs.Renaming.{ReservesWithin, renamed}
use Rattle.world_switch.specs.Hosting.{after_hs_trap, all_interrupts, guest_state_after, guest_state_of, hart_state_in, hart_state_of, hosted_csrs, hosted_level, hosted_mode, loaded_in}
use Rattle.world_switch.specs.Laws.{KeepsHidden}
use Rattle.world_switch.proofs.Undone.{back_nested, back_own, exception_taken, interrupt_taken, nested_trap_taken, virtual_mode}
use Rattle.hosted_steps.specs.ExitCases as case
use Rattle.hosted_steps.specs.ExitCases.{IsLeft, exit_of, having_found, is_guest_page_code, other_exit}
use Rattle.hosted_steps.specs.HartSteps.{ExitsAt, FollowsTry, IsAt, IsMade, KeepsHart, TimeExits, WaitsExit, step_for}
use Rattle.rv64_hart.specs.Steps.{HartEnd, end_by, found_by_attempt, next_attempt, trapped_to, caching_found, with_virt}
use Rattle.hosted_steps.proofs.Decided.{ends_as, instruction_of, is_decided_in}
use Rattle.hosted_steps.proofs.ExitCases.{instruction_exit_is, left_as, other_exit_is}
use Rattle.hosted_steps.proofs.Interrupts.{IsDue}
use Rattle.hosted_steps.proofs.Delegation.{IsOwn, never_10, never_22}
use Rattle.hosted_steps.proofs.Stands.{Own, Call, Nested, Left, Traps}
use Rattle.arch_defs.specs.declared.cached.Entry.{Entry}
use Rattle.arch_defs.specs.declared.first.FirstEntry.{FirstEntry}
use Rattle.arch_defs.specs.FirstEntries.{all_filled}
use Rattle.shadow_pool.specs.Slots.{Pooled}

-- where traps go: with V = 0 the guest's to its HS, with V = 1 where it delegates them, and the hart's to VS where they are
-- delegated, or to the host
to_hs : (csrs : Csrs) (mode : Mode) (trap : Trap) → is_virtual mode ≡ false → target csrs mode trap ≡ level.HS
unfolding target
to_hs csrs HS trap own = refl
to_hs csrs U trap own = refl
to_hs csrs VS trap own = cc
to_hs csrs VU trap own = cc

to_vs : (csrs : Csrs) (mode : Mode) (trap : Trap) → is_virtual mode ≡ true → is_delegated csrs trap.interrupt trap.cause ≡ true → target csrs mode trap ≡ level.VS
unfolding target
to_vs csrs mode trap on e = rw (on, e) refl

pub to_host : (csrs : Csrs) (mode : Mode) (trap : Trap) → is_virtual mode ≡ true → is_delegated csrs trap.interrupt trap.cause ≡ false → target csrs mode trap ≡ level.HS
unfolding target
to_host csrs mode trap on e = rw (on, e) refl

-- what the hart makes of a trap in a part of machine memory
abbrev pub taken : Layout → GuestRoot → Machine → List FirstEntry → List ℕ → Trap → HartEnd
taken part root m first memory trap =
    let v : Virtual = record m.platform.virt { first = first } in
    trapped_to (loaded_in part root v) memory trap (target (hosted_csrs root (is_virtual v.mode) v.csrs) (hosted_mode v.mode) trap)

-- a trap into VS changes nothing that the hart does not have for the guest
entry_keeps : (root : GuestRoot) (virtual : Bool) (csrs : Csrs) (regs : Regs) (mode : Mode) (trap : Trap)
    → KeepsHidden root virtual csrs (entered_vs (hosted_csrs root virtual csrs) regs mode trap).csrs
unfolding entered_vs
entry_keeps root false csrs regs mode trap = record { rest = refl; timer = λ e. refl; external = λ e. refl; waits = refl }
entry_keeps root true csrs regs mode trap = record { rest = refl; timer = λ e. cc; external = λ e. cc; waits = refl }

entered_keeps : (root : GuestRoot) (v : Virtual) (trap : Trap) → KeepsHart root v (entered_at (hart_state_of root v) trap level.VS)
unfolding entered_vs
entered_keeps root v trap = record { csrs = entry_keeps root (is_virtual v.mode) v.csrs v.regs (hosted_mode v.mode) trap; mode = refl }

-- nor the reservation
entered_renamed : (h : ℕ → ℕ) (s : Virtual) (trap : Trap) → entered_at (renamed h s) trap level.VS ≡ renamed h (entered_at s trap level.VS)
unfolding entered_vs
entered_renamed h s trap = refl

entered_held : (part : Layout) (s : Virtual) (trap : Trap) → ReservesWithin (in_ram part.blocks) s.reservation
    → ReservesWithin (in_ram part.blocks) (entered_at s trap level.VS).reservation
unfolding entered_vs
entered_held part s trap held = held

-- an entry into VS that stands for the machine's trap
entry_made : (part : Layout) {pool : Pooled} (root : GuestRoot) (m : Machine) (first : List FirstEntry) (memory : List ℕ) (trap : Trap) (tried : Tried) (lacks : Option Entry) (interrupt : Bool)
    → IsAt part pool m memory → lacks ≡ None
    → tried ≡ step_for m (entered_at (hart_state_of root (record m.platform.virt { first = first })) trap level.VS) true m.ram (event.Trap (hosted_level (is_virtual m.platform.virt.mode)) interrupt)
    → IsMade part root m tried lacks memory (with_virt (loaded_in part root (record m.platform.virt { first = first })) (entered_at (hart_state_in part root (record m.platform.virt { first = first })) trap level.VS)) memory
    (event.Trap level.VS interrupt)
entry_made part root m first memory trap tried lacks interrupt at ready step =
    let v : Virtual = record m.platform.virt { first = first } in
    record {
      own = entered_at (hart_state_of root v) trap level.VS;
      stands = record { state = entered_renamed (memory_place part.blocks) (hart_state_of root v) trap; tag = refl };
      step = rw (← at.ram) step;
      ready = ready;
      keeps = let keeps = entered_keeps root v trap in record { csrs = keeps.csrs; mode = keeps.mode };
      held = entered_held part (hart_state_of root v) trap at.reserved;
      only = only_none (in_blocks part.blocks) memory;
    }

-- an entry hands first-stage translations through
pub entered_first : (p : Platform) (trap : Trap) (into : Level) → with_registers p (entered_at p.virt trap into) ≡ record p { virt = entered_at p.virt trap into }
entered_first p trap level.HS = refl
entered_first p trap level.VS = refl

-- a trap of the machine by its level, and so with V = 0 into HS, and with V = 1 into VS
trapped_at : (m : Machine) (trap : Trap) (into : Level) → target m.platform.virt.csrs m.platform.virt.mode trap ≡ into
    → trapped m trap ≡ stepped_to m (record m.platform { virt = entered_at m.platform.virt trap into }) (event.Trap into trap.interrupt)
trapped_at m trap into e = ap (λ l. stepped_to m (with_registers m.platform (entered_at m.platform.virt trap l)) (event.Trap l trap.interrupt)) e
    ∙ ap (λ p. stepped_to m p (event.Trap into trap.interrupt)) (entered_first m.platform trap into)

entry_is : (m : Machine) (trap : Trap) (own : Virtual) (virtual : Bool) → is_virtual m.platform.virt.mode ≡ virtual
    → target m.platform.virt.csrs m.platform.virt.mode trap ≡ hosted_level virtual
    → guest_state_after true own m.platform.virt ≡ entered_at m.platform.virt trap (hosted_level virtual)
    → trapped m trap ≡ step_for m own true m.ram (event.Trap (hosted_level (is_virtual m.platform.virt.mode)) trap.interrupt)
entry_is m trap own virtual is goes same =
    trapped_at m trap (hosted_level virtual) goes
    ∙ ap (λ virt. stepped_to m (record m.platform { virt = virt }) (event.Trap (hosted_level virtual) trap.interrupt)) (sym same)
    ∙ ap (λ v. step_for m own true m.ram (event.Trap (hosted_level v) trap.interrupt)) (sym is)

hs_entry : (m : Machine) (trap : Trap) (own : Virtual) → is_virtual m.platform.virt.mode ≡ false → after_hs_trap (guest_state_of own m.platform.virt) ≡ entered_at m.platform.virt trap level.HS
    → trapped m trap ≡ step_for m own true m.ram (event.Trap (hosted_level (is_virtual m.platform.virt.mode)) trap.interrupt)
hs_entry m trap own is same = entry_is m trap own false is (to_hs m.platform.virt.csrs m.platform.virt.mode trap is) (back_own own m.platform.virt is ∙ same)

vs_entry : (m : Machine) (trap : Trap) (own : Virtual) → is_virtual m.platform.virt.mode ≡ true → is_delegated m.platform.virt.csrs trap.interrupt trap.cause ≡ true
    → guest_state_of own m.platform.virt ≡ entered_at m.platform.virt trap level.VS
    → trapped m trap ≡ step_for m own true m.ram (event.Trap (hosted_level (is_virtual m.platform.virt.mode)) trap.interrupt)
vs_entry m trap own on given same = entry_is m trap own true on (to_vs m.platform.virt.csrs m.platform.virt.mode trap on given) (back_nested own m.platform.virt on ∙ same)

-- an interrupt that both take, by the guest's V
own_interrupt : (part : Layout) {pool : Pooled} (root : GuestRoot) (m : Machine) (memory : List ℕ) (found : List FirstEntry) (lacks : Option Entry) (code : ℕ) → is_virtual m.platform.virt.mode ≡ false → vs_bit all_interrupts (code + 1) ≡ true
    → IsAt part pool m memory → lacks ≡ None → FollowsTry part root m found (trapped m (interrupt_of code)) lacks memory (taken part root m m.platform.virt.first memory (interrupt_of (code + 1)))
own_interrupt part root m memory found lacks code own e at ready =
    let v = m.platform.virt in
    rw (to_vs (hosted_csrs root (is_virtual v.mode) v.csrs) (hosted_mode v.mode) (interrupt_of (code + 1)) (virtual_mode v.mode) (rw own e))
    (entry_made part root m m.platform.virt.first memory (interrupt_of (code + 1)) _ lacks true at ready
    (hs_entry m (interrupt_of code) (entered_at (hart_state_of root v) (interrupt_of (code + 1)) level.VS) own (interrupt_taken root v code own)))

nested_interrupt : (part : Layout) {pool : Pooled} (root : GuestRoot) (m : Machine) (memory : List ℕ) (found : List FirstEntry) (lacks : Option Entry) (code : ℕ) → is_virtual m.platform.virt.mode ≡ true → vs_bit m.platform.virt.csrs.hideleg code ≡ true
    → IsAt part pool m memory → lacks ≡ None → FollowsTry part root m found (trapped m (interrupt_of code)) lacks memory (taken part root m m.platform.virt.first memory (interrupt_of code))
nested_interrupt part root m memory found lacks code on e at ready =
    let v = m.platform.virt in
    rw (to_vs (hosted_csrs root (is_virtual v.mode) v.csrs) (hosted_mode v.mode) (interrupt_of code) (virtual_mode v.mode) (rw on e))
    (entry_made part root m m.platform.virt.first memory (interrupt_of code) _ lacks true at ready
    (vs_entry m (interrupt_of code) (entered_at (hart_state_of root v) (interrupt_of code) level.VS) on e (nested_trap_taken root v (interrupt_of code) on)))

none_filled : (first : List FirstEntry) → all_filled first [] ≡ first
unfolding all_filled
none_filled first = refl

pub interrupt_follows : (part : Layout) {pool : Pooled} (root : GuestRoot) (m : Machine) (memory : List ℕ) (found : List FirstEntry) (lacks : Option Entry) (code : ℕ) (hart : Option ℕ) (virtual : Bool) → is_virtual m.platform.virt.mode ≡ virtual
    → IsDue (Some code) virtual m.platform.virt.csrs.hideleg hart → IsAt part pool m memory → lacks ≡ None
    → FollowsTry part root m found (trapped m (interrupt_of code)) lacks memory (end_by (caching_found (loaded_in part root m.platform.virt) (found_by_attempt (loaded_in part root m.platform.virt) memory hart)) memory
    (next_attempt (loaded_in part root m.platform.virt) memory hart))
interrupt_follows part root m memory found lacks code hart false own (e, good) at ready = rw (e, none_filled m.platform.virt.first) (own_interrupt part root m memory found lacks code own good at ready)
interrupt_follows part root m memory found lacks code hart true on (e, good) at ready = rw (e, none_filled m.platform.virt.first) (nested_interrupt part root m memory found lacks code on good at ready)

-- the hart delegates a guest's own exception with V = 0, and with V = 1 where the guest does
given_own : (root : GuestRoot) (csrs : Csrs) (cause : ℕ) → IsOwn cause → is_delegated (hosted_csrs root false csrs) false cause ≡ true
given_own root csrs cause own = rw (own.small, own.own) refl

given_alike : (root : GuestRoot) (csrs : Csrs) (cause : ℕ) → IsOwn cause → is_delegated (hosted_csrs root true csrs) false cause ≡ is_delegated csrs false cause
given_alike root csrs cause own = rw (own.kept csrs.hedeleg) refl

-- a trap that the guest does not delegate
raised : (m : Machine) (found : List FirstEntry) (lacks : Option Entry) (trap : Trap) → lacks ≡ None → is_virtual m.platform.virt.mode ≡ true → (trap.cause == VIRTUAL_INSTRUCTION) ≡ false → is_guest_page_code trap.cause ≡ false
    → IsLeft m found (trapped (having_found found m) trap) lacks (exit_of m.platform.virt trap)
raised m found lacks trap ready on other fault =
    left_as m found (trapped (having_found found m) trap) lacks trap (case.Own trap) (other_exit_is m.platform.virt trap fault other ∙ ap (other_exit trap) on) refl ready

-- an exception that the guest takes, by its V and by whether it delegates it
own_exception : (part : Layout) {pool : Pooled} (root : GuestRoot) (m : Machine) (memory : List ℕ) (found : List FirstEntry) (lacks : Option Entry) (cause tval : ℕ) → is_virtual m.platform.virt.mode ≡ false → IsOwn cause → IsAt part pool m memory → lacks ≡ None
    → FollowsTry part root m found (trapped (having_found found m) (exception m.platform.virt.mode cause tval)) lacks memory
    (taken part root m (all_filled m.platform.virt.first found) memory (exception (hosted_mode m.platform.virt.mode) cause tval))
own_exception part root m memory found lacks cause tval own good at ready =
    let v = (having_found found m).platform.virt in
    let trap = exception (hosted_mode v.mode) cause tval in
    rw (to_vs (hosted_csrs root (is_virtual v.mode) v.csrs) (hosted_mode v.mode) trap (virtual_mode v.mode) (rw own (given_own root v.csrs cause good)))
    (entry_made part root m (all_filled m.platform.virt.first found) memory trap _ lacks false at ready
    (hs_entry (having_found found m) (exception v.mode cause tval) (entered_at (hart_state_of root v) trap level.VS) own (exception_taken root v cause tval own)))

pub hosted_here : (mode : Mode) → is_virtual mode ≡ true → hosted_mode mode ≡ mode
hosted_here HS on = cc
hosted_here U on = cc
hosted_here VS on = refl
hosted_here VU on = refl

nested_exception : (part : Layout) {pool : Pooled} (root : GuestRoot) (m : Machine) (memory : List ℕ) (found : List FirstEntry) (lacks : Option Entry) (cause tval : ℕ) → is_virtual m.platform.virt.mode ≡ true → IsOwn cause
    → IsAt part pool m memory → lacks ≡ None → (given : Bool) → is_delegated m.platform.virt.csrs false cause ≡ given
    → FollowsTry part root m found (trapped (having_found found m) (exception m.platform.virt.mode cause tval)) lacks memory
    (taken part root m (all_filled m.platform.virt.first found) memory (exception (hosted_mode m.platform.virt.mode) cause tval))
nested_exception part root m memory found lacks cause tval on good at ready true given =
    let v = (having_found found m).platform.virt in
    let trap = exception (hosted_mode v.mode) cause tval in
    let here : trap ≡ exception v.mode cause tval = ap (λ mode. exception mode cause tval) (hosted_here v.mode on) in
    rw (to_vs (hosted_csrs root (is_virtual v.mode) v.csrs) (hosted_mode v.mode) trap (virtual_mode v.mode) (rw on (given_alike root v.csrs cause good ∙ given)))
    (entry_made part root m (all_filled m.platform.virt.first found) memory trap _ lacks false at ready
    (subst (λ t. trapped (having_found found m) t ≡ step_for m (entered_at (hart_state_of root v) trap level.VS) true m.ram (event.Trap (hosted_level (is_virtual v.mode)) false)) here
    (vs_entry (having_found found m) trap (entered_at (hart_state_of root v) trap level.VS) on given (nested_trap_taken root v trap on))))
nested_exception part root m memory found lacks cause tval on good at ready false given =
    let v = m.platform.virt in
    let trap = exception (hosted_mode v.mode) cause tval in
    let here : trap ≡ exception v.mode cause tval = ap (λ mode. exception mode cause tval) (hosted_here v.mode on) in
    rw (to_host (hosted_csrs root (is_virtual v.mode) v.csrs) (hosted_mode v.mode) trap (virtual_mode v.mode) (rw on (given_alike root v.csrs cause good ∙ given)))
    (subst (λ t. IsLeft m found (trapped (having_found found m) t) lacks (exit_of v trap)) here (raised m found lacks trap ready on good.other good.fault))

exception_by : (part : Layout) {pool : Pooled} (root : GuestRoot) (m : Machine) (memory : List ℕ) (found : List FirstEntry) (lacks : Option Entry) (cause tval : ℕ) → IsOwn cause → IsAt part pool m memory → lacks ≡ None → (virtual : Bool) → is_virtual m.platform.virt.mode ≡ virtual
    → FollowsTry part root m found (trapped (having_found found m) (exception m.platform.virt.mode cause tval)) lacks memory
    (taken part root m (all_filled m.platform.virt.first found) memory (exception (hosted_mode m.platform.virt.mode) cause tval))
exception_by part root m memory found lacks cause tval good at ready false own = own_exception part root m memory found lacks cause tval own good at ready
exception_by part root m memory found lacks cause tval good at ready true on = nested_exception part root m memory found lacks cause tval on good at ready (is_delegated m.platform.virt.csrs false cause) refl

pub exception_follows : (part : Layout) {pool : Pooled} (root : GuestRoot) (m : Machine) (memory : List ℕ) (found : List FirstEntry) (lacks : Option Entry) (cause tval : ℕ) → IsOwn cause → IsAt part pool m memory → lacks ≡ None
    → FollowsTry part root m found (trapped (having_found found m) (exception m.platform.virt.mode cause tval)) lacks memory
    (taken part root m (all_filled m.platform.virt.first found) memory (exception (hosted_mode m.platform.virt.mode) cause tval))
exception_follows part root m memory found lacks cause tval good at ready = exception_by part root m memory found lacks cause tval good at ready (is_virtual m.platform.virt.mode) refl

-- the traps that the hart never delegates
kept_10 : (root : GuestRoot) (virtual : Bool) (csrs : Csrs) → is_delegated (hosted_csrs root virtual csrs) false ECALL_FROM_VS ≡ false
kept_10 root false csrs = refl
kept_10 root true csrs = never_10 csrs.hedeleg

kept_22 : (root : GuestRoot) (virtual : Bool) (csrs : Csrs) → is_delegated (hosted_csrs root virtual csrs) false VIRTUAL_INSTRUCTION ≡ false
kept_22 root false csrs = refl
kept_22 root true csrs = never_22 csrs.hedeleg

-- a trap of an instruction on the hart
pub trap_follows : (part : Layout) {pool : Pooled} (root : GuestRoot) (m : Machine) (memory : List ℕ) (found : List FirstEntry) (lacks : Option Entry) (lone : Outcome) (trap : Trap)
    → IsAt part pool m memory → lacks ≡ None → Traps m.platform.virt lone trap
    → FollowsTry part root m found (apply_outcome (device_of m) (having_found found m) lone) lacks memory (taken part root m (all_filled m.platform.virt.first found) memory trap)
trap_follows part root m memory found lacks lone trap at ready (Own cause tval is e good) = rw (is, e) (exception_follows part root m memory found lacks cause tval good at ready)
trap_follows part root m memory found lacks lone trap at ready (Call own is e) =
    let v = m.platform.virt in
    let call = exception (hosted_mode v.mode) ECALL_FROM_VS 0 in
    rw (is, to_host (hosted_csrs root (is_virtual v.mode) v.csrs) (hosted_mode v.mode) call (virtual_mode v.mode) (kept_10 root (is_virtual v.mode) v.csrs), e)
    (left_as m found (apply_outcome (device_of m) (having_found found m) Called) lacks call case.Call (other_exit_is v call refl refl ∙ ap (other_exit call) own) refl ready)
trap_follows part root m memory found lacks lone trap at ready (Nested on is e) =
    let v = m.platform.virt in
    rw (e, is, to_host (hosted_csrs root (is_virtual v.mode) v.csrs) (hosted_mode v.mode) (exception (hosted_mode v.mode) ECALL_FROM_VS 0) (virtual_mode v.mode) (kept_10 root (is_virtual v.mode) v.csrs))
    (raised m found lacks (exception (hosted_mode v.mode) ECALL_FROM_VS 0) ready on refl refl)
trap_follows part root m memory found lacks lone trap at ready (Left tval is small p e f) =
    let v = m.platform.virt in
    let left = exception (hosted_mode v.mode) VIRTUAL_INSTRUCTION tval in
    let i = instruction_of tval v.regs p e in
    rw (is, to_host (hosted_csrs root (is_virtual v.mode) v.csrs) (hosted_mode v.mode) left (virtual_mode v.mode) (kept_22 root (is_virtual v.mode) v.csrs))
    (left_as m found (apply_outcome (device_of m) (having_found found m) lone) lacks left (case.Instruction i.o) (instruction_exit_is v left i.o refl refl small (is_decided_in tval v.regs p i))
    (ap (apply_outcome (device_of m) (having_found found m)) (f ∙ ends_as (mmu_of m) v tval p i small)) ready)

-- the hart leaves a WFI and a read of time to the host
exits_at : (part : Layout) (root : GuestRoot) (v : Virtual) (memory : List ℕ) (word : ℕ) (effect : Privileged)
    → privileged (hart_state_in part root v) word effect ≡ Trapped (exception (hosted_mode v.mode) VIRTUAL_INSTRUCTION word) → ExitsAt part root v memory word effect
exits_at part root v memory word effect is =
    rw (
      is,
      to_host (hosted_csrs root (is_virtual v.mode) v.csrs) (hosted_mode v.mode) (exception (hosted_mode v.mode) VIRTUAL_INSTRUCTION word) (virtual_mode v.mode)
          (kept_22 root (is_virtual v.mode) v.csrs),
    ) refl

wait_is_left : (part : Layout) (root : GuestRoot) (v : Virtual) (word : ℕ) (mode : Mode)
    → privileged (hart_state_in part root (record v { mode = mode })) word Wfi ≡ Trapped (exception (hosted_mode mode) VIRTUAL_INSTRUCTION word)
unfolding privileged refusal
wait_is_left part root v word HS = refl
wait_is_left part root v word U = refl
wait_is_left part root v word VS = refl
wait_is_left part root v word VU = refl

pub waits_exit : WaitsExit
waits_exit = λ part root v memory word. exits_at part root v memory word Wfi (wait_is_left part root v word v.mode)

time_is_left_to_host : (part : Layout) (root : GuestRoot) (v : Virtual) (word : ℕ) (op : CsrOp) (operand rd : ℕ)
    → privileged (hart_state_in part root v) word (Csr op 0xC01 operand false rd) ≡ Trapped (exception (hosted_mode v.mode) VIRTUAL_INSTRUCTION word)
unfolding privileged refusal
time_is_left_to_host part root v word op operand rd = rw (time_is_left root v.csrs v.mode) refl

pub time_exits : TimeExits
time_exits = λ part root v memory word op operand rd. exits_at part root v memory word (Csr op 0xC01 operand false rd) (time_is_left_to_host part root v word op operand rd)
