-- What an entry of the hart for one step is to the lone machine.
use Rattle.std.specs.Prelude.{◌&&◌, nat_le, not, option_and_then, length, nat_lt, ◌*◌}
use Rattle.std.proofs.Common.{cond, ◌≡◌, ℕ, zero, suc, ◌+◌, ◌-◌, ◌%◌, ◌^◌, ◌<◌, ◌≤◌, List, [], ◌∷◌, Option, Some, None, Bool, true, false, refl, ap, sym, subst, arith, ◌∙◌}
use Rattle.std.proofs.lemmas.List.{append-nil}
use Rattle.std.proofs.lemmas.List.Sums.{sum_by-append}
use Rattle.std.proofs.lemmas.Option.{none-some, same_Some}
use Rattle.arch_defs.specs.declared.hart_states.HartState.{HartState}
use Rattle.arch_defs.specs.declared.levels.Level.TheVariants as level
use Rattle.arch_defs.specs.declared.modes.Mode.{Mode}
use Rattle.arch_defs.specs.declared.modes.Trap.{Trap}
use Rattle.arch_defs.specs.declared.registers.Csrs.{Csrs}
use Rattle.arch_defs.specs.declared.roots.GuestRoot.{GuestRoot}
use Rattle.arch_defs.specs.declared.registers.Virtual.{Virtual}
use Rattle.arch_defs.specs.Frames.{Only, in_blocks}
use Rattle.arch_defs.specs.Interrupts.{due, interrupt_of, vs_bit}
use Rattle.arch_defs.specs.Layouts.{Layout, NamesEachOnce}
use Rattle.arch_defs.specs.Ram.{ram_of}
use Rattle.arch_defs.specs.Memory.{block_size}
use Rattle.fill_laws.specs.Keeping.{IsOrderly}
use Rattle.std.specs.List.{All}
use Rattle.arch_defs.specs.Traps.{is_virtual, target}
use Rattle.arch_defs.proofs.FrameSets.{only_both, only_none}
use Rattle.machine_defs.specs.declared.events.Event.{Event}
use Rattle.machine_defs.specs.declared.events.Event.TheVariants as event
use Rattle.guest_settings.specs.declared.statuses.Status.TheVariants.{Running}
use Rattle.instruction_laws.specs.HostPlaces.{in_ram, memory_place}
use Rattle.machine_defs.specs.Fills.{missing_entry}
use Rattle.machine_defs.specs.FirstLeaves.{tag_of}
use Rattle.machine_defs.specs.Machine.{Machine, Platform, ticked, trapped, with_lines, with_pending_lines}
use Rattle.run_laws.specs.Reservations.{HasPlace}
use Rattle.machine_defs.specs.Tries.{try, try_under}
use Rattle.arch_defs.specs.Inputs.{has_input}
use Rattle.machine_defs.specs.Runs.{event_in, events, left_after, left_by, pc_and_word, run, trace_of}
use Rattle.instruction_laws.specs.Renaming.{ReservesWithin, renamed}
use Rattle.fill_laws.proofs.Running.{events_compose, run_none, runs_compose}
use Rattle.fill_laws.specs.Budgets.{NeedNoFill}
use Rattle.fill_laws.proofs.Filling.{interrupted_misses_nothing}
use Rattle.fill_laws.proofs.Orderly.{stays_orderly}
use Rattle.run_laws.specs.StorableStates.{IsStorable}
use Rattle.run_laws.proofs.StorableRuns.{stays_storable}
use Rattle.fill_laws.proofs.Stepping.{step_ready, try_is_event}
use Rattle.rv64_hart.specs.declared.harts.Why.{Why}
use Rattle.rv64_hart.specs.declared.harts.Why.TheVariants.{Limit, Exit, VsTrap}
use Rattle.rv64_hart.specs.Counts.{IsRaisedBy}
use Rattle.rv64_hart.specs.Steps.{HartEnd, Goes, Exits, Progress, progress, progressed, enters_vs, hart_step, hart_steps, one_more_step, is_vs_trap, IsWhy}
use Rattle.host_tables.proofs.Held.{held_by_blocks}
use Rattle.shadow_pool.specs.Slots.{Pooled}
use Rattle.world_switch.specs.Hosting.{after_hs_trap, guest_state_after, guest_state_of, hart_state_in, hart_state_of, hosted_csrs, loaded_in, saved_csrs, root_at, saved_mode, saved_in}
use Rattle.world_switch.specs.Laws.{KeepsHidden}
use Rattle.world_switch.proofs.Registers.{none_waits}
use Rattle.world_switch.proofs.Undone.{load_after_save, save_after_load, saved_v, virtual_mode, saves_own}
use Rattle.hosted_steps.specs.ExitCases.{IsLeft, exit_of, found_next}
use Rattle.guest_exit.specs.HartEntry.{EndsInTrap, Hands, IsStopped, Lasts, is_watched, moved, taken_back}
use Rattle.hosted_steps.specs.HartSteps.{Follows, IsAt, IsOf, KeepsHart, event_for, host_takes, is_hosts, root_for, root_frame_for}
use Rattle.hosted_steps.proofs.Followed.{followed}
use Rattle.hosted_steps.proofs.Interrupts.{own_after}
use Rattle.guest_exit.proofs.Pools.{size_of, tidy_by_blocks}
use Rattle.hosted_steps.proofs.Stands.{none_written}

-- numbers and tests, apart from the machines that they are of
some_more : (n : ℕ) → 0 < n + 1
some_more n = omega arith

pub one_more_suc : (n : ℕ) → n + 1 ≡ suc n
one_more_suc n = omega arith

pub below_limit : (n limit : ℕ) → suc n ≤ limit → n < limit
below_limit n limit h = omega (arith, h)

pub within_limit : (n limit : ℕ) → suc n ≤ limit → n ≤ limit
within_limit n limit h = omega (arith, h)

more_than_one : (n limit : ℕ) → suc n < limit → 1 < limit
more_than_one n limit h = omega (arith, h)

never_below : {A : Type 0} (i : ℕ) → i < 0 → A
never_below i never = absurd (omega (arith, never))

below_by : (i n : ℕ) → nat_lt i n ≡ true → i < n
below_by i n e = grind (arith, e)

last_by : (i n : ℕ) → i < n + 1 → nat_lt i n ≡ false → n ≡ i
last_by i n within e = grind (arith, within, e)

not_both : {A : Type 0} (b : Bool) → b ≡ true → b ≡ false → A
not_both b is other = cc

-- the machine's event has the hart's part in the account
one_trace : (virtual : Bool) (e : Event) → trace_of (event_for virtual e ∷ []) ≡ pc_and_word e
one_trace virtual (event.Plain pc word) = omega arith
one_trace virtual (event.Trap into interrupt) = omega arith
one_trace virtual event.System = omega arith

mod_mod : (n : ℕ) → n % 2 ^ 64 % 2 ^ 64 ≡ n % 2 ^ 64
mod_mod n = omega arith

-- the machine after one step of the hart, by whether that was a trap into VS
abbrev after_step : Machine → Bool → Virtual → List ℕ → Machine
after_step m trapped hart ram =
    record m { platform = ticked (record m.platform { virt = guest_state_after trapped hart m.platform.virt }); ram = ram }

-- and after that many, which leave it this state
abbrev pub placed : Machine → Virtual → List ℕ → ℕ → Machine
placed m virt ram n = record m { platform = moved m.platform virt n; ram = ram }

-- a trap into HS
abbrev IsHsTrap : List Event → Type 0
IsHsTrap events = (interrupt : Bool) × (events ≡ event.Trap level.HS interrupt ∷ [])

-- a step that the hart made in a part of machine memory is the machine's, of which the hart watches one with V = 0
record MadeBy (part : Layout) (root : GuestRoot) (m : Machine) (memory : List ℕ) (t : ℕ) (q : Progress) : Type 0 where
  own : Virtual
  stands : IsOf part m.platform.virt own q.state
  step : left_by m (try m) ≡ after_step m q.trapped own (ram_of part.blocks q.memory)
  ready : missing_entry m ≡ None
  keeps : KeepsHart root m.platform.virt own
  held : ReservesWithin (in_ram part.blocks) own.reservation
  only : Only (in_blocks part.blocks) memory q.memory
  trace : IsRaisedBy (trace_of (event_in (try m))) t q.trace
  trap : q.trapped ≡ true → IsHsTrap (event_in (try m))

-- an event that is told to be a trap into VS, of a machine with V = 0
hs_trap : (virtual : Bool) (e : Event) → not virtual && enters_vs e ≡ true → IsHsTrap (event_for virtual e ∷ [])
hs_trap false (event.Plain pc word) is = cc
hs_trap true (event.Plain pc word) is = cc
hs_trap false (event.Trap level.VS interrupt) is = (interrupt, refl)
hs_trap true (event.Trap level.VS interrupt) is = cc
hs_trap false (event.Trap level.HS interrupt) is = cc
hs_trap true (event.Trap level.HS interrupt) is = cc
hs_trap false event.System is = cc
hs_trap true event.System is = cc

-- a trap into VS that is not watched is one with V = 1, after which the host sets nothing
when_watched : (virtual trapped : Bool) (hart before : Virtual) → is_virtual before.mode ≡ virtual
    → guest_state_after trapped hart before ≡ guest_state_after (not virtual && trapped) hart before
when_watched true true hart before is = rw is refl
when_watched true false hart before is = rw is refl
when_watched false trapped hart before is = refl

made : (part : Layout) (root : GuestRoot) (m : Machine) (memory : List ℕ) (virtual : Bool) (end : HartEnd) (t : ℕ) (q : Progress) → is_virtual m.platform.virt.mode ≡ virtual
    → Follows part root m memory end → progressed (not virtual) t end ≡ Some q → MadeBy part root m memory t q
made part root m memory virtual (Goes state changed e) t q is by some =
    let same = same_Some (progress state changed ((t + pc_and_word e) % 2 ^ 64) (not virtual && enters_vs e)) q some in
    let state_is : state ≡ q.state = ap (λ (p : Progress). p.state) same in
    let memory_is : changed ≡ q.memory = ap (λ (p : Progress). p.memory) same in
    let trace_is : (t + pc_and_word e) % 2 ^ 64 ≡ q.trace = ap (λ (p : Progress). p.trace) same in
    let trapped_is : not virtual && enters_vs e ≡ q.trapped = ap (λ (p : Progress). p.trapped) same in
    record {
      own = by.own;
      stands = rw (← state_is) by.stands;
      step = rw (by.step, ← memory_is, ← trapped_is, when_watched virtual (enters_vs e) by.own m.platform.virt is) refl;
      ready = by.ready;
      keeps = by.keeps;
      held = by.held;
      only = rw (← memory_is) by.only;
      trace = rw (by.step, one_trace (is_virtual m.platform.virt.mode) e, ← trace_is) (mod_mod (t + pc_and_word e));
      trap = λ trapped. rw (by.step, is) (hs_trap virtual e (trapped_is ∙ trapped));
    }
made part root m memory virtual (Exits trap) t q is by some = absurd (none-some q some)

-- that many steps of the hart are a run of the machine
pub record Ran (part : Layout) (pool : Pooled) (m : Machine) (memory : List ℕ) (t n : ℕ) (q : Progress) : Type 0 where
  pub own : Virtual
  pub stands : IsOf part m.platform.virt own q.state
  pub machine : run m n ≡ placed m (guest_state_after q.trapped own m.platform.virt) (ram_of part.blocks q.memory) n
  pub need : NeedNoFill n m
  pub keeps : KeepsHart (root_for part pool m.platform.virt) m.platform.virt own
  pub held : ReservesWithin (in_ram part.blocks) own.reservation
  pub only : Only (in_blocks part.blocks) memory q.memory
  pub trace : IsRaisedBy (trace_of (events m n)) t q.trace
  pub ends : q.trapped ≡ true → EndsInTrap m n

-- what the clock sets has not changed
record IsTold (p : Platform) (n : ℕ) : Type 0 where
  timer : nat_le p.clock.timer (p.clock.time + n) ≡ p.virt.csrs.sip.timer
  external : has_input p.console.inputs (p.clock.time + n) ≡ p.virt.csrs.sip.external

told : (p : Platform) (limit n : ℕ) → Lasts p limit → n < limit → IsTold p n
told p limit n lasts h =
    let timer_is : nat_le p.clock.timer p.clock.time ≡ p.virt.csrs.sip.timer = ap (λ p. p.virt.csrs.sip.timer) lasts.current in
    let external_is : has_input p.console.inputs p.clock.time ≡ p.virt.csrs.sip.external = ap (λ p. p.virt.csrs.sip.external) lasts.current in
    let timer_stays = lasts.timer n h in
    let inputs_stay = lasts.inputs n h in
    record { timer = rw timer_stays timer_is; external = rw inputs_stay external_is }

-- before a step of an entry the hart stands for the machine, and the step is not the host's
record IsReady (part : Layout) (root : GuestRoot) (p : Platform) (hart : HartState) : Type 0 where
  own : host_takes p.virt ≡ false
  stands : loaded_in part root p.virt ≡ hart

-- loading again what was saved, with the registers that the clock sets
with_lines_again : (root : GuestRoot) (virtual : Bool) (csrs hart : Csrs) (timer external : Bool) (clock : ℕ) → KeepsHidden root virtual csrs hart
    → timer ≡ csrs.sip.timer → external ≡ csrs.sip.external
    → hosted_csrs root virtual (with_lines (saved_csrs virtual hart csrs) clock timer external) ≡ hosted_csrs root virtual (saved_csrs virtual hart csrs)
with_lines_again root false csrs hart timer external clock keeps e f = rw (e, f, ← keeps.timer refl, ← keeps.external refl) refl
with_lines_again root true csrs hart timer external clock keeps e f = refl

again_by : (root : GuestRoot) (virtual other : Bool) (csrs hart : Csrs) (timer external : Bool) (clock : ℕ) → other ≡ virtual → KeepsHidden root virtual csrs hart
    → timer ≡ csrs.sip.timer → external ≡ csrs.sip.external
    → hosted_csrs root other (with_lines (saved_csrs virtual hart csrs) clock timer external) ≡ hosted_csrs root other (saved_csrs virtual hart csrs)
again_by root virtual other csrs hart timer external clock is keeps e f = rw is (with_lines_again root virtual csrs hart timer external clock keeps e f)

stands_again : (root : GuestRoot) (v hart : Virtual) (timer external : Bool) (clock : ℕ) → KeepsHart root v hart → timer ≡ v.csrs.sip.timer
    → external ≡ v.csrs.sip.external → hart_state_of root (record (guest_state_of hart v) { csrs = with_lines (guest_state_of hart v).csrs clock timer external }) ≡ hart
stands_again root v hart timer external clock keeps e f =
    rw (again_by root (is_virtual v.mode) _ v.csrs hart.csrs timer external clock (saved_v (is_virtual v.mode) hart.mode) keeps.csrs e f)
    (load_after_save root v hart keeps.csrs.rest keeps.mode)

own_at : (root : GuestRoot) (m : Machine) (limit n : ℕ) (hart : Virtual) (ram : List ℕ) → Lasts m.platform limit → n < limit → KeepsHart root m.platform.virt hart
    → run m n ≡ placed m (guest_state_of hart m.platform.virt) ram n → host_takes (moved m.platform (guest_state_of hart m.platform.virt) n).virt ≡ false
unfolding run
own_at root m limit zero hart ram lasts h keeps e = subst (λ m. host_takes m.platform.virt ≡ false) e lasts.own
own_at root m limit (suc n) hart ram lasts h keeps e =
    let some = more_than_one n limit h in
    let v = m.platform.virt in
    let t = told m.platform limit (suc n) lasts h in
    own_after root (is_virtual v.mode) v.csrs hart.csrs v.mode hart.mode _ _ _ refl keeps.csrs t.timer t.external lasts.own (lasts.interrupts some)

-- the hart runs under the same table, and for the same accesses, since V and hgatp stay
hgatp_kept : (virtual : Bool) (hart before : Csrs) → (saved_csrs virtual hart before).hgatp ≡ before.hgatp
hgatp_kept false hart before = refl
hgatp_kept true hart before = refl

same_root : (part : Layout) (pool : Pooled) (p : Platform) (hart : Virtual) (n : ℕ) → root_for part pool (moved p (guest_state_of hart p.virt) n).virt ≡ root_for part pool p.virt
unfolding root_for
same_root part pool p hart n = rw (saved_v (is_virtual p.virt.mode) hart.mode, hgatp_kept (is_virtual p.virt.mode) hart.csrs p.virt.csrs) refl

same_tag : (p : Platform) (hart : Virtual) (n : ℕ) → tag_of (moved p (guest_state_of hart p.virt) n).virt ≡ tag_of p.virt
same_tag p hart n = rw (saved_v (is_virtual p.virt.mode) hart.mode, hgatp_kept (is_virtual p.virt.mode) hart.csrs p.virt.csrs) refl

loaded_as : (part : Layout) (root : GuestRoot) (virt : Virtual) (hart : HartState) → hart_state_in part root virt ≡ hart.virt → tag_of virt ≡ hart.tag → loaded_in part root virt ≡ hart
loaded_as part root virt hart state tag = rw (state, tag) refl

ready : (part : Layout) (root : GuestRoot) (m : Machine) (limit n : ℕ) (own : Virtual) (state : HartState) (ram : List ℕ) → Lasts m.platform limit → n < limit → KeepsHart root m.platform.virt own
    → IsOf part m.platform.virt own state → run m n ≡ placed m (guest_state_of own m.platform.virt) ram n
    → IsReady part root (moved m.platform (guest_state_of own m.platform.virt) n) state
ready part root m limit n own state ram lasts h keeps is e =
    let t = told m.platform limit n lasts h in
    let again = stands_again root m.platform.virt own (nat_le m.platform.clock.timer (m.platform.clock.time + n)) (has_input m.platform.console.inputs (m.platform.clock.time + n)) (m.platform.clock.time + n) keeps
    t.timer t.external in
    record {
      own = own_at root m limit n own ram lasts h keeps e;
      stands = loaded_as part root (moved m.platform (guest_state_of own m.platform.virt) n).virt state
          (ap (renamed (memory_place part.blocks)) again ∙ sym is.state) (same_tag m.platform own n ∙ sym is.tag);
    }

-- one step further
one_more_of : (a n : ℕ) → a + n + 1 ≡ a + (n + 1)
one_more_of a n = omega arith

abbrev at_clock : Machine → Virtual → List ℕ → ℕ → ℕ → Machine
at_clock m virt memory time steps =
    record m { platform = with_pending_lines (record m.platform { virt = virt; clock = record m.platform.clock { time = time }; steps = steps }); ram = memory }

further_by : (m : Machine) (virt : Virtual) (memory : List ℕ) (a b c d : ℕ) → a ≡ b → c ≡ d → at_clock m virt memory a c ≡ at_clock m virt memory b d
further_by m virt memory a b c d e f = rw (e, f) refl

-- what is taken back, by the guest's V, with the registers that the clock sets
abbrev back_by : Bool → Bool → Virtual → Csrs → Virtual
back_by virtual trapped hart before =
    let own : Virtual = record { regs = hart.regs; csrs = saved_csrs virtual hart.csrs before; mode = saved_mode virtual hart.mode; reservation = hart.reservation; first = hart.first } in
    cond (trapped && not virtual) (after_hs_trap own) own

abbrev with_lines_virt : Virtual → ℕ → Bool → Bool → Virtual
with_lines_virt v clock timer external = record v { csrs = with_lines v.csrs clock timer external }

-- taking back twice is taking back the last
same_back : (virtual trapped : Bool) (hart : Csrs) (after : Virtual) (before : Csrs) (clock : ℕ) (timer external : Bool) (clock' : ℕ) (timer' external' : Bool)
    → with_lines_virt (back_by virtual trapped after (with_lines (saved_csrs virtual hart before) clock timer external)) clock' timer' external'
    ≡ with_lines_virt (back_by virtual trapped after before) clock' timer' external'
same_back false true hart after before clock timer external clock' timer' external' = refl
same_back false false hart after before clock timer external clock' timer' external' = refl
same_back true true hart after before clock timer external clock' timer' external' = refl
same_back true false hart after before clock timer external clock' timer' external' = refl

back_again : (virtual other trapped : Bool) (hart : Csrs) (after : Virtual) (before : Csrs) (clock : ℕ) (timer external : Bool) (clock' : ℕ) (timer' external' : Bool)
    → other ≡ virtual
    → with_lines_virt (back_by other trapped after (with_lines (saved_csrs virtual hart before) clock timer external)) clock' timer' external'
    ≡ with_lines_virt (back_by virtual trapped after before) clock' timer' external'
back_again virtual other trapped hart after before clock timer external clock' timer' external' is =
    rw is (same_back virtual trapped hart after before clock timer external clock' timer' external')

further : (m : Machine) (hart after : Virtual) (memory changed : List ℕ) (n : ℕ) (trapped : Bool)
    → after_step (placed m (guest_state_of hart m.platform.virt) memory n) trapped after changed
    ≡ placed m (guest_state_after trapped after m.platform.virt) changed (n + 1)
further m hart after memory changed n trapped =
    let p = m.platform in
    let virtual = is_virtual p.virt.mode in
    let time = p.clock.time + n + 1 in
    let again = back_again virtual _ trapped hart.csrs after p.virt.csrs _ _ _ time (nat_le p.clock.timer time) (has_input p.console.inputs time) (saved_v virtual hart.mode) in
    ap (λ virt. record m { platform = record p { virt = virt; clock = record p.clock { time = time }; steps = p.steps + n + 1 }; ram = changed }) again
    ∙ further_by m (guest_state_after trapped after p.virt) changed _ _ _ _ (one_more_of p.clock.time n) (one_more_of p.steps n)

-- what the hart keeps from step to step it keeps from the start on
keeps_in : (root : GuestRoot) (virtual : Bool) (before hart after : Csrs) (clock : ℕ) (timer external : Bool)
    → KeepsHidden root virtual before hart → timer ≡ before.sip.timer → external ≡ before.sip.external
    → KeepsHidden root virtual (with_lines (saved_csrs virtual hart before) clock timer external) after → KeepsHidden root virtual before after
keeps_in root false before hart after clock timer external keeps t e then = record {
  rest = then.rest;
  timer = λ own. then.timer own ∙ t;
  external = λ own. then.external own ∙ e;
  waits = then.waits ∙ none_waits (hosted_csrs root false (with_lines (saved_csrs false hart before) clock timer external)) refl ∙ sym (none_waits (hosted_csrs root false before) refl);
}
keeps_in root true before hart after clock timer external keeps t e then =
    let hideleg : hart.hideleg ≡ before.hideleg = ap {A = Csrs} (λ c. c.hideleg) keeps.rest in
    let same = rw hideleg at keeps.waits in
    record { rest = then.rest; timer = λ own. cc; external = λ own. cc; waits = then.waits ∙ same }

keeps_by : (root : GuestRoot) (virtual other : Bool) (before hart after : Csrs) (clock : ℕ) (timer external : Bool) → other ≡ virtual
    → KeepsHidden root virtual before hart → timer ≡ before.sip.timer → external ≡ before.sip.external
    → KeepsHidden root other (with_lines (saved_csrs virtual hart before) clock timer external) after → KeepsHidden root virtual before after
keeps_by root virtual other before hart after clock timer external is keeps t e then =
    keeps_in root virtual before hart after clock timer external keeps t e
    (subst (λ v. KeepsHidden root v (with_lines (saved_csrs virtual hart before) clock timer external) after) is then)

keeps_on : (root : GuestRoot) (p : Platform) (n : ℕ) (hart after : Virtual) → IsTold p n → KeepsHart root p.virt hart → KeepsHart root (moved p (guest_state_of hart p.virt) n).virt after → KeepsHart root p.virt after
keeps_on root p n hart after t keeps then =
    record {
      csrs = keeps_by root (is_virtual p.virt.mode) _ p.virt.csrs hart.csrs after.csrs _ _ _ (saved_v (is_virtual p.virt.mode) hart.mode) keeps.csrs t.timer t.external then.csrs;
      mode = then.mode;
    }

raised_then : (a b t u w : ℕ) → IsRaisedBy a t u → IsRaisedBy b u w → IsRaisedBy (a + b) t w
raised_then a b t u w e f = omega (arith, e, f)

pub one_run : (m : Machine) → m.platform.status ≡ Running → missing_entry m ≡ None → run m 1 ≡ left_after m
unfolding run
one_run m h none = step_ready m h none

pub one_event : (m : Machine) → m.platform.status ≡ Running → missing_entry m ≡ None → events m 1 ≡ event_in (try m)
unfolding events
one_event m h none = try_is_event m 1 (omega arith) h none ∙ append-nil (event_in (try m))

-- the machine of one step more
pub run_further : (m placed : Machine) (n : ℕ) → run m n ≡ placed → placed.platform.status ≡ Running → missing_entry placed ≡ None → run m (n + 1) ≡ left_after placed
run_further m placed n e h none = rw (← runs_compose m n 1, e) (one_run placed h none)

pub trace_further : (m placed : Machine) (n t u w : ℕ) → run m n ≡ placed → placed.platform.status ≡ Running → missing_entry placed ≡ None → IsRaisedBy (trace_of (events m n)) t u
    → IsRaisedBy (trace_of (event_in (try placed))) u w → IsRaisedBy (trace_of (events m (n + 1))) t w
trace_further m placed n t u w e h none before one =
    rw (← events_compose m n 1, e, one_event placed h none, sum_by-append pc_and_word (events m n) (event_in (try placed)))
    (raised_then _ _ t u w before one)

-- one step more that is made, and before which nothing is missing
abbrev Goes' : Machine → Type 0
Goes' m = (m.platform.status ≡ Running) × (missing_entry m ≡ None)

need_by : (m : Machine) (n i : ℕ) → NeedNoFill n m → Goes' (run m n) → i < n + 1 → (before : Bool) → nat_lt i n ≡ before → Goes' (run m i)
need_by m n i need now within true e = need i (below_by i n e)
need_by m n i need now within false e = subst (λ k. Goes' (run m k)) (last_by i n within e) now

need_further : (m : Machine) (n : ℕ) → NeedNoFill n m → Goes' (run m n) → NeedNoFill (n + 1) m
need_further m n need now = λ i within. need_by m n i need now within (nat_lt i n) refl

-- before a step of an entry the machine is in its part
at_next : (part : Layout) (pool : Pooled) (m : Machine) (memory changed : List ℕ) (n : ℕ) (own : Virtual) → IsAt part pool m memory → Only (in_blocks part.blocks) memory changed
    → ReservesWithin (in_ram part.blocks) own.reservation → run m n ≡ placed m (guest_state_of own m.platform.virt) (ram_of part.blocks changed) n
    → IsAt part pool (placed m (guest_state_of own m.platform.virt) (ram_of part.blocks changed) n) changed
at_next part pool m memory changed n own at only reserved there =
    let held = held_by_blocks part memory changed at.once at.held only in
    let before : length m.ram ≡ length part.blocks * block_size = rw at.ram (size_of part memory at.held) in
    record {
      once = at.once;
      held = held;
      ram = refl;
      reserved = reserved;
      own = at.own;
      tidy = tidy_by_blocks part pool memory changed at.once at.own at.tidy only;
      spaces = at.spaces;
      space_room = at.space_room;
      entry_room = at.entry_room;
      caches = subst (λ size. All (λ s. All (HasPlace size) s.entries) m.spaces) (before ∙ sym (size_of part changed held)) at.caches;
      devices = at.devices;
      orderly = subst IsOrderly there (stays_orderly m n at.orderly);
      storable = subst (λ m. IsStorable m.platform.virt) there (stays_storable m n at.storable);
    }

-- a run that ended in a trap was watched
watched_own : (virtual : Bool) (t : ℕ) (end : HartEnd) (q : Progress) → progressed (not virtual) t end ≡ Some q → q.trapped ≡ true → virtual ≡ false
watched_own false t end q some trapped = refl
watched_own true t (Goes state memory e) q some trapped =
    not_both q.trapped trapped (sym (ap (λ (p : Progress). p.trapped) (same_Some (progress state memory ((t + pc_and_word e) % 2 ^ 64) false) q some)))
watched_own true t (Exits trap) q some trapped = absurd (none-some q some)

-- the machine before the last step
last_of : (m now : Machine) (n : ℕ) → run m n ≡ now → now ≡ run m (n + 1 - 1)
last_of m now n is = let same : n + 1 - 1 ≡ n = omega arith in rw same (sym is)

-- after steps of which none was a trap the machine is where the hart is, whose next step is the machine's
pub there_at : (part : Layout) (pool : Pooled) (m : Machine) (memory : List ℕ) (t n : ℕ) (p : Progress) → (ran : Ran part pool m memory t n p) → p.trapped ≡ false
    → run m n ≡ placed m (guest_state_of ran.own m.platform.virt) (ram_of part.blocks p.memory) n
there_at part pool m memory t n p ran fresh = rw fresh at ran.machine

pub next_follows : (part : Layout) (pool : Pooled) (m : Machine) (memory : List ℕ) (limit t n : ℕ) (p : Progress) → Lasts m.platform limit → IsAt part pool m memory → n < limit
    → (ran : Ran part pool m memory t n p) → p.trapped ≡ false
    → Follows part (root_for part pool m.platform.virt) (placed m (guest_state_of ran.own m.platform.virt) (ram_of part.blocks p.memory) n) p.memory (hart_step p.state p.memory)
next_follows part pool m memory limit t n p lasts at h ran fresh =
    let root = root_for part pool m.platform.virt in
    let ram = ram_of part.blocks p.memory in
    let there = there_at part pool m memory t n p ran fresh in
    let now = placed m (guest_state_of ran.own m.platform.virt) ram n in
    let is = ready part root m limit n ran.own p.state ram lasts h ran.keeps ran.stands there in
    let placed_at : IsAt part pool now p.memory = at_next part pool m memory p.memory n ran.own at ran.only ran.held there in
    let by_now : Follows part root now p.memory (hart_step (loaded_in part root now.platform.virt) p.memory) =
    subst (λ root. Follows part root now p.memory (hart_step (loaded_in part root now.platform.virt) p.memory)) (same_root part pool m.platform ran.own n)
    (followed part pool now p.memory is.own placed_at) in
    subst (λ hart. Follows part root now p.memory (hart_step hart p.memory)) is.stands by_now

ran_one : (part : Layout) (pool : Pooled) (m : Machine) (memory : List ℕ) (limit t n : ℕ) (p q : Progress) → m.platform.status ≡ Running → Lasts m.platform limit
    → IsAt part pool m memory → n < limit → Ran part pool m memory t n p → p.trapped ≡ false → progressed (is_watched m.platform.virt) p.trace (hart_step p.state p.memory) ≡ Some q
    → Ran part pool m memory t (n + 1) q
ran_one part pool m memory limit t n p q running lasts at h ran fresh some =
    let v = m.platform.virt in
    let root = root_for part pool v in
    let ram = ram_of part.blocks p.memory in
    let there = there_at part pool m memory t n p ran fresh in
    let now = placed m (guest_state_of ran.own v) ram n in
    let follows = next_follows part pool m memory limit t n p lasts at h ran fresh in
    let stays : is_virtual now.platform.virt.mode ≡ is_virtual v.mode = saved_v (is_virtual v.mode) ran.own.mode in
    let by = made part root now p.memory (is_virtual v.mode) (hart_step p.state p.memory) p.trace q stays follows some in
    record {
      own = by.own;
      stands = record { state = by.stands.state; tag = by.stands.tag ∙ same_tag m.platform ran.own n };
      machine = rw (run_further m now n there running by.ready, by.step) (further m ran.own by.own ram (ram_of part.blocks q.memory) n q.trapped);
      need = need_further m n ran.need (rw there (running, by.ready));
      keeps = keeps_on root m.platform n ran.own by.own (told m.platform limit n lasts h) ran.keeps by.keeps;
      held = by.held;
      only = only_both (in_blocks part.blocks) memory p.memory q.memory ran.only by.only;
      trace = trace_further m now n t p.trace q.trace there running by.ready ran.trace by.trace;
      ends = λ trapped. record {
        own = watched_own (is_virtual v.mode) p.trace (hart_step p.state p.memory) q some trapped;
        some = some_more n;
        trap = subst (λ now. IsHsTrap (event_in (try now))) (last_of m now n there) (by.trap trapped);
      };
    }

-- a step that the hart has made, if the run did not end before it
fresh_of : (b : Bool) (o : Option Progress) (q : Progress) → cond b None o ≡ Some q → (b ≡ false) × (o ≡ Some q)
fresh_of true o q e = cc
fresh_of false o q e = (refl, e)

one_more_is : (watch : Bool) (p q : Progress) → one_more_step watch p ≡ Some q → (p.trapped ≡ false) × (progressed watch p.trace (hart_step p.state p.memory) ≡ Some q)
unfolding one_more_step
one_more_is watch p q e = fresh_of p.trapped (progressed watch p.trace (hart_step p.state p.memory)) q e

-- the value before a step that gave one
before_of : {A B : Type 0} (f : A → Option B) (o : Option A) (after : B) → option_and_then f o ≡ Some after → (before : A) × (o ≡ Some before) × (f before ≡ Some after)
before_of f None after e = cc
before_of f (Some before) after e = (before, refl, e)

ran_next : (part : Layout) (pool : Pooled) (m : Machine) (memory : List ℕ) (limit t n : ℕ) (o : Option Progress) (q : Progress) → m.platform.status ≡ Running → Lasts m.platform limit
    → IsAt part pool m memory → n < limit → ((p : Progress) → o ≡ Some p → Ran part pool m memory t n p) → option_and_then (one_more_step (is_watched m.platform.virt)) o ≡ Some q → Ran part pool m memory t (n + 1) q
ran_next part pool m memory limit t n o q running lasts at h before e =
    let watch = is_watched m.platform.virt in
    let there = before_of (one_more_step watch) o q e in
    let is = one_more_is watch there.0 q there.2 in
    ran_one part pool m memory limit t n there.0 q running lasts at h (before there.0 there.1) is.0 is.1

none_more_of : (a : ℕ) → a + 0 ≡ a
none_more_of a = omega arith

ran_none : (part : Layout) (pool : Pooled) (m : Machine) (memory : List ℕ) (limit t : ℕ) → Lasts m.platform limit → IsAt part pool m memory
    → Ran part pool m memory t zero (progress (loaded_in part (root_for part pool m.platform.virt) m.platform.virt) memory t false)
unfolding run events
ran_none part pool m memory limit t lasts at =
    let v = m.platform.virt in
    let back : guest_state_of (hart_state_of (root_for part pool v) v) v ≡ v = save_after_load (root_for part pool v) v in
    let there : at_clock m v m.ram m.platform.clock.time m.platform.steps ≡ m = ap (λ p. record m { platform = p }) lasts.current in
    let none = further_by m v m.ram _ _ _ _ (none_more_of m.platform.clock.time) (none_more_of m.platform.steps) in
    let same : placed m v m.ram 0 ≡ m = rw none there in
    record {
      own = hart_state_of (root_for part pool v) v;
      stands = record { state = refl; tag = refl };
      machine = rw (← at.ram) (sym (subst (λ virt. placed m virt m.ram 0 ≡ m) (sym back) same));
      need = λ i never. never_below i never;
      keeps = record { csrs = none_written (root_for part pool v) (is_virtual v.mode) v.csrs; mode = virtual_mode v.mode };
      held = at.reserved;
      only = only_none (in_blocks part.blocks) memory;
      trace = ap (λ n. n % 2 ^ 64) (sym (none_more_of t));
      ends = λ trapped. not_both false trapped refl;
    }

-- from the state that is loaded
pub steps_from : (watch : Bool) (part : Layout) (pool : Pooled) (v : Virtual) (memory : List ℕ) (t taken : ℕ) (q : Progress)
    → hart_steps watch taken (progress (loaded_in part (root_at part (root_frame_for part pool v)) v) memory t false) ≡ Some q
    → hart_steps watch taken (progress (loaded_in part (root_for part pool v) v) memory t false) ≡ Some q
unfolding root_for
steps_from watch part pool v memory t taken q e = e

-- that many steps of an entry
pub ran : (part : Layout) (pool : Pooled) (m : Machine) (memory : List ℕ) (limit t : ℕ) → m.platform.status ≡ Running → Lasts m.platform limit → IsAt part pool m memory → (n : ℕ) → n ≤ limit
    → (q : Progress) → hart_steps (is_watched m.platform.virt) n (progress (loaded_in part (root_for part pool m.platform.virt) m.platform.virt) memory t false) ≡ Some q → Ran part pool m memory t n q
unfolding hart_steps
ran part pool m memory limit t running lasts at zero h q e =
    let is : progress (loaded_in part (root_for part pool m.platform.virt) m.platform.virt) memory t false ≡ q = same_Some _ q e in subst (Ran part pool m memory t zero) is (ran_none part pool m memory limit t lasts at)
ran part pool m memory limit t running lasts at (suc n) h q e =
    let within = below_limit n limit h in
    let before = within_limit n limit h in
    subst (λ k. Ran part pool m memory t k q) (one_more_suc n)
    (ran_next part pool m memory limit t n (hart_steps (is_watched m.platform.virt) n (progress (loaded_in part (root_for part pool m.platform.virt) m.platform.virt) memory t false)) q running lasts at within
    (λ p some. ran part pool m memory limit t running lasts at n before p some) e)

-- what is taken back of a hart with the guest's reservation at its place in memory
pub taken_is : (part : Layout) (hart own before : Virtual) (trapped : Bool) → NamesEachOnce part → ReservesWithin (in_ram part.blocks) own.reservation
    → hart ≡ renamed (memory_place part.blocks) own → taken_back part hart trapped before ≡ guest_state_after trapped own before
taken_is part hart own before trapped once held is =
    ap (λ saved. cond (trapped && not (is_virtual before.mode)) (after_hs_trap saved) saved)
    (ap (λ h. saved_in part h before) is ∙ saves_own part own before once held)

-- after none of its steps the machine is what it was
pub none_taken : (watch : Bool) (part : Layout) (pool : Pooled) (m : Machine) (memory : List ℕ) (limit t : ℕ) → m.platform.status ≡ Running → Lasts m.platform limit → IsAt part pool m memory → (taken : ℕ) → taken ≤ limit
    → (q : Progress) → hart_steps watch taken (progress (loaded_in part (root_for part pool m.platform.virt) m.platform.virt) memory t false) ≡ Some q → taken ≡ 0
    → m.platform ≡ moved m.platform (taken_back part q.state.virt q.trapped m.platform.virt) taken
unfolding hart_steps
none_taken watch part pool m memory limit t running lasts at zero h q e none =
    let is = ran part pool m memory limit t running lasts at zero h q e in
    ap (λ m. m.platform) (sym (run_none m zero (omega arith)) ∙ is.machine)
    ∙ ap (λ virt. moved m.platform virt zero) (sym (taken_is part q.state.virt is.own m.platform.virt q.trapped at.once is.held is.stands.state))
none_taken watch part pool m memory limit t running lasts at (suc n) h q e none = absurd (omega (arith, none))

-- why an entry ended
pub stopped : (part : Layout) (pool : Pooled) (m : Machine) (memory : List ℕ) (limit t : ℕ) (state : HartState) (changed : List ℕ) (t' taken : ℕ) (why : Why) → m.platform.status ≡ Running
    → Lasts m.platform limit → IsAt part pool m memory → taken ≤ limit
    → hart_steps (is_watched m.platform.virt) taken (progress (loaded_in part (root_for part pool m.platform.virt) m.platform.virt) memory t false) ≡ Some (progress state changed t' (is_vs_trap why))
    → IsWhy limit taken state changed why → IsStopped part pool m (run m taken) changed limit taken why
stopped part pool m memory limit t state changed t' taken Limit running lasts at within e why = why
stopped part pool m memory limit t state changed t' taken VsTrap running lasts at within e why =
    (ran part pool m memory limit t running lasts at taken within (progress state changed t' true) e).ends refl
stopped part pool m memory limit t state changed t' taken (Exit trap) running lasts at within e (fewer, exits) =
    let root = root_for part pool m.platform.virt in
    let is = ran part pool m memory limit t running lasts at taken within (progress state changed t' false) e in
    let r = ready part root m limit taken is.own state (ram_of part.blocks changed) lasts fewer is.keeps is.stands is.machine in (
      fewer,
      subst (λ m. Hands part pool m changed trap) (sym is.machine) (record {
        own = r.own;
        exits = subst (λ root. hart_step (loaded_in part root (moved m.platform (guest_state_of is.own m.platform.virt) taken).virt) changed ≡ Exits trap) (sym (same_root part pool m.platform is.own taken))
            (subst (λ hart. hart_step hart changed ≡ Exits trap) (sym r.stands) exits);
      }),
    )

-- a step that the hart has left to the host
pub left : (part : Layout) (pool : Pooled) (m : Machine) (memory : List ℕ) (trap : Trap) → IsAt part pool m memory → Hands part pool m memory trap
    → IsLeft m (found_next m) (try m) (missing_entry m) (exit_of m.platform.virt trap)
left part pool m memory trap at hands =
    let root = root_for part pool m.platform.virt in
    let there : Follows part root m memory (Exits trap) = subst (λ end. Follows part root m memory end) hands.exits (followed part pool m memory hands.own at) in there

-- an interrupt that the host takes goes to HS
given_to : (delegated : Bool) → not delegated ≡ true → cond delegated level.VS level.HS ≡ level.HS
given_to true is = cc
given_to false is = refl

pub hosts_target : (csrs : Csrs) (mode : Mode) (code : ℕ) → is_hosts (Some code) (is_virtual mode) csrs.hideleg ≡ true → target csrs mode (interrupt_of code) ≡ level.HS
unfolding target
hosts_target csrs mode code is = by (is_virtual mode) is
  where
    by : (virtual : Bool) → is_hosts (Some code) virtual csrs.hideleg ≡ true → cond (virtual && vs_bit csrs.hideleg code) level.VS level.HS ≡ level.HS
    by true is = given_to (vs_bit csrs.hideleg code) is
    by false is = refl

-- an interrupt that is due
pub interrupted : (m : Machine) (code : ℕ) → due m.platform.virt.csrs m.platform.virt.mode ≡ Some code → (missing_entry m ≡ None) × (try m ≡ trapped m (interrupt_of code))
unfolding try_under
interrupted m code is = (interrupted_misses_nothing m code is, rw is refl)
