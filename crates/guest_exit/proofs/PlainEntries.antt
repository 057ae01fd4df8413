-- An entry of the hart for plain steps alone.
use Rattle.std.proofs.Common.{cond, ◌≡◌, ℕ, zero, suc, ◌+◌, ◌≤◌, ◌<◌, List, [], ◌∷◌, Some, None, false, refl, ap, subst, arith}
use Rattle.std.proofs.lemmas.List.Sums.{sum_by-append}
use Rattle.arch_defs.specs.declared.hart_states.HartState.{HartState}
use Rattle.arch_defs.specs.declared.registers.Virtual.{Virtual}
use Rattle.arch_defs.specs.Layouts.{Layout}
use Rattle.arch_defs.specs.Ram.{ram_of}
use Rattle.fill_laws.proofs.Running.{events_compose}
use Rattle.guest_settings.specs.declared.statuses.Status.TheVariants.{Running}
use Rattle.machine_defs.specs.declared.events.Event.TheVariants as event
use Rattle.machine_defs.specs.Fills.{missing_entry}
use Rattle.machine_defs.specs.Machine.{Machine}
use Rattle.machine_defs.specs.Runs.{event_in, events, is_plain_step, plain_count, run}
use Rattle.machine_defs.specs.Tries.{try}
use Rattle.rv64_hart.specs.PlainSteps.{plain_steps}
use Rattle.rv64_hart.specs.Steps.{Goes, Progress, hart_step, progress}
use Rattle.rv64_hart.proofs.PlainSteps.{plain_front, plain_is_steps, plain_step}
use Rattle.shadow_pool.specs.Slots.{Pooled}
use Rattle.world_switch.specs.Hosting.{guest_state_of, loaded_in, root_at}
use Rattle.hosted_steps.specs.HartSteps.{Follows, IsAt, IsMade, root_for, root_frame_for}
use Rattle.guest_exit.specs.HartEntry.{Lasts, is_watched}
use Rattle.guest_exit.proofs.Entries.{Ran, below_limit, next_follows, one_event, one_more_suc, placed, ran, there_at, within_limit}

-- from the state that is loaded
pub plain_from : (part : Layout) (pool : Pooled) (v : Virtual) (memory : List ℕ) (t taken : ℕ) (q : Progress)
    → plain_steps taken (progress (loaded_in part (root_at part (root_frame_for part pool v)) v) memory t false) ≡ Some q
    → plain_steps taken (progress (loaded_in part (root_for part pool v) v) memory t false) ≡ Some q
unfolding root_for
plain_from part pool v memory t taken q e = e

-- a plain step after others is one more
plain_after : (m now : Machine) (n pc word : ℕ) → run m n ≡ now → now.platform.status ≡ Running → missing_entry now ≡ None → event_in (try now) ≡ event.Plain pc word ∷ []
    → plain_count (events m n) ≡ n → plain_count (events m (n + 1)) ≡ n + 1
plain_after m now n pc word there running lacks is before =
    rw (← events_compose m n 1, there, one_event now running lacks, is, sum_by-append (λ e. cond (is_plain_step e) 1 0) (events m n) (event.Plain pc word ∷ []), before)
    (omega arith)

-- so it is where the hart has made it
plain_next : (part : Layout) (pool : Pooled) (m : Machine) (memory : List ℕ) (limit t n : ℕ) (p : Progress) (state : HartState) (changed : List ℕ) (pc word : ℕ) → m.platform.status ≡ Running
    → Lasts m.platform limit → IsAt part pool m memory → n < limit → Ran part pool m memory t n p → p.trapped ≡ false → hart_step p.state p.memory ≡ Goes state changed (event.Plain pc word)
    → plain_count (events m n) ≡ n → plain_count (events m (n + 1)) ≡ n + 1
plain_next part pool m memory limit t n p state changed pc word running lasts at h ran fresh is before =
    let root = root_for part pool m.platform.virt in
    let now = placed m (guest_state_of ran.own m.platform.virt) (ram_of part.blocks p.memory) n in
    let made : IsMade part root now (try now) (missing_entry now) p.memory state changed (event.Plain pc word) =
    subst (λ end. Follows part root now p.memory end) is (next_follows part pool m memory limit t n p lasts at h ran fresh) in
    plain_after m now n pc word (there_at part pool m memory t n p ran fresh) running made.ready (ap event_in made.step) before

-- each step of an entry for plain steps is plain
pub all_plain : (part : Layout) (pool : Pooled) (m : Machine) (memory : List ℕ) (limit t : ℕ) → m.platform.status ≡ Running → Lasts m.platform limit → IsAt part pool m memory → (n : ℕ) → n ≤ limit
    → (q : Progress) → plain_steps n (progress (loaded_in part (root_for part pool m.platform.virt) m.platform.virt) memory t false) ≡ Some q → plain_count (events m n) ≡ n
unfolding events
all_plain part pool m memory limit t running lasts at zero h q e = refl
all_plain part pool m memory limit t running lasts at (suc n) h q e =
    let start = progress (loaded_in part (root_for part pool m.platform.virt) m.platform.virt) memory t false in
    let within = within_limit n limit h in
    let front = plain_front n start q e in
    let r = front.middle in
    let last = plain_step r q front.last in
    let is = ran part pool m memory limit t running lasts at n within r (plain_is_steps (is_watched m.platform.virt) n start r front.steps) in
    subst (λ k. plain_count (events m k) ≡ k) (one_more_suc n)
    (plain_next part pool m memory limit t n r q.state q.memory last.pc last.word running lasts at (below_limit n limit h) is last.before last.step
    (all_plain part pool m memory limit t running lasts at n within r front.steps))
