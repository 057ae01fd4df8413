-- Runs of the hart, a step at a time.
use Rattle.std.specs.Prelude.{option_and_then}
use Rattle.std.proofs.Common.{◌≡◌, ℕ, zero, suc, ◌+◌, ◌%◌, ◌^◌, ◌≤◌, List, Option, Some, None, Bool, false, refl, arith, ap, ◌∙◌}
use Rattle.arch_defs.specs.declared.hart_states.HartState.{HartState}
use Rattle.arch_defs.specs.Interrupts.{due}
use Rattle.machine_defs.specs.Core.{core}
use Rattle.arch_defs.specs.declared.modes.Trap.{Trap}
use Rattle.machine_defs.specs.declared.events.Event.TheVariants as event
use Rattle.rv64_hart.specs.declared.endings.Ended.{Ended}
use Rattle.rv64_hart.specs.declared.endings.Ended.TheVariants.{Plain, System, Raised}
use Rattle.rv64_hart.specs.Counts.{Counts}
use Rattle.rv64_hart.specs.Endings.{IfRaised, IsNext, KeepsContext, RunsOn, RunsPlain, Tells, attempt_of_word, one_of, told_by, told_of}
use Rattle.rv64_hart.specs.MachineMemory.{mmu_on}
use Rattle.rv64_hart.specs.PlainSteps.{one_plain_step, plain_steps, went_plain}
use Rattle.rv64_hart.specs.Steps.{Makes, Progress, attempt_of, end_by, found_at_exit, hart_step, hart_steps, next_attempt, one_more_step, progress, caching_found, with_found_on}
use Rattle.rv64_hart.proofs.Told.{goes_on}

-- no steps
pub steps_none : (watch : Bool) (n : ℕ) (p : Progress) → n ≤ 0 → hart_steps watch n p ≡ Some p
unfolding hart_steps
steps_none watch zero p h = refl
steps_none watch (suc n) p h = absurd (omega arith)

-- one more
pub steps_more : (watch : Bool) (n m : ℕ) (p q : Progress) (r : Option Progress) → m ≡ n + 1 → hart_steps watch n p ≡ Some q → one_more_step watch q ≡ r → hart_steps watch m p ≡ r
unfolding hart_steps
steps_more watch n m p q r e h one = let s : n + 1 ≡ suc n = omega arith in rw (e, s, h) one

-- and more of them
pub steps_on : (watch : Bool) (m n k : ℕ) (p q : Progress) (r : Option Progress) → k ≡ m + n → hart_steps watch m p ≡ Some q → hart_steps watch n q ≡ r → hart_steps watch k p ≡ r
unfolding hart_steps
steps_on watch m zero k p q r e h t = let s : k ≡ m = omega arith in rw s (h ∙ t)
steps_on watch m (suc n) k p q r e h t = let s : k ≡ suc (m + n) = omega arith in
    rw s (ap (option_and_then (one_more_step watch)) (steps_on watch m n (m + n) p q (hart_steps watch n q) refl h refl) ∙ t)

-- the same to values that are equal to those reached
pub steps_to : (watch : Bool) (m n : ℕ) (p q : Progress) (s t : HartState) (memory held : List ℕ) (trace sum : ℕ) (ended entered : Bool)
    → hart_steps watch m p ≡ Some q → hart_steps watch n q ≡ Some (progress s memory trace ended)
    → t ≡ s → held ≡ memory → sum ≡ trace → entered ≡ ended → hart_steps watch (m + n) p ≡ Some (progress t held sum entered)
steps_to watch m n p q s t memory held trace sum ended entered before on state kept told enters =
    rw (state, kept, told, enters) (steps_on watch m n (m + n) p q (Some (progress s memory trace ended)) refl before on)

-- an instruction that is made is a step where no interrupt is due
pub makes_step : (watch : Bool) (s : HartState) (memory : List ℕ) (trace : ℕ) (after : HartState) (changed : List ℕ) (raised : ℕ)
    → due s.virt.csrs s.virt.mode ≡ None
    → told_of trace (attempt_of (with_found_on s memory) memory (core (mmu_on s memory) s.virt)) ≡ Tells after changed raised false
    → one_more_step watch (progress s memory trace false) ≡ Some (progress after changed raised false)
unfolding hart_step one_more_step
makes_step watch s memory trace after changed raised none told =
    goes_on watch trace (caching_found s (found_at_exit s memory)) memory (next_attempt s memory (due s.virt.csrs s.virt.mode)) after changed raised
    (rw none told)

-- so it runs on
pub runs_one : (n : ℕ) (s : HartState) (memory : List ℕ) (trace : ℕ) (after : HartState) (changed : List ℕ) (raised : ℕ)
    → n ≡ 1 → due s.virt.csrs s.virt.mode ≡ None
    → told_of trace (attempt_of (with_found_on s memory) memory (core (mmu_on s memory) s.virt)) ≡ Tells after changed raised false
    → RunsOn n s memory trace after changed raised
runs_one n s memory trace after changed raised is none told watch =
    steps_more watch 0 n (progress s memory trace false) (progress s memory trace false) (Some (progress after changed raised false)) is
    (steps_none watch 0 (progress s memory trace false) (omega arith)) (makes_step watch s memory trace after changed raised none told)

pub runs_both : (m n k : ℕ) (s : HartState) (memory : List ℕ) (trace : ℕ) (between : HartState) (held : List ℕ) (sum : ℕ) (after : HartState) (changed : List ℕ) (raised : ℕ)
    → k ≡ m + n → RunsOn m s memory trace between held sum → RunsOn n between held sum after changed raised
    → RunsOn k s memory trace after changed raised
runs_both m n k s memory trace between held sum after changed raised is first second watch =
    steps_on watch m n k (progress s memory trace false) (progress between held sum false) (Some (progress after changed raised false)) is (first watch) (second watch)

-- an instruction by how it ended
pub runs_by : (end : Ended) (n : ℕ) (s : HartState) (memory : List ℕ) (counts : Counts) (trap : Trap) (after : HartState) (changed : List ℕ) (raised : Counts)
    → n ≡ one_of end → due s.virt.csrs s.virt.mode ≡ None
    → told_of counts.trace (attempt_of (with_found_on s memory) memory (core (mmu_on s memory) s.virt)) ≡ told_by end trap after changed raised.trace
    → IfRaised end ((after ≡ s) × (changed ≡ memory)) → IfRaised end (raised ≡ counts)
    → RunsOn n s memory counts.trace after changed raised.trace
runs_by Plain n s memory counts trap after changed raised is none told stays same = runs_one n s memory counts.trace after changed raised.trace is none told
runs_by System n s memory counts trap after changed raised is none told stays same = runs_one n s memory counts.trace after changed raised.trace is none told
runs_by Raised n s memory counts trap after changed raised is none told (a, b) e = λ watch.
    rw (a, b, e) (steps_none watch n (progress s memory counts.trace false) (omega (arith, is)))

-- no plain steps, and more of them
pub plain_none : (n : ℕ) (p : Progress) → n ≤ 0 → plain_steps n p ≡ Some p
unfolding plain_steps
plain_none zero p h = refl
plain_none (suc n) p h = absurd (omega arith)

plain_more : (n m : ℕ) (p q : Progress) (r : Option Progress) → m ≡ n + 1 → plain_steps n p ≡ Some q → one_plain_step q ≡ r → plain_steps m p ≡ r
unfolding plain_steps
plain_more n m p q r e h one = let s : n + 1 ≡ suc n = omega arith in rw (e, s, h) one

plain_on : (m n k : ℕ) (p q : Progress) (r : Option Progress) → k ≡ m + n → plain_steps m p ≡ Some q → plain_steps n q ≡ r → plain_steps k p ≡ r
unfolding plain_steps
plain_on m zero k p q r e h t = let s : k ≡ m = omega arith in rw s (h ∙ t)
plain_on m (suc n) k p q r e h t = let s : k ≡ suc (m + n) = omega arith in
    rw s (ap (option_and_then one_plain_step) (plain_on m n (m + n) p q (plain_steps n q) refl h refl) ∙ t)

pub plain_both : (m n k : ℕ) (s : HartState) (memory : List ℕ) (trace : ℕ) (between : HartState) (held : List ℕ) (sum : ℕ) (after : HartState) (changed : List ℕ) (raised : ℕ)
    → k ≡ m + n → RunsPlain m s memory trace between held sum → RunsPlain n between held sum after changed raised
    → RunsPlain k s memory trace after changed raised
plain_both m n k s memory trace between held sum after changed raised is first second =
    plain_on m n k (progress s memory trace false) (progress between held sum false) (Some (progress after changed raised false)) is first second

makes_plain : (s : HartState) (memory : List ℕ) (trace : ℕ) (after : HartState) (changed : List ℕ) (raised pc word : ℕ)
    → due s.virt.csrs s.virt.mode ≡ None
    → attempt_of (with_found_on s memory) memory (core (mmu_on s memory) s.virt) ≡ Makes after changed (event.Plain pc word)
    → (trace + (pc + word)) % 2 ^ 64 ≡ raised
    → one_plain_step (progress s memory trace false) ≡ Some (progress after changed raised false)
unfolding hart_step one_plain_step
makes_plain s memory trace after changed raised pc word none made adds =
    let is : next_attempt s memory (due s.virt.csrs s.virt.mode) ≡ Makes after changed (event.Plain pc word) = rw none made in
    ap (λ attempt. went_plain trace (end_by (caching_found s (found_at_exit s memory)) memory attempt)) is
    ∙ ap (λ t. Some (progress after changed t false)) adds

-- a common one
pub runs_common : (n m : ℕ) (s : HartState) (memory : List ℕ) (trace : ℕ) (between : HartState) (held : List ℕ) (sum : ℕ) (after : HartState) (changed : List ℕ) (raised word : ℕ)
    → m ≡ n + 1 → RunsPlain n s memory trace between held sum → KeepsContext s.virt between.virt → due s.virt.csrs s.virt.mode ≡ None → IsNext word between held
    → attempt_of_word between held word ≡ Makes after changed (event.Plain between.virt.regs.pc word)
    → raised ≡ (sum + (between.virt.regs.pc + word) % 2 ^ 64) % 2 ^ 64
    → RunsPlain m s memory trace after changed raised
runs_common n m s memory trace between held sum after changed raised word is before (csrs, mode) none next made adds =
    let due_between : due between.virt.csrs between.virt.mode ≡ None = rw (csrs, mode) none in
    let same : (sum + (between.virt.regs.pc + word)) % 2 ^ 64 ≡ raised = omega (arith, adds) in
    plain_more n m (progress s memory trace false) (progress between held sum false) (Some (progress after changed raised false)) is
    before (makes_plain between held sum after changed raised between.virt.regs.pc word due_between (next ∙ made) same)
