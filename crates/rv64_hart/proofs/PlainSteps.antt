-- Runs of plain steps, which are runs of steps.
use Rattle.std.specs.Prelude.{option_and_then}
use Rattle.std.proofs.Common.{◌≡◌, ℕ, zero, suc, ◌+◌, ◌%◌, ◌^◌, List, Option, Some, None, Bool, true, false, cond, refl, ap, sym, ◌∙◌}
use Rattle.std.proofs.lemmas.Option.{none-some, same_Some}
use Rattle.arch_defs.specs.declared.hart_states.HartState.{HartState}
use Rattle.machine_defs.specs.declared.events.Event.TheVariants as event
use Rattle.rv64_hart.specs.Endings.{RunsOn, RunsPlain}
use Rattle.rv64_hart.specs.PlainSteps.{one_plain_step, plain_steps, went_plain}
use Rattle.rv64_hart.specs.Steps.{Exits, Goes, HartEnd, Progress, hart_step, hart_steps, one_more_step, progress, progressed}

-- a step of an instruction that is plain
pub record IsPlainStep (p q : Progress) : Type 0 where
  pub pc : ℕ
  pub word : ℕ
  pub step : hart_step p.state p.memory ≡ Goes q.state q.memory (event.Plain pc word)
  pub trace : q.trace ≡ (p.trace + (pc + word)) % 2 ^ 64
  pub before : p.trapped ≡ false
  pub after : q.trapped ≡ false

-- all steps of a run but the last, and the last
pub record HasPlainFront (n : ℕ) (p q : Progress) : Type 0 where
  pub middle : Progress
  pub steps : plain_steps n p ≡ Some middle
  pub last : one_plain_step middle ≡ Some q

plain_end : (p q : Progress) (end : HartEnd) → p.trapped ≡ false → hart_step p.state p.memory ≡ end → went_plain p.trace end ≡ Some q → IsPlainStep p q
plain_end p q (Goes state memory (event.Plain pc word)) fresh is e =
    let same = same_Some (progress state memory ((p.trace + (pc + word)) % 2 ^ 64) false) q e in
    record {
      pc = pc;
      word = word;
      step = is ∙ ap (λ (r : Progress). Goes r.state r.memory (event.Plain pc word)) same;
      trace = sym (ap (λ (r : Progress). r.trace) same);
      before = fresh;
      after = sym (ap (λ (r : Progress). r.trapped) same);
    }
plain_end p q (Goes state memory (event.Trap level interrupt)) fresh is e = absurd (none-some q e)
plain_end p q (Goes state memory event.System) fresh is e = absurd (none-some q e)
plain_end p q (Exits trap) fresh is e = absurd (none-some q e)

fresh_of : (trapped : Bool) (o : Option Progress) (q : Progress) → cond trapped None o ≡ Some q → (trapped ≡ false) × (o ≡ Some q)
fresh_of true o q e = absurd (none-some q e)
fresh_of false o q e = (refl, e)

-- one plain step tells its event
pub plain_step : (p q : Progress) → one_plain_step p ≡ Some q → IsPlainStep p q
unfolding one_plain_step
plain_step p q e =
    let is = fresh_of p.trapped (went_plain p.trace (hart_step p.state p.memory)) q e in
    plain_end p q (hart_step p.state p.memory) is.0 refl is.1

before_of : (f : Progress → Option Progress) (o : Option Progress) (q : Progress) → option_and_then f o ≡ Some q → (middle : Progress) × (o ≡ Some middle) × (f middle ≡ Some q)
before_of f None q e = absurd (none-some q e)
before_of f (Some middle) q e = (middle, refl, e)

-- a run of plain steps before its last one
pub plain_front : (n : ℕ) (p q : Progress) → plain_steps (suc n) p ≡ Some q → HasPlainFront n p q
unfolding plain_steps
plain_front n p q e =
    let front = before_of one_plain_step (plain_steps n p) q e in
    record { middle = front.0; steps = front.1; last = front.2 }

-- it is a run of steps, whether it is watched or not
made_so : (watch : Bool) (trace : ℕ) (end : HartEnd) (q : Progress) → went_plain trace end ≡ Some q → progressed watch trace end ≡ Some q
made_so true trace (Goes state memory (event.Plain pc word)) q e = e
made_so false trace (Goes state memory (event.Plain pc word)) q e = e
made_so watch trace (Goes state memory (event.Trap level interrupt)) q e = absurd (none-some q e)
made_so watch trace (Goes state memory event.System) q e = absurd (none-some q e)
made_so watch trace (Exits trap) q e = absurd (none-some q e)

one_is_step : (watch : Bool) (p q : Progress) → one_plain_step p ≡ Some q → one_more_step watch p ≡ Some q
unfolding one_plain_step one_more_step
one_is_step watch p q e = by p.trapped e
  where
    by : (trapped : Bool) → cond trapped None (went_plain p.trace (hart_step p.state p.memory)) ≡ Some q
        → cond trapped None (progressed watch p.trace (hart_step p.state p.memory)) ≡ Some q
    by true h = h
    by false h = made_so watch p.trace (hart_step p.state p.memory) q h

pub plain_is_steps : (watch : Bool) (n : ℕ) (p q : Progress) → plain_steps n p ≡ Some q → hart_steps watch n p ≡ Some q
unfolding plain_steps hart_steps
plain_is_steps watch zero p q e = e
plain_is_steps watch (suc n) p q e =
    let front = plain_front n p q e in
    ap (option_and_then (one_more_step watch)) (plain_is_steps watch n p front.middle front.steps)
    ∙ one_is_step watch front.middle q front.last

pub plain_runs : (n : ℕ) (s : HartState) (memory : List ℕ) (trace : ℕ) (after : HartState) (changed : List ℕ) (raised : ℕ)
    → RunsPlain n s memory trace after changed raised → RunsOn n s memory trace after changed raised
plain_runs n s memory trace after changed raised e watch = plain_is_steps watch n (progress s memory trace false) (progress after changed raised false) e
