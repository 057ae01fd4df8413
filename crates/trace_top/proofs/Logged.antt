-- The log of no step.
use Rattle.std.proofs.Common.{arith, ◌≡◌, refl, sym, subst, ℕ, Bool, true, false, [], append-nil}
use Rattle.log_lines.specs.declared.kinds.Kinds.{Kinds}
use Rattle.log_lines.specs.declared.lines.CountKey.{CountKey}
use Rattle.log_writer.specs.Logging.{HasLogged}
use Rattle.machine_defs.specs.Machine.{Machine}
use Rattle.outside.specs.declared.sinks.Sink as sinks
use Rattle.run_log.specs.Counts.{times}
use Rattle.run_log.specs.Log.{AreCountsIf, IsLog, lines_from}

module _ (kinds : Kinds) (origin : Machine) (from : ℕ) where
  no_times : (key : CountKey) → times origin from 0 key ≡ 0
  unfolding times
  no_times key = refl

  none_counted : (asked : Bool) → AreCountsIf asked origin from 0 []
  none_counted true = record {
    each = λ k d inside. absurd (omega (arith, inside));
    all = λ key some. absurd (omega (arith, some, no_times key));
    order = λ i j d before inside. absurd (omega (arith, inside));
  }
  none_counted false = refl

  no_lines : lines_from kinds origin from 0 ≡ []
  unfolding lines_from
  no_lines = refl

  pub empty_log : IsLog kinds origin from 0 []
  empty_log = record { counts = []; counted = none_counted kinds.counts; text = rw no_lines refl }

  pub logs_nothing : {O : Type 0} (K : sinks.Ghosts O) (steps : ℕ) (old : O) → steps ≡ 0 → HasLogged K kinds origin from steps true old old
  logs_nothing {O} K steps old none = subst (λ n. HasLogged K kinds origin from n true old old) (sym none)
      ([], empty_log, λ before stands. subst (λ bytes. K.stands_for old bytes) (sym (append-nil before)) stands)
