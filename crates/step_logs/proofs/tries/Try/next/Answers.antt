use Rattle.std.proofs.Common.{◌≡◌, ◌∙◌, ◌⊎◌, inl, inr, ap, sym, refl, Bool, true, false}
use Rattle.run_log.specs.Seen.{step_outcome}
use Rattle.run_log.specs.Steps.{step_word}
use Rattle.step_lines.specs.Acts.{act_in}
use Rattle.step_lines.specs.declared.acts.Act.TheVariants.{Other}
use Rattle.step_logs.specs.Tries.{If, needs_word}
use Rattle.step_logs.proofs.tries.Try.next.Goals as goal

pub held_before-held-requires : goal.held_before-held-requires
held_before-held-requires g c = record { act = by (needs_word c.args.kinds.now) refl }
  where
    by : (needed : Bool) → needs_word c.args.kinds.now ≡ needed
        → (c.act_of-act.result ≡ Other) ⊎ (c.act_of-act.result ≡ act_in (step_outcome (g.R.TryRunner.machine c.word_of-word.new.runner)))
    by true is = inr (c.act_of-act.ensures.act _ (sym c.state.ensures)
        (sym ((rw is at c.word_of-word.ensures.word) ∙ ap step_word (sym c.word_of-word.ensures.stays))))
    by false is = inl (c.act_of-act.ensures.none (c.word_of-word.ensures.none is))
