-- The log, whole or a front of it, of what has been put.
use Rattle.std.proofs.Common.{refl, ℕ, Bool, false, List, ◌++◌, map}
use Rattle.log_lines.specs.declared.kinds.Kinds.{Kinds}
use Rattle.log_lines.specs.declared.lines.CountLine.{CountLine}
use Rattle.log_lines.specs.declared.lines.Line.TheVariants as line
use Rattle.machine_defs.specs.Machine.{Machine}
use Rattle.outside.proofs.Pieces.{puts_stopped, puts_then}
use Rattle.outside.specs.declared.sinks.Sink as sinks
use Rattle.outside.specs.Pieces.{Appends, Puts}
use Rattle.run_log.specs.Log.{AreCountsIf, lines_from, text_of_lines}
use Rattle.log_writer.specs.Logging.{HasLogged}
use Rattle.log_writer.proofs.Counting.{counts_exist_if}

module _ {O : Type 0} (K : sinks.Ghosts O) (kinds : Kinds) (m : Machine) (from steps : ℕ) where
  abbrev lines_text : List ℕ
  lines_text = text_of_lines (lines_from kinds m from steps)

  abbrev counts_text : List CountLine → List ℕ
  counts_text counts = text_of_lines (map line.Count counts)

  pub logged : (old mid new : O) (ok : Bool) (counts : List CountLine) → AreCountsIf kinds.counts m from steps counts
      → Appends K.stands_for old mid lines_text → Puts K.stands_for mid new ok (counts_text counts) → HasLogged K kinds m from steps ok old new
  logged old mid new ok counts are first second = (
    lines_text ++ counts_text counts,
    record { counts = counts; counted = are; text = refl },
    puts_then K.stands_for old mid new ok lines_text (counts_text counts) first second,
  )

  -- a log that broke off before its counts
  pub logged_front : (old new : O) → Puts K.stands_for old new false lines_text → HasLogged K kinds m from steps false old new
  logged_front old new stopped = by (counts_exist_if m from kinds.counts steps)
    where
      by : (counts : List CountLine) × AreCountsIf kinds.counts m from steps counts → HasLogged K kinds m from steps false old new
      by (counts, are) = (
        lines_text ++ counts_text counts,
        record { counts = counts; counted = are; text = refl },
        puts_stopped K.stands_for old new lines_text (counts_text counts) stopped,
      )
