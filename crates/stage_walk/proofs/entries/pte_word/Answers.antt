use Rattle.stage_walk.proofs.EntryWords.{word_of_flags}
use Rattle.stage_walk.proofs.entries.pte_word.Goals as goal

pub returns : goal.returns
returns c =
    rw (
      c.bits_if.ensures,
      c.bits_if-2.ensures,
      c.bits_if-3.ensures,
      c.bits_if-4.ensures,
      c.bits_if-5.ensures,
      c.bits_if-6.ensures,
      c.bits_if-7.ensures,
    ) (word_of_flags c.args.entry.now)
