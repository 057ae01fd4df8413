-- The word of a machine's next instruction.
use Rattle.std.proofs.Common.{◌≡◌, ℕ, Option, Some, None, refl}
use Rattle.arch_defs.specs.Interrupts.{due}
use Rattle.arch_defs.specs.Memory.{Reading}
use Rattle.machine_defs.specs.Core.{At, Fails, Located, fetch_place}
use Rattle.machine_defs.specs.Machine.{Machine}
use Rattle.machine_defs.specs.Tries.{mmu_of}
use Rattle.rv64_hart.specs.NextAccesses.{word_there}
use Rattle.guest_exit.specs.NextSteps.{word_next, word_with}
use Rattle.run_log.specs.Steps.{step_word, step_word_with, word_if}

word_by : (reading : Reading) (located : Located) → word_there reading located ≡ word_if reading located
word_by reading (At place) = refl
word_by reading (Fails failure) = refl

-- it is the word of its step
pub next_word_is : (m : Machine) → word_next m ≡ step_word m
unfolding word_next step_word
next_word_is m = by (due m.platform.virt.csrs m.platform.virt.mode)
  where
    by : (code : Option ℕ) → word_with m code ≡ step_word_with m code
    by (Some code) = refl
    by None = word_by (mmu_of m).reading (fetch_place (mmu_of m) m.platform.virt)
