use Rattle.std.proofs.Common.{arith, ◌≡◌, ℕ, ◌+◌, List, [], ◌∷◌, ◌++◌, length, take, Bool, true, false}
use Rattle.std.proofs.lemmas.Grind.{common_steps, flat_map-append}
use Rattle.std.proofs.lemmas.List.{append_assoc, take-append-le}
use Rattle.std.proofs.Math.Seq.{take-append-add}
use Rattle.outside.specs.Faults.{one_more}
use Rattle.outside.specs.ListSinks.{SinkState, IsWrittenBy}
use Rattle.outside.specs.Pieces.{Appends, Puts}

-- two lists one after the other are their concatenation
pub appends_then : {S A : Type 0} (stands_for : S → List A → Type 0) (old mid new : S) (a b : List A)
    → Appends stands_for old mid a → Appends stands_for mid new b → Appends stands_for old new (a ++ b)
appends_then stands_for old mid new a b first second =
    λ before stood. rw (← append_assoc before a b) (second (before ++ a) (first before stood))

-- after a piece that was taken, what the next put did is done of both
pub puts_then : {S : Type 0} (stands_for : S → List ℕ → Type 0) (old mid new : S) (ok : Bool) (a b : List ℕ)
    → Appends stands_for old mid a → Puts stands_for mid new ok b → Puts stands_for old new ok (a ++ b)
puts_then stands_for old mid new true a b first second = appends_then stands_for old mid new a b first second
puts_then stands_for old mid new false a b first (n, within, second) =
    (length a + n, grind (arith, common_steps), rw (take-append-add a b n) (appends_then stands_for old mid new a (take n b) first second))

-- a piece that was not taken whole leaves a front of all that was to come
pub puts_stopped : {S : Type 0} (stands_for : S → List ℕ → Type 0) (old new : S) (a b : List ℕ)
    → Puts stands_for old new false a → Puts stands_for old new false (a ++ b)
puts_stopped stands_for old new a b (n, within, stopped) =
    (n, grind (arith, common_steps), rw (take-append-le n a b within) stopped)

-- what a caller that writes several pieces needs
pub ruleset pieces = (appends_then, puts_then, puts_stopped)

-- one more piece was taken
pub made_of_more : (old new : SinkState) (pieces : List (List ℕ)) (piece : List ℕ) → new.bytes ≡ old.bytes ++ piece → new.puts ≡ one_more old.puts
    → IsWrittenBy old pieces → IsWrittenBy new (pieces ++ piece ∷ [])
made_of_more old new pieces piece bytes puts made = record {
  bytes = grind (arith, common_steps, flat_map-append, bytes, made.bytes);
  puts = grind (arith, common_steps, puts, made.puts);
}
