-- How tries lead to steps: a fill leaves the step, and the last try makes it.
use Rattle.std.proofs.Common.{cond, ◌≡◌, ℕ, ◌+◌, ◌-◌, ◌≤◌, Bool, true, false, List, [], ◌∷◌, ◌++◌, Option, Some, None, length, drop, arith}
use Rattle.std.proofs.lemmas.List.{drop-append-le, length-append}
use Rattle.arch_defs.specs.declared.cached.Entry.{Entry}
use Rattle.arch_defs.specs.CachedEntries.{filled, newest, without}
use Rattle.arch_defs.specs.Interrupts.{due}
use Rattle.arch_defs.specs.Spaces.{Space, front}
use Rattle.arch_defs.specs.WalkedEntries.{folds}
use Rattle.machine_defs.specs.Fills.{filled_front, missing_entry, missing_entry_with, most_fills}
use Rattle.machine_defs.specs.FirstLeaves.{known_of, tag_of}
use Rattle.fill_laws.proofs.Filling.{fills_go_on, no_fills}
use Rattle.fill_laws.proofs.Stepping.{step_ready, steps_go_on}
use Rattle.guest_turns.specs.Tries.{FillsAreLast, FillsLeaveStep, LastTryIsStep}

pub fills_leave_step : FillsLeaveStep
fills_leave_step m e room is lacks = record { step = steps_go_on m e room is lacks; ready = (fills_go_on m e room lacks).same }

pub last_try_is_step : LastTryIsStep
last_try_is_step m is none = record { step = step_ready m is none; ready = no_fills (most_fills m) m none }

-- the entry that is filled is the last one
abbrev IsLast : List Entry → Entry → Type 0
IsLast entries e = (others : List Entry) × (entries ≡ others ++ e ∷ [])

behind : (most : ℕ) (before : List Entry) (e : Entry) → 1 ≤ most → IsLast (newest most (before ++ e ∷ [])) e
behind most before e some =
    let entries = before ++ e ∷ [] in
    let size : length entries ≡ length before + 1 = length-append before (e ∷ []) in
    let few : length entries - most ≤ length before = omega (arith, size, some) in
    (drop (length entries - most) before, drop-append-le (length entries - most) before (e ∷ []) few)

filled_last : (most : ℕ) (entries : List Entry) (e : Entry) → 1 ≤ most → IsLast (filled most entries e) e
unfolding filled
filled_last most entries e some = behind most (without e.page entries) e some

pub fills_are_last : FillsAreLast
unfolding missing_entry
fills_are_last m e room lacks = by (folds m.platform.virt) m.spaces (due m.platform.virt.csrs m.platform.virt.mode) lacks
  where
    by : (folding : Bool) (spaces : List Space) (code : Option ℕ)
        → cond folding (missing_entry_with m.device (known_of m.platform.virt.first (tag_of m.platform.virt) m.platform.virt) m.platform.virt m.ram spaces code) None ≡ Some e
        → IsLast (front (filled_front m.entry_room spaces e)) e
    by true (s ∷ ss) None is = filled_last m.entry_room s.entries e (omega (arith, room))
    by true (s ∷ ss) (Some code) is = absurd (cc)
    by true [] code is = absurd (cc)
    by false spaces code is = absurd (cc)
