-- The notes of what a step caches, one by one, and what they tell of its uses.
use Rattle.std.proofs.Common.{arith, ◌≡◌, ◌∙◌, ◌≤◌, sym, subst, ap, ℕ, ◌+◌, suc, List, [], ◌∷◌, ◌++◌, Option, map}
use Rattle.std.specs.Prelude.{Err, Ok}
use Rattle.std.proofs.lemmas.List.{append-nil, append_assoc}
use Rattle.arch_defs.specs.declared.cached.Entry.{Entry}
use Rattle.arch_defs.specs.declared.roots.GuestRoot.{GuestRoot}
use Rattle.caching_steps.proofs.Steps.{remembers_on, tells_since}
use Rattle.caching_steps.specs.Noting.{second_name}
use Rattle.caching_steps.specs.Remembering.{Remembers, fill_notes, found_notes, notes_of}
use Rattle.caching_steps.specs.declared.notes.Note.{Note}
use Rattle.fill_laws.specs.Keeping.{IsOrderly}
use Rattle.guest_settings.specs.declared.statuses.Status.TheVariants.{Running}
use Rattle.machine_defs.specs.declared.events.Event.{Event}
use Rattle.machine_defs.specs.Fills.{needed}
use Rattle.machine_defs.specs.Machine.{Machine}
use Rattle.machine_defs.specs.Runs.{run}
use Rattle.run_log.specs.Fills.{next_filled}
use Rattle.run_log.specs.Seen.{seen_from}
use Rattle.step_logs.specs.StaleUses.{TellUses}
use Rattle.step_logs.specs.Tries.{IsOneTry}
use Rattle.log_writer.proofs.Making.{lacks_none}
use Rattle.log_writer.proofs.NextFills.{next_is, next_none}

-- the notes of fills that are left
module _ (hgatp : GuestRoot) (n : ℕ) where
  abbrev pub notes_left : Machine → List Note
  notes_left m = notes_of n (map (second_name hgatp) (next_filled m))

  pub note_then : (now after : Machine) (e : Entry) (old new : List Note) → needed ≤ now.entry_room → now.platform.status ≡ Running
      → IsOneTry now (Err e) after → new ≡ old ++ notes_of n (second_name hgatp e ∷ []) → new ++ notes_left after ≡ old ++ notes_left now
  note_then now after e old new room running (lacks, fills) noted =
      ap (λ (l : List Note). l ++ notes_left after) noted
      ∙ append_assoc old (notes_of n (second_name hgatp e ∷ [])) (notes_left after)
      ∙ ap (λ (m : Machine). old ++ (notes_of n (second_name hgatp e ∷ []) ++ notes_left m)) fills
      ∙ sym (ap (λ (es : List Entry). old ++ notes_of n (map (second_name hgatp) es)) (next_is now e room running lacks))

  pub note_none : (now after : Machine) (event : Option Event) (notes : List Note) → IsOneTry now (Ok event) after → notes ++ notes_left now ≡ notes
  note_none now after event notes made =
      ap (λ (es : List Entry). notes ++ notes_of n (map (second_name hgatp) es)) (next_none now (lacks_none now after event made))
      ∙ append-nil notes

-- by the notes before a step and those of its fills, as the log has it
module _ (origin m : Machine) (from n : ℕ) (notes : List Note) (is : m ≡ run origin n) (orderly : IsOrderly origin) (begins : from ≤ n)
    (running : m.platform.status ≡ Running) (told : Remembers origin from n notes) where
  goes_on : (run origin n).platform.status ≡ Running
  goes_on = ap (λ (m : Machine). m.platform.status) (sym is) ∙ running

  pub uses_told : TellUses origin from (seen_from n m) (notes ++ fill_notes n m)
  uses_told =
      subst (λ (m : Machine). TellUses origin from (seen_from n m) (notes ++ fill_notes n m)) (sym is) (tells_since origin from n notes orderly begins goes_on told)

  pub remembered_on : (new : List Note) → new ≡ (notes ++ fill_notes n m) ++ found_notes n m → Remembers origin from (n + 1) new
  remembered_on new noted =
      let next : suc n ≡ n + 1 = omega arith in
      subst (λ (k : ℕ). Remembers origin from k new) next
      (subst (Remembers origin from (suc n)) (sym (noted ∙ ap (λ (m : Machine). (notes ++ fill_notes n m) ++ found_notes n m) is))
      (remembers_on origin from n notes orderly begins goes_on told))
