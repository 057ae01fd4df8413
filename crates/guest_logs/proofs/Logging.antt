-- What has been put of the log of a guest, by the end of the call; and where nothing has.
use Rattle.std.specs.Prelude.{Result, Ok, Err, is_ok, OnErr, OnOk}
use Rattle.std.proofs.Common.{arith, ◌≡◌, ◌≤◌, ◌^◌, ℕ, false, true, List, [], ◌++◌, subst, sym}
use Rattle.std.proofs.lemmas.List.{append-nil}
use Rattle.log_lines.specs.declared.kinds.Kinds.{Kinds}
use Rattle.fill_laws.specs.Keeping.{IsOrderly}
use Rattle.guest_save.proofs.GoingOn.{savable_goes_on}
use Rattle.machine_defs.specs.Machine.{Machine}
use Rattle.outside.specs.declared.sinks.Sink as sinks
use Rattle.outside.specs.Pieces.{Puts}
use Rattle.guest_turns.specs.declared.sources.Source.{Source}
use Rattle.guest_turns.specs.Sources.{machine_of_source, IsBootableSource}
use Rattle.guest_turns.proofs.Savables.{savable}
use Rattle.log_writer.specs.Logging.{HasLogged}
use Rattle.log_writer.proofs.Logging.{logged_front}

puts_nothing : {S : Type 0} (stands_for : S → List ℕ → Type 0) (sink : S) (piece : List ℕ) → Puts stands_for sink sink false piece
puts_nothing stands_for sink piece = (0, omega arith, λ before is. subst (stands_for sink) (sym (append-nil before)) is)

pub nothing_logged : {O : Type 0} (K : sinks.Ghosts O) (kinds : Kinds) (m : Machine) (from steps : ℕ) (sink : O) → HasLogged K kinds m from steps false sink sink
nothing_logged K kinds m from steps sink = logged_front K kinds m from steps sink sink (puts_nothing K.stands_for sink _)

pub source_is_early : (source : Source) → IsBootableSource source → (machine_of_source source).platform.steps ≤ 2 ^ 60
source_is_early source bootable = (savable source bootable).steps

pub source_is_orderly : (source : Source) → IsBootableSource source → IsOrderly (machine_of_source source)
source_is_orderly source bootable = (savable_goes_on (machine_of_source source) (savable source bootable)).orderly

-- by the end
pub on_ok : {A E O : Type 0} (K : sinks.Ghosts O) (kinds : Kinds) (m : Machine) (from steps : ℕ) (result : Result A E) (old new : O)
    → HasLogged K kinds m from steps (is_ok result) old new → OnOk result (HasLogged K kinds m from steps true old new)
on_ok K kinds m from steps (Ok done) old new logged = logged
on_ok K kinds m from steps (Err end) old new logged = tt

pub on_err : {A E O : Type 0} (K : sinks.Ghosts O) (kinds : Kinds) (m : Machine) (from steps : ℕ) (result : Result A E) (old new : O)
    → HasLogged K kinds m from steps (is_ok result) old new → OnErr result (HasLogged K kinds m from steps false old new)
on_err K kinds m from steps (Ok done) old new logged = tt
on_err K kinds m from steps (Err end) old new logged = logged

pub ruleset logging = (nothing_logged, source_is_early, source_is_orderly, on_ok, on_err)
