-- The stale uses of a step, and their lines by what is kept of the machine before it and by the notes of what
-- the steps of the run have cached.
use Rattle.std.specs.Prelude.{ℕ, ◌≡◌, List, [], ◌∷◌, if◌then◌else◌}
use Rattle.std.specs.List.{All, flat_map}
use Rattle.log_lines.specs.declared.lines.Line.{Line}
use Rattle.log_lines.specs.declared.lines.Line.TheVariants as line
use Rattle.machine_defs.specs.Machine.{Machine}
use Rattle.machine_defs.specs.Tries.{found_by_try, stages_of}
use Rattle.run_log.specs.declared.uses.Use.{Use}
use Rattle.run_log.specs.Seen.{Seen}
use Rattle.run_log.specs.Stale.{is_stale, leaf_now, since_of, translation_of}
use Rattle.run_log.specs.Uses.{uses}
use Rattle.rv64_hart.specs.Leaves.{leaves_list}
use Rattle.caching_steps.specs.declared.notes.Note.{Note}
use Rattle.caching_steps.specs.Noting.{used_name, noted_step}
use Rattle.step_logs.specs.Befores.{head_before}
use Rattle.step_logs.specs.declared.befores.Before.{Before}
use Rattle.step_logs.specs.declared.stale_uses.StaleUse.{StaleUse}
use Rattle.step_logs.specs.declared.stale_uses.StaleUses.{StaleUses}

-- a use that is stale, with what the tables give for its access
abbrev pub stale_if : Machine → Use → List StaleUse
stale_if m used =
    if is_stale m used then record { used = used; walked = leaf_now m used } ∷ [] else []

unfoldable pub stale_uses : Machine → List StaleUse
stale_uses m = flat_map (stale_if m) (uses m)

-- what is shown of a machine's next try: its stale uses, and what it finds of the first stage
pub record ShowsUses (m : Machine) (shown : StaleUses) : Type 0 where
  pub uses : shown.uses.items ≡ stale_uses m
  pub found : leaves_list shown.found ≡ found_by_try (stages_of m) m

-- the line of one, by what is kept of the machine before its step, and by notes
abbrev pub line_of_stale : Before → List Note → StaleUse → Line
line_of_stale before notes stale = let hgatp = before.csrs.hgatp in line.Stale (record {
  head = head_before before;
  used = translation_of hgatp stale.used;
  walked = stale.walked;
  since = noted_step notes (used_name hgatp stale.used);
})

-- the notes tell of each use of a step since when it is cached, as the log says it
abbrev pub TellUses : Machine → ℕ → Seen → List Note → Type 0
TellUses origin from s notes = let hgatp = s.before.platform.virt.csrs.hgatp in
    All (λ used. noted_step notes (used_name hgatp used) ≡ since_of origin from s.number hgatp used)
    (uses s.tried)
