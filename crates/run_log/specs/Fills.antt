-- The translations that a step caches, of the second stage before its last try, and of the first stage with
-- it (own, within what Privileged Architecture 20211203, 4.2.1, 8.3.2 and 8.5, permits).
use Rattle.std.specs.Prelude.{ℕ, zero, suc, true, List, [], ◌∷◌, ◌++◌, Option, Some, None, map}
use Rattle.arch_defs.specs.declared.cached.Entry.{Entry}
use Rattle.arch_defs.specs.declared.first.FirstEntry.{FirstEntry}
use Rattle.arch_defs.specs.declared.first.Tag.{Tag}
use Rattle.arch_defs.specs.declared.first.Tag.TheVariants.{Flat, Nested}
use Rattle.arch_defs.specs.declared.roots.GuestRoot.{GuestRoot}
use Rattle.arch_defs.specs.CsrBits.{hgatp_bits, satp_bits}
use Rattle.guest_settings.specs.declared.statuses.Status.{Status}
use Rattle.guest_settings.specs.declared.statuses.Status.TheVariants.{Running, Waiting, Stopped}
use Rattle.log_lines.specs.declared.lines.Line.{Line}
use Rattle.log_lines.specs.declared.lines.Line.TheVariants as line
use Rattle.log_lines.specs.declared.translations.Leaf.{Leaf}
use Rattle.log_lines.specs.declared.translations.Stage.TheVariants.{First, Second}
use Rattle.log_lines.specs.declared.translations.Translation.{Translation}
use Rattle.machine_defs.specs.Fills.{fill, missing_entry, most_fills}
use Rattle.machine_defs.specs.Freshness.{next_found}
use Rattle.machine_defs.specs.Machine.{Machine}
use Rattle.run_log.specs.Seen.{Seen, head_of}

-- what is filled for a machine's next step, in order, up to a limit
abbrev pub filled_then : (Machine → List Entry) → Machine → Option Entry → List Entry
filled_then others m None = []
filled_then others m (Some e) = e ∷ others (fill m e)

unfoldable pub filled_within : ℕ → Machine → List Entry
filled_within zero m = []
filled_within (suc n) m = filled_then (filled_within n) m (missing_entry m)

abbrev pub filled_by_status : Machine → Status → List Entry
filled_by_status m Running = filled_within (most_fills m) m
filled_by_status m Waiting = []
filled_by_status m Stopped = []

unfoldable pub next_filled : Machine → List Entry
next_filled m = filled_by_status m m.platform.status

-- a cached translation of the second stage, for this hgatp. Each leaf of a second-stage table has U (8.5.1)
abbrev pub leaf_of_second : Entry → Leaf
leaf_of_second e = record { frame = e.frame; r = e.r; w = e.w; x = e.x; u = true; level = e.level }

abbrev pub second_translation : GuestRoot → Entry → Translation
second_translation hgatp e = record {
  stage = Second;
  hgatp = Some (hgatp_bits hgatp);
  atp = None;
  page = e.page;
  leaf = leaf_of_second e;
}

-- one of the first stage
abbrev pub leaf_of_first : FirstEntry → Leaf
leaf_of_first e = record { frame = e.frame; r = e.r; w = e.w; x = e.x; u = e.u; level = e.level }

abbrev pub hgatp_of : Tag → Option ℕ
hgatp_of Flat = None
hgatp_of (Nested hgatp) = Some (hgatp_bits hgatp)

abbrev pub first_translation : FirstEntry → Translation
first_translation e = record {
  stage = First;
  hgatp = hgatp_of e.tag;
  atp = Some (satp_bits e.atp);
  page = e.page;
  leaf = leaf_of_first e;
}

abbrev pub fill_line : Seen → Translation → Line
fill_line s t = line.Fill (record { head = head_of s; filled = t })

unfoldable pub fill_lines : Seen → List Line
fill_lines s =
    map (λ e. fill_line s (second_translation s.before.platform.virt.csrs.hgatp e)) (next_filled s.before)
    ++ map (λ e. fill_line s (first_translation e)) (next_found s.before)
