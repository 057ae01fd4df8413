-- Uses of cached translations that the tables, as RAM is now, do not give (Privileged Architecture 20211203,
-- 4.2.1 and 8.3.2, permit them until a fence).
use Rattle.std.specs.Prelude.{ℕ, zero, suc, ◌+◌, ◌==◌, ◌&&◌, nat_le, Bool, true, not, List, [], ◌∷◌, Option, Some, None, option_map, if◌then◌else◌}
use Rattle.std.specs.List.{flat_map, list_any}
use Rattle.arch_defs.specs.declared.cached.Entry.{Entry}
use Rattle.arch_defs.specs.declared.first.FirstEntry.{FirstEntry}
use Rattle.arch_defs.specs.declared.registers.Virtual.{Virtual}
use Rattle.arch_defs.specs.declared.roots.GuestRoot.{GuestRoot}
use Rattle.arch_defs.specs.FirstEntries.{is_first_of}
use Rattle.arch_defs.specs.Memory.{ram_memory}
use Rattle.arch_defs.specs.Roots.{is_root}
use Rattle.arch_defs.specs.WalkedEntries.{entry_by_walk}
use Rattle.log_lines.specs.declared.lines.Line.{Line}
use Rattle.log_lines.specs.declared.lines.Line.TheVariants as line
use Rattle.log_lines.specs.declared.translations.Leaf.{Leaf}
use Rattle.log_lines.specs.declared.translations.Translation.{Translation}
use Rattle.machine_defs.specs.Answers.{mmu_by_walk}
use Rattle.machine_defs.specs.FirstLeaves.{entry_walked, tag_of}
use Rattle.machine_defs.specs.Freshness.{next_found}
use Rattle.machine_defs.specs.Machine.{Machine}
use Rattle.machine_defs.specs.Runs.{run}
use Rattle.run_log.specs.Fills.{leaf_of_first, first_translation, next_filled, leaf_of_second, second_translation}
use Rattle.run_log.specs.Seen.{Seen, head_of}
use Rattle.run_log.specs.declared.uses.Use.{Use}
use Rattle.run_log.specs.declared.uses.Use.TheVariants.{First, Second}
use Rattle.run_log.specs.Uses.{uses}

-- what the tables give for the same access of a machine that has the device page or not: the walk of both
-- stages as the registers and RAM are
abbrev pub leaf_by_tables : Bool → Virtual → List ℕ → Use → Option Leaf
leaf_by_tables device virt ram (First e va access) = option_map leaf_of_first
    (entry_walked (tag_of virt) (mmu_by_walk (ram_memory ram) virt.csrs virt.mode) virt va access)
leaf_by_tables device virt ram (Second e address kind) =
    option_map leaf_of_second (entry_by_walk device virt.csrs ram address kind)

abbrev pub leaf_now : Machine → Use → Option Leaf
leaf_now m used = leaf_by_tables m.device m.platform.virt m.ram used

-- a cached translation as the log names it, of the second stage for this hgatp
abbrev pub translation_of : GuestRoot → Use → Translation
translation_of hgatp (First e va access) = first_translation e
translation_of hgatp (Second e address kind) = second_translation hgatp e

-- its frame
abbrev pub cached_frame : Use → ℕ
cached_frame (First e va access) = e.frame
cached_frame (Second e address kind) = e.frame

-- whether its use is stale: the access would have another frame, or be no access at all. Other rights that
-- permit it, and another level, are no harm to it (own)
abbrev pub has_another_frame : ℕ → Option Leaf → Bool
has_another_frame frame (Some leaf) = not (leaf.frame == frame)
has_another_frame frame None = true

abbrev pub is_stale : Machine → Use → Bool
is_stale m used = has_another_frame (cached_frame used) (leaf_now m used)

-- the last of the first n steps of which something holds
abbrev pub last_where : (ℕ → Bool) → ℕ → Option ℕ
last_where holds zero = None
last_where holds (suc n) = if holds n then Some n else last_where holds n

-- whether a machine's next step caches it, under the same hgatp where it is one of the second stage
abbrev pub caches_first : FirstEntry → Machine → Bool
caches_first e m = list_any (is_first_of e.tag e.atp e.page) (next_found m)

abbrev pub caches_second : GuestRoot → Entry → Machine → Bool
caches_second hgatp e m =
    is_root m.platform.virt.csrs.hgatp hgatp && list_any (λ other. other.page == e.page) (next_filled m)

abbrev pub caches : GuestRoot → Use → Machine → Bool
caches hgatp (First e va access) m = caches_first e m
caches hgatp (Second e address kind) m = caches_second hgatp e m

-- how many steps may have cached what step n uses: one of the first stage is cached after the accesses of the
-- step that finds it, and one of the second before them
abbrev pub steps_before_use : ℕ → Use → ℕ
steps_before_use n (First e va access) = n
steps_before_use n (Second e address kind) = n + 1

-- the step that has cached it, of those from the first one of the log on; none where it was cached before
unfoldable pub since_of : Machine → ℕ → ℕ → GuestRoot → Use → Option ℕ
since_of origin from n hgatp used =
    last_where (λ i. nat_le from i && caches hgatp used (run origin i)) (steps_before_use n used)

abbrev pub stale_line : Machine → ℕ → Seen → Use → Line
stale_line origin from s used = let hgatp = s.tried.platform.virt.csrs.hgatp in line.Stale (record {
  head = head_of s;
  used = translation_of hgatp used;
  walked = leaf_now s.tried used;
  since = since_of origin from s.number hgatp used;
})

abbrev pub stale_line_if : Machine → ℕ → Seen → Use → List Line
stale_line_if origin from s used = if is_stale s.tried used then stale_line origin from s used ∷ [] else []

unfoldable pub stale_lines : Machine → ℕ → Seen → List Line
stale_lines origin from s = flat_map (stale_line_if origin from s) (uses s.tried)
