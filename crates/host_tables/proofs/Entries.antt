-- Entries written one after the other.
use Rattle.std.proofs.Common.{◌≡◌, ℕ, ◌+◌, ◌*◌, ◌/◌, ◌<◌, ◌≤◌, ◌^◌, ◌⊎◌, inl, inr, true, List, length, sym, subst, ◌∙◌, arith}
use Rattle.std.proofs.lemmas.Bool.{cases_lt}
use Rattle.arch_defs.specs.Frames.{LieIn, Only, Same, Within, within}
use Rattle.arch_defs.specs.Layouts.{Layout, NamesEachOnce, named_by, root_frames, table_frames, in_tables}
use Rattle.guest_settings.specs.Needs.{tables_for}
use Rattle.arch_defs.proofs.FrameSets.{only_both, in_range, range_within, kept, within_apart, apart_within}
use Rattle.arch_defs.proofs.Rooms.{range_room, first_lies, second_lies, fewer_lie}
use Rattle.table_words.specs.Words.{doubleword_at, with_word}
use Rattle.table_words.proofs.Words.{only_word, word_here, word_kept, word_there}
use Rattle.host_tables.specs.HostTable.{HasEntries, IsWrittenUpTo, root_word}

-- the frame of an entry
pub entry_in : (frame frames i : ℕ) → 8 * i + 8 ≤ frames * 4096 → within frame frames ((512 * frame + i) / 512) ≡ true
entry_in frame frames i room = in_range frame frames ((512 * frame + i) / 512) (omega arith) (omega (arith, room))

pub written_more : (frame frames i value : ℕ) (entry : ℕ → ℕ) (old between new : List ℕ) → 8 * i + 8 ≤ frames * 4096 → (frame + frames) * 4096 ≤ length old
    → IsWrittenUpTo frame frames i entry old between → value ≡ entry i → value < 2 ^ 64
    → new ≡ with_word between (512 * frame + i) value → IsWrittenUpTo frame frames (i + 1) entry old new
written_more frame frames i value entry old between new room inside so is small made = subst (IsWrittenUpTo frame frames (i + 1) entry old) (sym made) (record {
  entries = record { each = each };
  only = only_both (within frame frames) old between (with_word between (512 * frame + i) value) so.only
      (only_word (within frame frames) between (512 * frame + i) value fits (entry_in frame frames i room));
})
  where
    fits : 8 * (512 * frame + i) + 8 ≤ length between
    fits = omega (arith, so.only.size, room, inside)

    each : (k : ℕ) → k < i + 1 → doubleword_at (with_word between (512 * frame + i) value) (512 * frame + k) ≡ entry k
    each k h = by (cases_lt k i)
      where
        by : (k < i) ⊎ (i ≤ k) → doubleword_at (with_word between (512 * frame + i) value) (512 * frame + k) ≡ entry k
        by (inl before) = word_there between (512 * frame + i) value (512 * frame + k) fits (λ e. omega (arith, e, before)) ∙ so.entries.each k before
        by (inr last) =
            let e : i ≡ k = omega (arith, last, h) in
            subst (λ n. doubleword_at (with_word between (512 * frame + i) value) (512 * frame + n) ≡ entry n) e
            (word_here between (512 * frame + i) value fits small ∙ is)

-- entries stay where the bytes of their frames do
pub entries_stay : (frame frames count : ℕ) (entry : ℕ → ℕ) (old new : List ℕ) → 8 * count ≤ frames * 4096 → Same (within frame frames) old new
    → HasEntries frame count entry old → HasEntries frame count entry new
entries_stay frame frames count entry old new room same entries = record {
  each = λ i h. word_kept (within frame frames) old new (512 * frame + i) same (entry_in frame frames i (omega (arith, h, room))) ∙ entries.each i h;
}

-- the parts of the host table in the frames of a part
pub root_in : (part : Layout) → Within (within part.first_root 4) (root_frames part)
root_in part = range_within part.first_root 4 part.first_root (4 * (1 + part.spaces)) (omega arith) (omega arith)

pub table_in : (part : Layout) → Within (within part.first_table 1) (table_frames part)
table_in part = range_within part.first_table 1 part.first_table (1 + part.spaces * tables_for part.entries) (omega arith) (omega arith)

pub root_room : (part : Layout) (size : ℕ) → LieIn (named_by part) size → (part.first_root + 4) * 4096 ≤ size
root_room part size lie =
    range_room part.first_root 4 size (omega arith)
    (fewer_lie (within part.first_root 4) (root_frames part) size (root_in part)
    (first_lies (root_frames part) (table_frames part) size (second_lies _ (in_tables part) size lie)))

pub table_room : (part : Layout) (size : ℕ) → LieIn (named_by part) size → (part.first_table + 1) * 4096 ≤ size
table_room part size lie =
    range_room part.first_table 1 size (omega arith)
    (fewer_lie (within part.first_table 1) (table_frames part) size (table_in part)
    (second_lies (root_frames part) (table_frames part) size (second_lies _ (in_tables part) size lie)))

-- the root stays where the other table is written
pub root_stays : (part : Layout) (old new : List ℕ) → NamesEachOnce part → HasEntries part.first_root 2048 (root_word part.first_table) old
    → Only (within part.first_table 1) old new → HasEntries part.first_root 2048 (root_word part.first_table) new
root_stays part old new once entries only =
    entries_stay part.first_root 4 2048 (root_word part.first_table) old new (omega arith)
    (kept (within part.first_root 4) (within part.first_table 1) old new
    (apart_within (within part.first_root 4) (within part.first_table 1) (table_frames part) (table_in part)
    (within_apart (within part.first_root 4) (root_frames part) (table_frames part) (root_in part) once.roots)) only)
    entries

pub root_fits : (i : ℕ) → i < 2048 → 8 * i + 8 ≤ 4 * 4096
root_fits i h = omega arith

pub table_fits : (i : ℕ) → i < 512 → 8 * i + 8 ≤ 1 * 4096
table_fits i h = omega arith
